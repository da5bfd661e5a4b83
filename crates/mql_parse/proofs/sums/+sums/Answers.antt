use Rattle.mql_parse.specs.Outcomes.{rest_of}
use Rattle.mql_parse.specs.SumReading.{term, term_turn}
use Rattle.mql_parse.specs.Views.{sum_seen}
use Rattle.mql_parse.proofs.Loops.{loop_goes_on, loop_is_shorter, loop_ends, loop_refused}
use Rattle.mql_parse.proofs.SumSound.{term_turn_behind}
use Rattle.mql_parse.proofs.sums.+sums.Goals as goal

pub further_terms-terms-preserved : goal.further_terms-terms-preserved
further_terms-terms-preserved t c =
    let w = c.in-Ok-Again in
    loop_goes_on (term_turn (term c.args.levels)) (term_turn_behind c.args.levels) (sum_seen c.terms.left)
    (sum_seen w.sum) (rest_of c.terms.from) (rest_of w.rest) _ (rw w.field-0-is at w.ensures.turn) c.terms.invariant

pub further_terms-terms-smaller : goal.further_terms-terms-smaller
further_terms-terms-smaller t c =
    let w = c.in-Ok-Again in
    loop_is_shorter (term_turn (term c.args.levels)) (term_turn_behind c.args.levels) (sum_seen c.terms.left)
    (sum_seen w.sum) (rest_of c.terms.from) (rest_of w.rest) (rw w.field-0-is at w.ensures.turn)

pub further_terms-returns-in-Ok-Done : goal.further_terms-returns-in-Ok-Done
further_terms-returns-in-Ok-Done t c =
    let w = c.in-Ok-Done in
    record {
      read = loop_ends (term_turn (term c.args.levels)) (sum_seen c.terms.left) (sum_seen w.sum)
          (rest_of c.terms.from) (rest_of w.rest) _ (rw w.field-0-is at w.ensures.turn) c.terms.invariant;
    }

pub further_terms-returns-in-Err : goal.further_terms-returns-in-Err
further_terms-returns-in-Err t c =
    record {
      read = loop_refused sum_seen (term_turn (term c.args.levels)) (sum_seen c.terms.left)
          (rest_of c.terms.from) _ c.in-Err.refusal c.in-Err.ensures.turn c.terms.invariant;
    }
