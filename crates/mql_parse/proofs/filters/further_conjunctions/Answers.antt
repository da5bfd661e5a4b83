use Rattle.mql_parse.specs.Outcomes.{rest_of}
use Rattle.mql_parse.proofs.Loops.{loop_goes_on, loop_is_shorter, loop_ends, loop_refused}
use Rattle.mql_parse.specs.PredicateReading.{conjunction, filter_turn}
use Rattle.mql_parse.specs.Views.{filter_seen}
use Rattle.mql_parse.proofs.PipeSound.{filter_turn_behind}
use Rattle.mql_parse.proofs.filters.further_conjunctions.Goals as goal

pub parts-preserved : goal.parts-preserved
parts-preserved c =
    let w = c.in-Ok-Again in
    loop_goes_on (filter_turn (conjunction c.args.levels)) (filter_turn_behind c.args.levels)
    (filter_seen c.parts.left) (filter_seen w.whole) (rest_of c.parts.from) (rest_of w.rest)
    _ (rw w.field-0-is at w.ensures.turn) c.parts.invariant

pub parts-smaller : goal.parts-smaller
parts-smaller c =
    let w = c.in-Ok-Again in
    loop_is_shorter (filter_turn (conjunction c.args.levels)) (filter_turn_behind c.args.levels)
    (filter_seen c.parts.left) (filter_seen w.whole) (rest_of c.parts.from) (rest_of w.rest)
    (rw w.field-0-is at w.ensures.turn)

pub returns-in-Ok-Done : goal.returns-in-Ok-Done
returns-in-Ok-Done c =
    let w = c.in-Ok-Done in
    record {
      read = loop_ends (filter_turn (conjunction c.args.levels)) (filter_seen c.parts.left)
          (filter_seen w.whole) (rest_of c.parts.from) (rest_of w.rest) _ (rw w.field-0-is at w.ensures.turn)
          c.parts.invariant;
    }

pub returns-in-Err : goal.returns-in-Err
returns-in-Err c = record {
  read = loop_refused filter_seen (filter_turn (conjunction c.args.levels))
      (filter_seen c.parts.left) (rest_of c.parts.from) _ c.in-Err.refusal c.in-Err.ensures.turn c.parts.invariant;
}
