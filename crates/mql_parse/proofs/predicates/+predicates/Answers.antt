use Rattle.mql_ast.specs.Trees.{predicate_tree}
use Rattle.mql_parse.specs.Outcomes.{rest_of}
use Rattle.mql_parse.specs.PredicateReading.{negation, conjunction, and_turn, or_turn}
use Rattle.mql_parse.proofs.Loops.{loop_goes_on, loop_is_shorter, loop_ends, loop_refused}
use Rattle.mql_parse.proofs.PredicateSound.{and_turn_behind, or_turn_behind}
use Rattle.mql_parse.proofs.predicates.+predicates.Goals as goal

pub further_negations-parts-preserved : goal.further_negations-parts-preserved
further_negations-parts-preserved t c =
    let w = c.in-Ok-Again in
    loop_goes_on (and_turn (negation c.args.levels)) (and_turn_behind c.args.levels) (predicate_tree c.parts.left)
    (predicate_tree w.whole) (rest_of c.parts.from) (rest_of w.rest) _ (rw w.field-0-is at w.ensures.turn)
    c.parts.invariant

pub further_negations-parts-smaller : goal.further_negations-parts-smaller
further_negations-parts-smaller t c =
    let w = c.in-Ok-Again in
    loop_is_shorter (and_turn (negation c.args.levels)) (and_turn_behind c.args.levels) (predicate_tree c.parts.left)
    (predicate_tree w.whole) (rest_of c.parts.from) (rest_of w.rest) (rw w.field-0-is at w.ensures.turn)

pub further_negations-returns-in-Ok-Done : goal.further_negations-returns-in-Ok-Done
further_negations-returns-in-Ok-Done t c =
    let w = c.in-Ok-Done in
    record {
      read = loop_ends (and_turn (negation c.args.levels)) (predicate_tree c.parts.left)
          (predicate_tree w.whole) (rest_of c.parts.from) (rest_of w.rest) _ (rw w.field-0-is at w.ensures.turn)
          c.parts.invariant;
    }

pub further_negations-returns-in-Err : goal.further_negations-returns-in-Err
further_negations-returns-in-Err t c = record {
  read = loop_refused predicate_tree (and_turn (negation c.args.levels))
      (predicate_tree c.parts.left) (rest_of c.parts.from) _ c.in-Err.refusal c.in-Err.ensures.turn c.parts.invariant;
}

pub further_conjunctions-parts-preserved : goal.further_conjunctions-parts-preserved
further_conjunctions-parts-preserved t c =
    let w = c.in-Ok-Again in
    loop_goes_on (or_turn (conjunction c.args.levels)) (or_turn_behind c.args.levels) (predicate_tree c.parts.left)
    (predicate_tree w.whole) (rest_of c.parts.from) (rest_of w.rest) _ (rw w.field-0-is at w.ensures.turn)
    c.parts.invariant

pub further_conjunctions-parts-smaller : goal.further_conjunctions-parts-smaller
further_conjunctions-parts-smaller t c =
    let w = c.in-Ok-Again in
    loop_is_shorter (or_turn (conjunction c.args.levels)) (or_turn_behind c.args.levels) (predicate_tree c.parts.left)
    (predicate_tree w.whole) (rest_of c.parts.from) (rest_of w.rest) (rw w.field-0-is at w.ensures.turn)

pub further_conjunctions-returns-in-Ok-Done : goal.further_conjunctions-returns-in-Ok-Done
further_conjunctions-returns-in-Ok-Done t c =
    let w = c.in-Ok-Done in
    record {
      read = loop_ends (or_turn (conjunction c.args.levels)) (predicate_tree c.parts.left)
          (predicate_tree w.whole) (rest_of c.parts.from) (rest_of w.rest) _ (rw w.field-0-is at w.ensures.turn)
          c.parts.invariant;
    }

pub further_conjunctions-returns-in-Err : goal.further_conjunctions-returns-in-Err
further_conjunctions-returns-in-Err t c =
    record {
      read = loop_refused predicate_tree (or_turn (conjunction c.args.levels)) (predicate_tree c.parts.left)
          (rest_of c.parts.from) _ c.in-Err.refusal c.in-Err.ensures.turn c.parts.invariant;
    }
