use Rattle.mql_parse.specs.Outcomes.{rest_of, itself}
use Rattle.mql_parse.proofs.Loops.{loop_goes_on, loop_is_shorter, loop_ends, loop_refused}
use Rattle.mql_parse.specs.Folds.{aggregate_turn, aggregates}
use Rattle.mql_parse.proofs.ListSound.{aggregates_turn_behind}
use Rattle.mql_parse.proofs.aggregates.aggregates.Goals as goal

pub aggregates-preserved : goal.aggregates-preserved
aggregates-preserved c =
    let w = c.in-Ok-Again in
    loop_goes_on (aggregate_turn) (aggregates_turn_behind) (itself c.aggregates.aggregates) (itself w.whole)
    (rest_of c.aggregates.from) (rest_of w.rest) _ (rw w.field-0-is at w.ensures.turn) c.aggregates.invariant

pub aggregates-smaller : goal.aggregates-smaller
aggregates-smaller c =
    let w = c.in-Ok-Again in
    loop_is_shorter (aggregate_turn) (aggregates_turn_behind) (itself c.aggregates.aggregates) (itself w.whole)
    (rest_of c.aggregates.from) (rest_of w.rest) (rw w.field-0-is at w.ensures.turn)

pub returns-in-Ok-Done : goal.returns-in-Ok-Done
unfolding aggregates
returns-in-Ok-Done c =
    let w = c.in-Ok-Done in
    record {
      read = loop_ends (aggregate_turn) (itself c.aggregates.aggregates) (itself w.whole)
          (rest_of c.aggregates.from) (rest_of w.rest) _ (rw w.field-0-is at w.ensures.turn) c.aggregates.invariant;
    }

pub returns-in-Err : goal.returns-in-Err
unfolding aggregates
returns-in-Err c = record {
  read = loop_refused itself (aggregate_turn) (itself c.aggregates.aggregates)
      (rest_of c.aggregates.from) _ c.in-Err.refusal c.in-Err.ensures.turn c.aggregates.invariant;
}
