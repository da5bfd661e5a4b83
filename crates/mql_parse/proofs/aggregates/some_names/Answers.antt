use Rattle.mql_parse.specs.Outcomes.{rest_of, itself}
use Rattle.mql_parse.proofs.Loops.{loop_goes_on, loop_is_shorter, loop_ends, loop_refused}
use Rattle.mql_parse.specs.declared.faults.What.TheVariants as what
use Rattle.mql_parse.specs.TokenReading.{name}
use Rattle.mql_parse.specs.Repeats.{list_turn}
use Rattle.mql_parse.proofs.ListSound.{names_turn_behind}
use Rattle.mql_parse.proofs.aggregates.some_names.Goals as goal

pub names-preserved : goal.names-preserved
names-preserved c =
    let w = c.in-Ok-Again in
    loop_goes_on (list_turn 93 what.CloseBracket name) (names_turn_behind) (itself c.names.names) (itself w.whole)
    (rest_of c.names.from) (rest_of w.rest) _ (rw w.field-0-is at w.ensures.turn) c.names.invariant

pub names-smaller : goal.names-smaller
names-smaller c =
    let w = c.in-Ok-Again in
    loop_is_shorter (list_turn 93 what.CloseBracket name) (names_turn_behind) (itself c.names.names) (itself w.whole)
    (rest_of c.names.from) (rest_of w.rest) (rw w.field-0-is at w.ensures.turn)

pub returns-in-Ok-Done : goal.returns-in-Ok-Done
returns-in-Ok-Done c =
    let w = c.in-Ok-Done in
    record {
      read = loop_ends (list_turn 93 what.CloseBracket name) (itself c.names.names) (itself w.whole)
          (rest_of c.names.from) (rest_of w.rest) _ (rw w.field-0-is at w.ensures.turn) c.names.invariant;
    }

pub returns-in-Err : goal.returns-in-Err
returns-in-Err c = record {
  read = loop_refused itself (list_turn 93 what.CloseBracket name) (itself c.names.names)
      (rest_of c.names.from) _ c.in-Err.refusal c.in-Err.ensures.turn c.names.invariant;
}
