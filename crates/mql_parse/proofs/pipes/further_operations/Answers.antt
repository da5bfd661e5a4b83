use Rattle.mql_parse.specs.Outcomes.{rest_of}
use Rattle.mql_parse.proofs.Loops.{loop_goes_on, loop_is_shorter, loop_ends, loop_refused}
use Rattle.mql_parse.specs.PipeReading.{operation_turn}
use Rattle.mql_parse.specs.Views.{ops_seen}
use Rattle.mql_parse.proofs.PipeSound.{operation_turn_behind}
use Rattle.mql_parse.proofs.pipes.further_operations.Goals as goal

pub operations-preserved : goal.operations-preserved
operations-preserved c =
    let w = c.in-Ok-Again in
    loop_goes_on (operation_turn c.args.levels) (operation_turn_behind c.args.levels) (ops_seen c.operations.read)
    (ops_seen w.whole) (rest_of c.operations.from) (rest_of w.rest) _ (rw w.field-0-is at w.ensures.turn)
    c.operations.invariant

pub operations-smaller : goal.operations-smaller
operations-smaller c =
    let w = c.in-Ok-Again in
    loop_is_shorter (operation_turn c.args.levels) (operation_turn_behind c.args.levels) (ops_seen c.operations.read)
    (ops_seen w.whole) (rest_of c.operations.from) (rest_of w.rest) (rw w.field-0-is at w.ensures.turn)

pub returns-in-Ok-Done : goal.returns-in-Ok-Done
returns-in-Ok-Done c =
    let w = c.in-Ok-Done in
    record {
      read = loop_ends (operation_turn c.args.levels) (ops_seen c.operations.read) (ops_seen w.whole)
          (rest_of c.operations.from) (rest_of w.rest) _ (rw w.field-0-is at w.ensures.turn) c.operations.invariant;
    }

pub returns-in-Err : goal.returns-in-Err
returns-in-Err c = record {
  read = loop_refused ops_seen (operation_turn c.args.levels) (ops_seen c.operations.read)
      (rest_of c.operations.from) _ c.in-Err.refusal c.in-Err.ensures.turn c.operations.invariant;
}
