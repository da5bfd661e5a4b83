-- What is left goes on what was read so far to the same whole.
use Rattle.std.proofs.Common.{◌≡◌, length}
use Rattle.mql_parse.specs.Outcomes.{rest_of}
use Rattle.mql_parse.specs.Repeats.{repetition}
use Rattle.mql_parse.specs.PipeReading.{operation_turn}
use Rattle.mql_parse.specs.Views.{ops_seen}
use Rattle.mql_parse.proofs.pipes.further_operations.Given as goal

abbrev pub invariant-operations : goal.invariant-operations
invariant-operations l = repetition (operation_turn l.levels) (ops_seen l.read) (rest_of l.from)
    ≡ repetition (operation_turn l.fn.levels) (ops_seen l.fn.first) (rest_of l.fn.from)

abbrev pub decreases-operations : goal.decreases-operations
decreases-operations l = length l.from.bytes.now
