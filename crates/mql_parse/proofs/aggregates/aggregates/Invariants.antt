-- What is left goes on what was read so far to the same whole.
use Rattle.std.proofs.Common.{◌≡◌, [], length}
use Rattle.mql_parse.specs.Outcomes.{rest_of, itself}
use Rattle.mql_parse.specs.Repeats.{repetition}
use Rattle.mql_parse.specs.Folds.{aggregate_turn}
use Rattle.mql_parse.proofs.aggregates.aggregates.Given as goal

abbrev pub invariant-aggregates : goal.invariant-aggregates
invariant-aggregates l = repetition (aggregate_turn) (itself l.aggregates) (rest_of l.from)
    ≡ repetition (aggregate_turn) [] (rest_of l.fn.from)

abbrev pub decreases-aggregates : goal.decreases-aggregates
decreases-aggregates l = length l.from.bytes.now
