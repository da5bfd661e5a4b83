-- What is left goes on what was read so far to the same whole.
use Rattle.std.proofs.Common.{◌≡◌, [], length}
use Rattle.mql_parse.specs.Outcomes.{rest_of, itself}
use Rattle.mql_parse.specs.Repeats.{repetition, list_turn}
use Rattle.mql_parse.specs.declared.faults.What.TheVariants as what
use Rattle.mql_parse.specs.TokenReading.{name}
use Rattle.mql_parse.proofs.aggregates.some_names.Given as goal

abbrev pub invariant-names : goal.invariant-names
invariant-names l = repetition (list_turn 93 what.CloseBracket name) (itself l.names) (rest_of l.from)
    ≡ repetition (list_turn 93 what.CloseBracket name) [] (rest_of l.fn.from)

abbrev pub decreases-names : goal.decreases-names
decreases-names l = length l.from.bytes.now
