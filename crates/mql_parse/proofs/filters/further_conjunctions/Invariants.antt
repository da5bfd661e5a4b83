-- What is left goes on what was read so far to the same whole.
use Rattle.std.proofs.Common.{◌≡◌, length}
use Rattle.mql_parse.specs.Outcomes.{rest_of}
use Rattle.mql_parse.specs.Repeats.{repetition}
use Rattle.mql_parse.specs.PredicateReading.{conjunction, filter_turn}
use Rattle.mql_parse.specs.Views.{filter_seen}
use Rattle.mql_parse.proofs.filters.further_conjunctions.Given as goal

abbrev pub invariant-parts : goal.invariant-parts
invariant-parts l = repetition (filter_turn (conjunction l.levels)) (filter_seen l.left) (rest_of l.from)
    ≡ repetition (filter_turn (conjunction l.fn.levels)) (filter_seen l.fn.first) (rest_of l.fn.from)

abbrev pub decreases-parts : goal.decreases-parts
decreases-parts l = length l.from.bytes.now
