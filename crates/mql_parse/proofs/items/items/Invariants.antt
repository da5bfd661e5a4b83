-- What is left goes on what was read so far to the same whole.
use Rattle.std.proofs.Common.{◌≡◌, [], length}
use Rattle.mql_parse.specs.Outcomes.{rest_of}
use Rattle.mql_parse.specs.Repeats.{repetition, list_turn}
use Rattle.mql_parse.specs.declared.faults.What.TheVariants as what
use Rattle.mql_parse.specs.SumReading.{sum, item_with}
use Rattle.mql_parse.specs.Views.{item_trees}
use Rattle.mql_parse.proofs.items.items.Given as goal

abbrev pub invariant-items : goal.invariant-items
invariant-items l = repetition (list_turn 93 what.CloseBracket (item_with (sum l.levels))) (item_trees l.items)
    (rest_of l.from) ≡ repetition (list_turn 93 what.CloseBracket (item_with (sum l.fn.levels))) [] (rest_of l.fn.from)

abbrev pub decreases-items : goal.decreases-items
decreases-items l = length l.from.bytes.now
