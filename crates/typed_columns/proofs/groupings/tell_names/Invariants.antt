-- What was found, with what is left.
use Rattle.std.proofs.Common.{◌≡◌, map, drop}
use Rattle.typed_trees.specs.Faults.{first_with}
use Rattle.typed_trees.specs.Groupings.{aggregate_name}
use Rattle.typed_trees.specs.Items.{taken_faults}
use Rattle.typed_columns.proofs.groupings.tell_names.Given as goal

abbrev pub invariant-loop-aggregate : goal.invariant-loop-aggregate
invariant-loop-aggregate l =
    first_with l.found.first (taken_faults l.taken (map aggregate_name (drop l.aggregate-index l.aggregates)))
    ≡ first_with l.fn.found.first (taken_faults l.fn.taken (map aggregate_name l.aggregates))
