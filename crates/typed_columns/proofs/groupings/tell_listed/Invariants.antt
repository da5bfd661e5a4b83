-- What was found, with what is left.
use Rattle.std.proofs.Common.{◌≡◌, drop}
use Rattle.std.specs.List.{flat_map}
use Rattle.typed_trees.specs.Faults.{first_with}
use Rattle.typed_trees.specs.Fetches.{unknown_faults}
use Rattle.typed_columns.proofs.groupings.tell_listed.Given as goal

abbrev pub invariant-loop-name : goal.invariant-loop-name
invariant-loop-name l =
    first_with l.found.first (flat_map (unknown_faults l.columns) (drop l.name-index l.names))
    ≡ first_with l.fn.found.first (flat_map (unknown_faults l.columns) l.names)
