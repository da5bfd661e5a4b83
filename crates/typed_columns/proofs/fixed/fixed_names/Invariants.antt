-- The names so far, with those that are left.
use Rattle.std.proofs.Common.{◌≡◌, [], drop}
use Rattle.typed_trees.specs.FixedColumns as spec
use Rattle.typed_trees.specs.Items.{with_names}
use Rattle.typed_columns.proofs.fixed.fixed_names.Given as goal

abbrev pub invariant-loop-one : goal.invariant-loop-one
invariant-loop-one l =
    with_names l.names (spec.fixed_names (drop l.one-index l.fixed)) ≡ with_names [] (spec.fixed_names l.fixed)
