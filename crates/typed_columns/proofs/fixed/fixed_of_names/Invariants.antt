-- What was found, in front of what is left.
use Rattle.std.proofs.Common.{◌≡◌, ◌++◌, drop}
use Rattle.typed_trees.specs.FixedColumns.{named_in}
use Rattle.typed_columns.proofs.fixed.fixed_of_names.Given as goal

abbrev pub invariant-loop-one : goal.invariant-loop-one
invariant-loop-one l = l.named ++ named_in l.columns (drop l.one-index l.fixed) ≡ named_in l.columns l.fixed
