-- What was found, in front of what is left.
use Rattle.std.proofs.Common.{◌≡◌, ◌++◌, drop}
use Rattle.typed_trees.specs.FixedColumns.{new_fixed}
use Rattle.typed_columns.proofs.fixed.untaken.Given as goal

abbrev pub invariant-loop-one : goal.invariant-loop-one
invariant-loop-one l = l.new ++ new_fixed l.taken (drop l.one-index l.fixed) ≡ new_fixed l.fn.taken l.fixed
