-- The columns so far are the same.
use Rattle.std.proofs.Common.{◌≡◌, drop}
use Rattle.typed_trees.specs.Branches.{same_columns}
use Rattle.typed_columns.proofs.branches.same_columns.Given as goal

abbrev pub invariant-loop-left : goal.invariant-loop-left
invariant-loop-left l = same_columns (drop l.left-index l.lefts) l.rest ≡ same_columns l.lefts l.rights
