-- What was made, in front of what is left.
use Rattle.std.proofs.Common.{◌≡◌, ◌++◌, drop}
use Rattle.typed_trees.specs.Branches.{union_columns}
use Rattle.typed_columns.proofs.branches.union_columns.Given as goal

abbrev pub invariant-loop-left : goal.invariant-loop-left
invariant-loop-left l =
    l.columns ++ union_columns l.setting.schemas.now (drop l.left-index l.lefts) l.rest
    ≡ union_columns l.setting.schemas.now l.lefts l.rights
