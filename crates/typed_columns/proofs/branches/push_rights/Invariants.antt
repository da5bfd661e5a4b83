-- What was added, in front of what is left.
use Rattle.std.proofs.Common.{◌≡◌, ◌++◌, map, drop}
use Rattle.mon_value.specs.Tables.{right_columns}
use Rattle.typed_trees.specs.Branches.{as_joined}
use Rattle.typed_columns.proofs.branches.push_rights.Given as goal

abbrev pub invariant-loop-right : goal.invariant-loop-right
invariant-loop-right l =
    l.columns ++ map as_joined (right_columns l.lefts (drop l.right-index l.rights))
    ≡ l.fn.columns ++ map as_joined (right_columns l.lefts l.rights)
