-- the rows so far and the pairs of the rows that are left are all
use Rattle.std.proofs.Common.{◌≡◌, ◌++◌, drop}
use Rattle.std.specs.List.{flat_map}
use Rattle.mon_table.specs.RightSides.{left_pairs}
use Rattle.mon_table.proofs.pairs.pairs.Given as goal

abbrev pub invariant-loop-left : goal.invariant-loop-left
invariant-loop-left l = l.rows ++ flat_map (left_pairs l.right_rows) (drop l.left-index l.lefts)
    ≡ flat_map (left_pairs l.right_rows) l.lefts
