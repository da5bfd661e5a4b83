-- the rows so far and the pairs with the rows that are left are all
use Rattle.std.proofs.Common.{◌≡◌, ◌++◌, drop, map}
use Rattle.mon_table.specs.References.{rows_behind}
use Rattle.mon_table.specs.RightSides.{pair_row}
use Rattle.mon_table.proofs.pairs.push_pairs.Given as goal

abbrev pub invariant-loop-right : goal.invariant-loop-right
invariant-loop-right l =
    l.rows ++ map (pair_row l.own l.left) (rows_behind (drop l.right-index l.partners)) ≡ l.initial.rows
    ++ map (pair_row l.own l.left) (rows_behind l.partners)
