-- the cells so far and those at the places that are left are all
use Rattle.std.proofs.Common.{◌≡◌, ◌++◌, drop}
use Rattle.mon_value.specs.Groups.{cells_at}
use Rattle.mon_table.proofs.pairs.pair_cells.Given as goal

abbrev pub invariant-loop-place : goal.invariant-loop-place
invariant-loop-place l = l.cells.items ++ cells_at (drop l.place-index l.own) l.right.cells ≡ l.left.cells ++ cells_at l.own
    l.right.cells
