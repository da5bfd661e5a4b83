-- the cells so far and those that are left are all
use Rattle.std.proofs.Common.{◌≡◌, ◌++◌, drop}
use Rattle.mon_fold.specs.GroupKeys.{cells_seen}
use Rattle.mon_fold.proofs.grouping.GroupKey.to_row.Given as goal

abbrev pub invariant-loop-cell : goal.invariant-loop-cell
invariant-loop-cell l = l.cells ++ cells_seen (drop l.cell-index l.self.cells.items) ≡ cells_seen l.self.cells.items
