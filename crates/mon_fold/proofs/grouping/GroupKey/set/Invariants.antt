-- the cells so far and those at the places that are left are all
use Rattle.std.proofs.Common.{◌≡◌, ◌++◌, drop}
use Rattle.mon_value.specs.Groups.{cells_at}
use Rattle.mon_fold.specs.GroupKeys.{cells_seen}
use Rattle.mon_fold.proofs.grouping.GroupKey.set.Given as goal

abbrev pub invariant-loop-place : goal.invariant-loop-place
invariant-loop-place l = record {
  time : l.self.time ≡ l.row.time;
  cells : cells_seen l.self.cells.items ++ cells_at (drop l.place-index l.by) l.row.cells ≡ cells_at l.by l.row.cells;
}
