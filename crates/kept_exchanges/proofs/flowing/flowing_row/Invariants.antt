-- the operations that are left can be done, and make of the row so far what all make
use Rattle.std.proofs.Common.{◌≡◌, ◌≤◌, Some, length, take}
use Rattle.mon_meaning.specs.within.Paths.{trees_of}
use Rattle.kept_exchanges.specs.Flows.{CanFlow, row_flowing}
use Rattle.kept_exchanges.proofs.flowing.flowing_row.Given as goal

abbrev pub invariant-loop-left : goal.invariant-loop-left
invariant-loop-left l = record {
  within : l.left ≤ length l.above;
  can : CanFlow (trees_of (take l.left l.above)) l.made;
  whole : row_flowing (trees_of (take l.left l.above)) l.made ≡ row_flowing (trees_of l.above) (Some l.fn.row);
}

abbrev pub decreases-loop-left : goal.decreases-loop-left
decreases-loop-left l = l.left
