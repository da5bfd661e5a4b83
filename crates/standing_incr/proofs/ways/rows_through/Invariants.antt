-- the operations that are left can be done, and make of the rows so far what all make
use Rattle.std.proofs.Common.{◌≡◌, length}
use Rattle.mon_meaning.specs.within.Paths.{trees_of}
use Rattle.standing_incr.specs.Ways.{CanGoThrough, rows_through}
use Rattle.standing_incr.proofs.ways.rows_through.Given as goal

abbrev pub invariant-loop-node : goal.invariant-loop-node
invariant-loop-node l = record {
  can : CanGoThrough (trees_of l.rest.items) l.made;
  whole : rows_through (trees_of l.rest.items) l.made ≡ rows_through (trees_of l.fn.above.items) l.fn.rows;
}

abbrev pub decreases-loop-node : goal.decreases-loop-node
decreases-loop-node l = length l.rest.items
