-- the counts so far
use Rattle.std.proofs.Common.{◌≡◌, take, length}
use Rattle.mon_value.specs.Groups.{counts_added, counts_of, distributions_in}
use Rattle.mon_value.specs.Grids.{values_of}
use Rattle.mon_fold.proofs.sliding.merge_into.Given as goal

abbrev pub invariant-loop-point : goal.invariant-loop-point
invariant-loop-point l = record {
  added : l.counts ≡ counts_added l.fn.counts (counts_of (distributions_in (values_of (take l.point-index l.points))));
  long : length l.counts ≡ length l.fn.counts;
}
