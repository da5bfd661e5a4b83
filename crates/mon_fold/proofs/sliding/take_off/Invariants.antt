-- what is left, and the counts of the points so far, are the counts
use Rattle.std.proofs.Common.{◌≡◌, ℕ, ◌+◌, get_or, take, length}
use Rattle.mon_value.specs.Groups.{counts_of, distributions_in}
use Rattle.mon_value.specs.Grids.{values_of}
use Rattle.mon_fold.proofs.sliding.take_off.Given as goal

abbrev pub invariant-loop-point : goal.invariant-loop-point
invariant-loop-point l = record {
  taken : (k : ℕ) → get_or l.counts k 0
      + get_or (counts_of (distributions_in (values_of (take l.point-index l.points)))) k 0 ≡ get_or l.fn.counts k 0;
  long : length l.counts ≡ length l.fn.counts;
}
