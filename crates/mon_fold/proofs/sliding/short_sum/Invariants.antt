-- the sum of the numbers so far
use Rattle.std.proofs.Common.{◌≡◌, take}
use Rattle.mon_value.specs.Groups.{sum_of, numbers_in}
use Rattle.mon_value.specs.Grids.{values_of}
use Rattle.mon_fold.proofs.sliding.short_sum.Given as goal

abbrev pub invariant-loop-point : goal.invariant-loop-point
invariant-loop-point l = l.sum ≡ sum_of (numbers_in (values_of (take l.point-index l.window)))
