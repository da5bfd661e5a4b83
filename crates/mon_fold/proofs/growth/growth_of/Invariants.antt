-- how much the points so far add
use Rattle.std.proofs.Common.{◌≡◌, ◌≤◌}
use Rattle.mon_fold.specs.GrowingTotals.{growth_between}
use Rattle.mon_fold.proofs.growth.growth_of.Given as goal

abbrev pub invariant-loop-place : goal.invariant-loop-place
invariant-loop-place l = record {
  from : l.start ≤ l.place;
  within : l.place ≤ l.end;
  sum : l.sum ≡ growth_between l.start l.place l.all;
}
