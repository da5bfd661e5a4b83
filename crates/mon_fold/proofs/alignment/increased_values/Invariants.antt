-- the values so far and those of the times that are left are all; each time left is within the grid's
-- reach, and its sum fits; the last window knows how much its points add
use Rattle.std.proofs.Common.{◌≡◌, ◌-◌, ◌-ℤ◌, ◌<ℤ◌, ◌≤ℤ◌, ◌++◌}
use Rattle.std.specs.List.{AllByRecursion, flat_map}
use Rattle.mon_value.specs.Grids.{aligned_values, SumFits, timed_values, value_at, times_back}
use Rattle.mon_value.specs.declared.aligners.Aligner.TheVariants.{Increase}
use Rattle.mon_fold.specs.GrowingTotals.{IsGrown}
use Rattle.mon_fold.proofs.alignment.increased_values.Given as goal

abbrev pub invariant-loop : goal.invariant-loop
invariant-loop l = record {
  whole : l.values ++ flat_map (λ time. timed_values time (value_at (Increase l.seconds) l.points.points time))
      (times_back (l.end - l.counter) l.time l.grid.every) ≡ aligned_values (Increase l.seconds) l.grid l.points.points;
  left : AllByRecursion (λ time. (((l.grid.moment -ℤ l.grid.within) <ℤ time) × (time ≤ℤ l.grid.moment))
      × SumFits (Increase l.seconds) l.points.points time) (times_back (l.end - l.counter) l.time l.grid.every);
  grown : IsGrown l.growth l.points.points;
}
