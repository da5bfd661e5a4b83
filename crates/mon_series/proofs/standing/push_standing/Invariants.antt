-- the rows that stand, so far
use Rattle.std.proofs.Common.{◌≡◌, ◌≤◌, ◌++◌, ◌-◌, length, filter, take}
use Rattle.mon_series.specs.SeriesMaps.{hidden_held, series_held}
use Rattle.mon_series.specs.within.Hidden.{stands}
use Rattle.mon_series.specs.within.Places.{rows_at_places}
use Rattle.mon_series.proofs.standing.push_standing.Given as goal

abbrev pub invariant-loop-number : goal.invariant-loop-number
invariant-loop-number l = record {
  within : l.number ≤ length l.order.items;
  rows : l.rows ≡ l.fn.rows ++ filter (stands (hidden_held l.groups.entries))
      (rows_at_places (series_held l.groups.entries) (take l.number l.order.items));
}

abbrev pub decreases-loop-number : goal.decreases-loop-number
decreases-loop-number l = length l.order.items - l.number
