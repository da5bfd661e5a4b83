-- The times that a query gives rows for, and series brought to them.
use Rattle.std.specs.Prelude.{ℕ, zero, suc, ◌+◌, ◌-◌, ◌*◌, ◌/◌, ◌≤◌, ℤ, pos, ◌-ℤ◌, ◌≤ℤ◌, unsigned_abs, List, [], ◌∷◌}
use Rattle.std.specs.Prelude.{◌<ℤ◌, int_lt, int_le, Bool, ◌&&◌, ◌≡◌, ◌^◌, sum_by, length, map, Option, Some, None}
use Rattle.std.specs.Prelude.{◌++◌, option_map}
use Rattle.std.specs.List.{AllByRecursion, filter, flat_map}
use Rattle.std.specs.Option.{option_or, option_to_list}
use Rattle.mon_value.specs.Increases.{increases}
use Rattle.mon_value.specs.Values.{LONGEST_DURATION, magnitude}
use Rattle.mon_value.specs.declared.grids.Grid.{Grid}
use Rattle.mon_value.specs.declared.rows.Point.{Point}
use Rattle.mon_value.specs.Groups.{total_of}
use Rattle.mon_value.specs.declared.aligners.Aligner.{Aligner}
use Rattle.mon_value.specs.declared.aligners.Aligner.TheVariants.{Delta, Increase, NextOlder}
use Rattle.mon_value.specs.declared.grids.TimedValue.{TimedValue}
use Rattle.mon_value.specs.declared.values.Value.{Value}
use Rattle.mon_value.specs.declared.values.Value.TheVariants as value

-- The times that a query gives rows for.

-- the most times that a grid has
abbrev pub most_times : ℕ
most_times = 10000

-- a number of seconds that a query may name
abbrev pub IsDuration : ℤ → Type 0
IsDuration seconds = (pos 1 ≤ℤ seconds) × (seconds ≤ℤ LONGEST_DURATION)

-- how many times a grid has: `within` divided by `every`, rounded up
abbrev pub time_count : Grid → ℕ
time_count grid = (unsigned_abs grid.within + (unsigned_abs grid.every - 1)) / unsigned_abs grid.every

-- so many times, each `every` seconds before the one in front of it
abbrev pub times_back : ℕ → ℤ → ℤ → List ℤ
times_back zero time every = []
times_back (suc more) time every = time ∷ times_back more (time -ℤ every) every

-- the times of a grid, the newest first: its moment, and back from it every `every` seconds, while they
-- are above `within` seconds before the moment
abbrev pub grid_times : Grid → List ℤ
grid_times grid = times_back (time_count grid) grid.moment grid.every

-- the least of its times
abbrev pub least_time : Grid → ℤ
least_time grid = grid.moment -ℤ pos ((time_count grid - 1) * unsigned_abs grid.every)

-- a grid that a query may have
pub record IsLawfulGrid (grid : Grid) : Type 0 where
  pub moment : pos 0 ≤ℤ grid.moment
  pub every : IsDuration grid.every
  pub within : IsDuration grid.within
  pub times : time_count grid ≤ most_times

-- The points of one series in time.

-- each point ends later than every point before it
abbrev pub EndsRise : List Point → Type 0
EndsRise [] = Unit {0}
EndsRise (point ∷ points) = AllByRecursion (λ later. point.end <ℤ later.end) points × EndsRise points

-- whether a point ends in the w seconds up to t: above t - w and at most t
abbrev pub ends_within : ℤ → ℤ → Point → Bool
ends_within t w point = int_lt (t -ℤ w) point.end && int_le point.end t

-- the points that end in the w seconds up to t, in their order
abbrev pub window_of : ℤ → ℤ → List Point → List Point
window_of t w points = filter (ends_within t w) points

-- the newest of the points of a series: the last, since their ends rise
abbrev pub newest_point : List Point → Option Point
newest_point [] = None
newest_point (point ∷ []) = Some point
newest_point (point ∷ next ∷ points) = newest_point (next ∷ points)

-- the points that end at a time or before it
abbrev pub ended_by : ℤ → List Point → List Point
ended_by time points = filter (λ point. int_le point.end time) points

-- the newest of the points, or else the one that stood before them
abbrev pub newest_or : Option Point → List Point → Option Point
newest_or before points = option_or (newest_point points) before

-- the points that end above a time, behind the newest of the others
abbrev pub with_earlier : ℤ → List Point → List Point
with_earlier start points =
    option_to_list (newest_point (ended_by start points)) ++ filter (λ point. int_lt start point.end) points

-- the points that end in the w seconds up to t, behind the newest of the earlier ones
abbrev pub window_with_earlier : ℤ → ℤ → List Point → List Point
window_with_earlier t w points = option_to_list (newest_point (ended_by (t -ℤ w) points)) ++ window_of t w points

-- Series brought to the times of a grid.

-- how many seconds an aligner looks back
abbrev pub seconds_of : Aligner → ℤ
seconds_of (Delta seconds) = seconds
seconds_of (Increase seconds) = seconds
seconds_of (NextOlder seconds) = seconds

abbrev pub values_of : List Point → List Value
values_of points = map (λ point. point.value) points

-- a series as an aligner sees it: totals as what each point adds to the one before it, and others as they are
abbrev pub seen_as : Aligner → List Point → List Point
seen_as (Delta seconds) points = points
seen_as (Increase seconds) points = increases None points
seen_as (NextOlder seconds) points = points

-- what an aligner makes of the points that it sees: the value of the newest, or the sum or the merged
-- distribution of all; nothing of no points
abbrev pub value_made : Aligner → List Point → Option Value
value_made (NextOlder seconds) points = option_map (λ point. point.value) (newest_point points)
value_made (Delta seconds) points = total_of (values_of points)
value_made (Increase seconds) points = total_of (values_of points)

-- what a series has at a time: an aligner sees the points whose ends are above its seconds before the
-- time, and at most the time
abbrev pub value_at : Aligner → List Point → ℤ → Option Value
value_at by points time = value_made by (window_of time (seconds_of by) (seen_as by points))

abbrev pub timed_values : ℤ → Option Value → List TimedValue
timed_values time None = []
timed_values time (Some value) = record { time = time; value = value } ∷ []

-- a series aligned: the value at each time of the grid, the newest time first, and none at a time at
-- which the aligner sees no point
abbrev pub aligned_values : Aligner → Grid → List Point → List TimedValue
aligned_values by grid points = flat_map (λ time. timed_values time (value_at by points time)) (grid_times grid)

-- ---- which series can be aligned

-- two values that can be added: numbers, or distributions of one number of buckets
abbrev pub CanAdd : Value → Value → Type 0
CanAdd (value.Int y) (value.Int z) = Unit {0}
CanAdd (value.Int y) b = ⊥
CanAdd (value.Dist counts) (value.Dist others) = length others ≡ length counts
CanAdd (value.Dist counts) b = ⊥
CanAdd (value.Bool p) b = ⊥
CanAdd (value.Text s) b = ⊥

-- values that are all numbers, or all distributions of one number of buckets
abbrev pub CanAddAll : List Value → Type 0
CanAddAll [] = Unit {0}
CanAddAll (first ∷ values) = AllByRecursion (CanAdd first) (first ∷ values)

abbrev pub IsNumber : Value → Type 0
IsNumber (value.Int z) = Unit {0}
IsNumber (value.Bool p) = ⊥
IsNumber (value.Text s) = ⊥
IsNumber (value.Dist counts) = ⊥

-- what the magnitudes of the points that are added for one time sum to at most
abbrev pub most_aligned : ℕ
most_aligned = 2 ^ 124

-- an aligner that adds meets values that can be added, and totals are numbers
abbrev pub CanAddUnder : Aligner → List Point → Type 0
CanAddUnder (NextOlder seconds) points = Unit {0}
CanAddUnder (Delta seconds) points = CanAddAll (values_of points)
CanAddUnder (Increase seconds) points = AllByRecursion IsNumber (values_of points)

-- an aligner that adds meets no more than so much for a time, the point before its window among what it takes increases
-- of
abbrev pub SumFits : Aligner → List Point → ℤ → Type 0
SumFits (NextOlder seconds) points time = Unit {0}
SumFits (Delta seconds) points time = sum_by magnitude (values_of (window_of time seconds points)) ≤ most_aligned
SumFits (Increase seconds) points time =
    sum_by magnitude (values_of (window_with_earlier time seconds points)) ≤ most_aligned

-- a series that an aligner can bring to the times of a grid
pub record CanAlign (by : Aligner) (grid : Grid) (points : List Point) : Type 0 where
  pub looks_back : IsDuration (seconds_of by)
  pub lawful : IsLawfulGrid grid
  pub alike : CanAddUnder by points
  pub sums : AllByRecursion (SumFits by points) (grid_times grid)
