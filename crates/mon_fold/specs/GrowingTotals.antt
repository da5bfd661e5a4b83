-- Windows over the points of a series that carry totals, by how much these grow.
use Rattle.std.specs.Prelude.{◌≡◌, ◌≤◌, ◌^◌, ℕ, ℤ, nat_lt, sum_by, length, List, Option, Some, None, if◌then◌else◌}
use Rattle.mon_value.specs.Values.{magnitude}
use Rattle.mon_value.specs.Grids.{values_of}
use Rattle.mon_value.specs.Groups.{numbers_in, sum_of}
use Rattle.mon_value.specs.Increases.{increases}
use Rattle.mon_value.specs.declared.rows.Point.{Point}
use Rattle.mon_value.specs.declared.values.Value.{Value}
use Rattle.mon_value.specs.declared.values.Value.TheVariants as value
use Rattle.mon_fold.specs.SlidingWindows.{points_between}
use Rattle.mon_fold.specs.declared.growth.Growth.{Growth}

-- the points between two places, each with what it adds to the one before it
abbrev pub increases_between : ℕ → ℕ → List Point → List Point
increases_between start end points = points_between start end (increases None points)

-- how much the points between two places add
abbrev pub growth_between : ℕ → ℕ → List Point → ℤ
growth_between start end points = sum_of (numbers_in (values_of (increases_between start end points)))

-- a number where there are points, and none where there aren't
abbrev pub told_growth : ℕ → ℕ → ℤ → Option Value
told_growth start end sum = if nat_lt start end then Some (value.Int sum) else None

-- what the increases for one time sum to at most: twice what the points for it do, with the one before them
abbrev pub most_grown : ℕ
most_grown = 2 ^ 125

-- a window among points that knows how much its points add
pub record IsGrown (window : Growth) (points : List Point) : Type 0 where
  pub ordered : window.start ≤ window.end
  pub within : window.end ≤ length points
  pub sum : window.sum ≡ growth_between window.start window.end points
  pub fits : sum_by magnitude (values_of (increases_between window.start window.end points)) ≤ most_grown
