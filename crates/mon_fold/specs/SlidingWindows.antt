-- Windows over the points of a series, by places.
use Rattle.std.specs.Prelude.{◌≡◌, ◌≤◌, ◌-◌, ℕ, sum_by, length, List, take, drop}
use Rattle.mon_value.specs.Values.{magnitude}
use Rattle.mon_value.specs.Grids.{most_aligned, values_of}
use Rattle.mon_value.specs.Groups.{total_of}
use Rattle.mon_value.specs.declared.rows.Point.{Point}
use Rattle.mon_fold.specs.declared.sliding.Window.{Window}

-- the points from a place up to another
abbrev pub points_between : ℕ → ℕ → List Point → List Point
points_between start end points = take (end - start) (drop start points)

-- a window among points that knows what its points add up to
pub record IsTotalled (window : Window) (points : List Point) : Type 0 where
  pub ordered : window.start ≤ window.end
  pub within : window.end ≤ length points
  pub total : window.total ≡ total_of (values_of (points_between window.start window.end points))
  pub fits : sum_by magnitude (values_of (points_between window.start window.end points)) ≤ most_aligned
