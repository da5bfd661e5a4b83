-- What a series is seen as.
use Rattle.std.specs.Prelude.{ℕ, List, ◌++◌}
use Rattle.mon_value.specs.declared.rows.Point.{Point}

-- the points of a series in order, the hidden ones and those that stand behind them; and for how many more room was
-- made
pub record SeriesPoints : Type 0 where
  pub hidden : List Point
  pub points : List Point
  pub spare : ℕ

-- the points of a series, hidden or not
abbrev pub all_points : SeriesPoints → List Point
all_points series = series.hidden ++ series.points
