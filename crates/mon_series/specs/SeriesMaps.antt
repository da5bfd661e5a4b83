-- Series as a map holds them.
use Rattle.std.specs.Prelude.{List, map}
use Rattle.mon_series.specs.SeriesPoints.{SeriesPoints, all_points}
use Rattle.mon_value.specs.declared.rows.Point.{Point}
use Rattle.mon_value.specs.declared.rows.SeriesKey.{SeriesKey}

-- some points of each series that a map holds, under its key
abbrev pub points_held : (SeriesPoints → List Point) → List (SeriesKey × SeriesPoints) → List (SeriesKey × List Point)
points_held of entries = map (λ entry. (entry.0, of entry.1)) entries

-- the series that a map holds, apart from the room in them
abbrev pub series_held : List (SeriesKey × SeriesPoints) → List (SeriesKey × List Point)
series_held = points_held all_points

-- the hidden points of each
abbrev pub hidden_held : List (SeriesKey × SeriesPoints) → List (SeriesKey × List Point)
hidden_held = points_held (λ series. series.hidden)
