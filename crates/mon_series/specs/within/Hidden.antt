-- Which rows are hidden, where the hidden points of each series are known.
use Rattle.std.specs.Prelude.{ℤ, Bool, not, int_le, int_lt, List, [], ◌++◌, filter, Option, Some, None}
use Rattle.std.specs.List.{list_any}
use Rattle.std.specs.Map.{lookup}
use Rattle.mon_value.specs.Same.{same_series}
use Rattle.mon_value.specs.declared.rows.Point.{Point}
use Rattle.mon_value.specs.declared.rows.Row.{Row}
use Rattle.mon_value.specs.declared.rows.SeriesKey.{SeriesKey}
use Rattle.mon_series.specs.SeriesPoints.{SeriesPoints}
use Rattle.mon_series.specs.SlotViews.{SlotView}
use Rattle.mon_series.specs.declared.placing.Place.{Place}
use Rattle.mon_series.specs.within.Places.{Group, rows_at_places}

abbrev pub points_or_none : Option (List Point) → List Point
points_or_none None = []
points_or_none (Some points) = points

-- the hidden points of a key's series
abbrev pub hidden_of : List Group → SeriesKey → List Point
hidden_of hidden key = points_or_none (lookup (same_series key) hidden)

-- whether one of these points ends with a point or later
abbrev pub reach : List Point → Point → Bool
reach points point = list_any (λ past. int_le point.end past.end) points

-- whether a row stands: it ends later than all hidden points of its series
abbrev pub stands : List Group → Row → Bool
stands hidden row = not (reach (hidden_of hidden row.key) row.point)

-- the rows at places, and those of them that stand
abbrev pub slot_of : List Group → List Group → List Place → SlotView
slot_of groups hidden places = record {
  rows = rows_at_places groups places;
  kept = filter (stands hidden) (rows_at_places groups places);
}

-- the points that end before a time
abbrev pub points_before : ℤ → List Point → List Point
points_before before points = filter (λ point. int_lt point.end before) points

-- a series of which those are hidden too
abbrev pub hiding : ℤ → (SeriesKey × SeriesPoints) → (SeriesKey × SeriesPoints)
hiding before entry = (
  entry.0,
  record {
    hidden = entry.1.hidden ++ points_before before entry.1.points;
    points = filter (λ point. not (int_lt point.end before)) entry.1.points;
    spare = entry.1.spare;
  },
)
