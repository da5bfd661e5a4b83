-- Of the rows of many series, those above a time, and in front of them the newest one of each series.
use Rattle.std.specs.Prelude.{ℤ, int_le, int_lt, Bool, ◌&&◌, ◌||◌, not, List, [], ◌∷◌, if◌then◌else◌}
use Rattle.std.specs.List.{list_any}
use Rattle.mon_value.specs.Same.{same_series}
use Rattle.mon_value.specs.declared.rows.Row.{Row}
use Rattle.mon_value.specs.declared.rows.SeriesKey.{SeriesKey}

-- over the rows that meet a fetch, and those of them that also matter at or before the start of its reach, where they
-- are the newest of their series there
module _ (met before : Row → Bool) where
  -- whether a row of a series is one that stands before the reach
  abbrev pub is_earlier : ℤ → SeriesKey → Row → Bool
  is_earlier start key row = same_series key row.key && (before row && int_le row.point.end start)

  -- whether a row matters, in front of others: it ends above the start of the reach, or it may stand before it and none
  -- of the others is a newer one of its series there
  abbrev pub is_needed : ℤ → Row → List Row → Bool
  is_needed start row others =
      met row && (int_lt start row.point.end || (before row && not (list_any (is_earlier start row.key) others)))

  abbrev pub needed_rows : ℤ → List Row → List Row
  needed_rows start [] = []
  needed_rows start (row ∷ rows) =
      if is_needed start row rows then row ∷ needed_rows start rows else needed_rows start rows
