-- The rows of all series but one.
use Rattle.std.specs.Prelude.{List, filter, not}
use Rattle.mon_value.specs.Same.{same_series}
use Rattle.mon_value.specs.declared.rows.Row.{Row}
use Rattle.mon_value.specs.declared.rows.SeriesKey.{SeriesKey}

abbrev pub other_rows : SeriesKey → List Row → List Row
other_rows key rows = filter (λ (row : Row). not (same_series key row.key)) rows
