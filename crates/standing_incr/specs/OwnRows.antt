-- The rows of one series.
use Rattle.mon_value.specs.declared.rows.Point.{Point}
use Rattle.mon_value.specs.declared.rows.Row.{Row}
use Rattle.mon_value.specs.declared.rows.SeriesKey.{SeriesKey}

-- a point as a row of a series
abbrev pub row_at : SeriesKey → Point → Row
row_at key point = record { key = key; point = point }
