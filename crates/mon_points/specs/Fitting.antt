-- What is known of each row that is read.
use Rattle.std.specs.Prelude.{◌≡◌, true}
use Rattle.mon_schema.specs.Names.{SchemaLists}
use Rattle.mon_schema.specs.Fits.{fits}
use Rattle.mon_points.specs.declared.records.RowRead.{RowRead}
use Rattle.mon_points.specs.declared.records.RowRead.TheVariants as read

-- where a record reads as a row, the row is of schemas that are held
abbrev pub ReadFits : SchemaLists → RowRead → Type 0
ReadFits schemas (read.Row row) = fits schemas row ≡ true
ReadFits schemas (read.Fault fault) = Unit {0}
