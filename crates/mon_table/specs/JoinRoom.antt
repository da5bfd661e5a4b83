-- Joins that have room for so many rows.
use Rattle.std.specs.Prelude.{ℕ, nat_lt, List, length, Option, Some, None, Result, Ok, Err, if◌then◌else◌}
use Rattle.mon_value.specs.declared.tables.Table.{Table}
use Rattle.mon_value.specs.declared.tables.TimedRow.{TimedRow}
use Rattle.mon_table.specs.declared.pairs.OverRoom.{OverRoom}

-- what so many rows are refused for, if they are more than the room
abbrev pub over_room : ℕ → ℕ → Option OverRoom
over_room room count = if nat_lt room count then Some (record { room = room }) else None

-- the rows, if they are no more than the room
abbrev pub rows_within_room : ℕ → List TimedRow → Result (List TimedRow) OverRoom
rows_within_room room rows = if nat_lt room (length rows) then Err (record { room = room }) else Ok rows

-- the table, if it has no more rows than the room
abbrev pub table_within_room : ℕ → Table → Result Table OverRoom
table_within_room room table = if nat_lt room (length table.rows) then Err (record { room = room }) else Ok table
