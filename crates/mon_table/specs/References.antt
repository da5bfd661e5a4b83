-- Rows that are kept by reference.
use Rattle.std.specs.Prelude.{List, map}
use Rattle.std.specs.Borrow.{Bor}
use Rattle.mon_value.specs.declared.tables.TimedRow.{TimedRow}

-- the rows that references point to
abbrev pub rows_behind : List (Bor TimedRow) → List TimedRow
rows_behind references = map (λ row. row.now) references
