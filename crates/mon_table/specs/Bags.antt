-- Tables as bags: the order in which their rows come plays no part.
use Rattle.std.specs.Prelude.{◌≡◌, ℕ, List}
use Rattle.std.specs.List.Sorted.{IsPermutation}
use Rattle.mon_value.specs.Tables.{join_of, union_of}
use Rattle.mon_value.specs.declared.columns.Column.{Column}
use Rattle.mon_value.specs.declared.tables.Table.{Table}
use Rattle.mon_value.specs.declared.tables.TimedRow.{TimedRow}
use Rattle.mon_table.specs.Tables.{table_text}

abbrev pub table_with : List Column → List TimedRow → Table
table_with columns rows = record { columns = columns; rows = rows }

abbrev pub joined_rows : List Column → List Column → List TimedRow → List TimedRow → List TimedRow
joined_rows lefts rights rows others = (join_of (table_with lefts rows) (table_with rights others)).rows

-- two joins of the same bags have the same bag of rows
abbrev pub JoinsAlike :
    List Column → List Column → List TimedRow → List TimedRow → List TimedRow → List TimedRow → Type 0
JoinsAlike lefts rights rows rows' others others' =
    IsPermutation rows rows' → IsPermutation others others'
    → IsPermutation (joined_rows lefts rights rows others) (joined_rows lefts rights rows' others')

abbrev pub united_rows : List Column → List TimedRow → List TimedRow → List TimedRow
united_rows columns rows others = (union_of (table_with columns rows) (table_with columns others)).rows

-- two unions of the same bags have the same bag of rows
abbrev pub UnionsAlike : List Column → List TimedRow → List TimedRow → List TimedRow → List TimedRow → Type 0
UnionsAlike columns rows rows' others others' =
    IsPermutation rows rows' → IsPermutation others others'
    → IsPermutation (united_rows columns rows others) (united_rows columns rows' others')

-- and so have they, whichever table comes first
abbrev pub UnionsCommute : List Column → List TimedRow → List TimedRow → Type 0
UnionsCommute columns rows others = IsPermutation (united_rows columns rows others) (united_rows columns others rows)

-- two tables of the same bag print the same text
abbrev pub PrintsAlike : List (List ℕ) → List TimedRow → List TimedRow → Type 0
PrintsAlike names rows others = IsPermutation rows others → table_text names rows ≡ table_text names others
