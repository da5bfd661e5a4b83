-- How a table prints.
pub use Rattle.std.specs.Prelude.{codes}
use Rattle.std.specs.Prelude.{ℕ, true, List, [], ◌∷◌, ◌++◌, length, map}
use Rattle.std.specs.Fmt.{decimal, signed_decimal}
use Rattle.std.specs.List.{flat_map}
use Rattle.csv.specs.Writing.{default_writer, row_text}
use Rattle.csv.specs.declared.writer.WriterBuilder.{WriterBuilder}
use Rattle.mon_value.specs.Order.{sorted_rows}
pub use Rattle.mon_value.specs.Values.{value_text}
use Rattle.mon_value.specs.declared.tables.Table.{Table}
use Rattle.mon_value.specs.declared.tables.TimedRow.{TimedRow}
use Rattle.mon_value.specs.Tables.{column_names}

-- the writer of lines of any number of cells
abbrev pub line_writer : WriterBuilder
line_writer = record default_writer { flexible = true }

-- a line of comma-separated cells, quoted where a cell calls for it
abbrev pub csv_line : List (List ℕ) → List ℕ
csv_line cells = row_text line_writer cells

-- a table with its rows in their order
abbrev pub sorted_table : Table → Table
sorted_table table = record { columns = table.columns; rows = sorted_rows table.rows }

-- the cells of a row as texts: its time, and then its values
abbrev pub row_texts : TimedRow → List (List ℕ)
row_texts row = signed_decimal row.time ∷ map value_text row.cells

abbrev pub row_lines : List TimedRow → List ℕ
row_lines rows = flat_map (λ row. csv_line (row_texts row)) rows

-- the end of a line
abbrev pub newline : List ℕ
newline = 10 ∷ []

-- the line of the columns, and a line for each row
abbrev pub lines_of_rows : List (List ℕ) → List TimedRow → List ℕ
lines_of_rows names rows = csv_line (codes "time" ∷ names) ++ row_lines rows

-- a table prints as the line of its columns, a line for each row in order, and the number of rows
abbrev pub table_text : List (List ℕ) → List TimedRow → List ℕ
table_text names rows =
    lines_of_rows names (sorted_rows rows) ++ decimal (length rows) ++ codes " rows" ++ newline

-- what a table prints
abbrev pub printed_table : Table → List ℕ
printed_table table = table_text (column_names table.columns) table.rows
