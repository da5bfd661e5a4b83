-- Columns and what stands in them, and tables put together.
use Rattle.std.specs.Prelude.{◌≡◌, ◌+◌, ℕ, List, [], ◌∷◌, length, map, Bool, not, ◌&&◌, ◌||◌, ◌++◌}
use Rattle.std.specs.List.{AllByRecursion, filter, flat_map, list_all, list_any, zip}
use Rattle.std.specs.Ordering.{int_eq}
use Rattle.mon_value.specs.declared.columns.Column.{Column}
use Rattle.mon_value.specs.declared.tables.Table.{Table}
use Rattle.mon_value.specs.declared.values.Value.{Value}
use Rattle.mon_value.specs.declared.values.Value.TheVariants as value
use Rattle.mon_value.specs.declared.values.ValueType.{ValueType}
use Rattle.mon_value.specs.declared.values.ValueType.TheVariants as type
use Rattle.mon_value.specs.Same.{same_text, same_value}
use Rattle.mon_value.specs.declared.tables.TimedRow.{TimedRow}

-- Columns and what stands in them.

-- a value of a type; a distribution has one count more than its type has bounds
abbrev pub HasType : ValueType → Value → Type 0
HasType type.Int (value.Int z) = Unit {0}
HasType type.Int b = ⊥
HasType type.Bool (value.Bool p) = Unit {0}
HasType type.Bool b = ⊥
HasType type.Text (value.Text s) = Unit {0}
HasType type.Text b = ⊥
HasType (type.Dist bounds) (value.Dist counts) = length counts ≡ length bounds + 1
HasType (type.Dist bounds) b = ⊥

-- one cell for each column, of its type
abbrev pub FitColumns : List Column → List Value → Type 0
FitColumns [] [] = Unit {0}
FitColumns [] (cell ∷ cells) = ⊥
FitColumns (column ∷ columns) [] = ⊥
FitColumns (column ∷ columns) (cell ∷ cells) = HasType column.of cell × FitColumns columns cells

-- each row has one cell for each column
abbrev pub IsWhole : Table → Type 0
IsWhole table = AllByRecursion (λ row. length row.cells ≡ length table.columns) table.rows

abbrev pub column_names : List Column → List (List ℕ)
column_names columns = map (λ column. column.name) columns

-- Tables put together: the pairs of a join, and both sides of a union.

-- a cell and its column
abbrev pub Named : Type 0
Named = Column × Value

abbrev pub has_name : List ℕ → List Column → Bool
has_name name columns = list_any (λ column. same_text name column.name) columns

-- cells of one name are equal; cells of two names may be as they are
abbrev pub cells_agree : Named → Named → Bool
cells_agree left right = not (same_text left.0.name right.0.name) || same_value left.1 right.1

-- whether two rows stand at one time, and their cells in all columns of one name are equal
abbrev pub is_pair : List Column → List Column → TimedRow → TimedRow → Bool
is_pair lefts rights left right =
    int_eq left.time right.time
    && list_all (λ cell. list_all (λ other. cells_agree cell other) (zip rights right.cells)) (zip lefts left.cells)

-- the right table's columns whose names are not of the left's
abbrev pub right_columns : List Column → List Column → List Column
right_columns lefts rights = filter (λ column. not (has_name column.name lefts)) rights

-- the cells in these columns
abbrev pub right_cells : List Column → List Column → TimedRow → List Value
right_cells lefts rights right =
    map (λ cell. cell.1) (filter (λ (cell : Named). not (has_name cell.0.name lefts)) (zip rights right.cells))

-- the left's cells, and then those of the right's that have a name of their own
abbrev pub pair_of : List Column → List Column → TimedRow → TimedRow → TimedRow
pair_of lefts rights left right = record { time = left.time; cells = left.cells ++ right_cells lefts rights right }

-- the rows that one row of the left has in a join
abbrev pub pairs_of : List Column → List Column → List TimedRow → TimedRow → List TimedRow
pairs_of lefts rights rows left = map (pair_of lefts rights left) (filter (is_pair lefts rights left) rows)

-- every pair of a left and a right row that stand at one time and are equal in all columns of one name
abbrev pub join_of : Table → Table → Table
join_of left right = record {
  columns = left.columns ++ right_columns left.columns right.columns;
  rows = flat_map (pairs_of left.columns right.columns right.rows) left.rows;
}

-- the rows of both tables, under the columns that both have
abbrev pub union_of : Table → Table → Table
union_of a b = record { columns = a.columns; rows = a.rows ++ b.rows }
