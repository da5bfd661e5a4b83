-- How the rows of a join find each other: by their time and their cells in the columns that both tables have.
use Rattle.std.specs.Prelude.{ℕ, List, ◌++◌, map}
use Rattle.mon_value.specs.Groups.{cells_at, group_key, rows_in}
use Rattle.mon_value.specs.declared.tables.Table.{Table}
use Rattle.mon_value.specs.declared.tables.TimedRow.{TimedRow}
use Rattle.mon_table.specs.Places.{left_places, own_places, right_places}
use Rattle.mon_table.specs.declared.places.Places.{Places}

-- what a left row needs of the right table: the places of the columns that both have, in the left and in the
-- right, the places of the right's own columns, and the right's rows
pub record RightSide : Type 0 where
  pub lefts : List ℕ
  pub rights : List ℕ
  pub own : List ℕ
  pub rows : List TimedRow

-- these places, and the rows
abbrev pub side_at : Places → List TimedRow → RightSide
side_at places rows = record {
  lefts = places.lefts.items;
  rights = places.rights.items;
  own = places.own.items;
  rows = rows;
}

abbrev pub right_side : Table → Table → RightSide
right_side left right = record {
  lefts = left_places 0 left.columns right.columns;
  rights = right_places left.columns right.columns;
  own = own_places 0 left.columns right.columns;
  rows = right.rows;
}

-- the right rows that a left row is paired with: the group of its time and cells
abbrev pub partners : RightSide → TimedRow → List TimedRow
partners side left = rows_in side.rights (group_key side.lefts left) side.rows

-- a pair as a row
abbrev pub pair_row : List ℕ → TimedRow → TimedRow → TimedRow
pair_row own left right = record { time = left.time; cells = left.cells ++ cells_at own right.cells }

-- the pairs of a left row
abbrev pub left_pairs : RightSide → TimedRow → List TimedRow
left_pairs side left = map (pair_row side.own left) (partners side left)
