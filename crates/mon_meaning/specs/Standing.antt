-- What a piece stands for: the rows of a part, and what of them goes up. The rows are a bag.
use Rattle.std.specs.Prelude.{◌≡◌, ℕ, List, [], ◌∷◌}
use Rattle.std.specs.List.Sorted.{IsPermutation}
use Rattle.mon_value.specs.Groups.{top_rows}
use Rattle.mon_value.specs.declared.aggregates.Aggregate.{Aggregate}
use Rattle.mon_value.specs.declared.columns.Column.{Column}
use Rattle.mon_value.specs.declared.grids.Grid.{Grid}
use Rattle.mon_value.specs.declared.rows.Row.{Row}
use Rattle.mon_value.specs.declared.tables.Table.{Table}
use Rattle.mon_value.specs.declared.tables.TimedRow.{TimedRow}
use Rattle.typed_trees.specs.Nodes.{columns_of}
use Rattle.typed_trees.specs.Levels as up
use Rattle.typed_trees.specs.Levels.{PieceMeant, TopPart, piece_meant}
use Rattle.mon_fold.specs.PartialGroups.{GroupsSoFar, parts_of}
use Rattle.mon_fold.specs.declared.answers.Piece.{Piece}
use Rattle.mon_fold.specs.declared.answers.Piece.TheVariants as piece

-- a table of rows, in some order, under columns
pub record IsTableOf (columns : List Column) (rows : List TimedRow) (table : Table) : Type 0 where
  pub columns_are : table.columns ≡ columns
  pub rows_are : IsPermutation rows table.rows

-- the partial groups of rows, taken in some order
pub record AreGroupsOf (columns : List Column) (by : List ℕ) (with : List Aggregate) (rows : List TimedRow)
    (groups : GroupsSoFar) : Type 0 where
  pub taken : List TimedRow
  pub rows_are : IsPermutation rows taken
  pub groups_are : groups ≡ parts_of columns by with taken

-- a piece stands for the rows of a part that has these columns
abbrev pub StandsFor : List Column → PieceMeant → Piece → Type 0
StandsFor columns (up.AsRows, rows) (piece.Table table) = IsTableOf columns rows table
StandsFor columns (up.AsRows, rows) (piece.Groups groups) = ⊥
StandsFor columns (up.ToGroup by with, rows) (piece.Table table) = ⊥
StandsFor columns (up.ToGroup by with, rows) (piece.Groups groups) = AreGroupsOf columns by with rows groups
StandsFor columns (up.ToCut most column, rows) (piece.Table table) =
    IsTableOf columns (top_rows most column rows) table
StandsFor columns (up.ToCut most column, rows) (piece.Groups groups) = ⊥

-- there is a piece for each part, which stands for the rows that the part means over a source
abbrev pub AllStandFor : Grid → List Row → List TopPart → List Piece → Type 0
AllStandFor grid source [] [] = Unit {0}
AllStandFor grid source [] (piece ∷ pieces) = ⊥
AllStandFor grid source (part ∷ parts) [] = ⊥
AllStandFor grid source (part ∷ parts) (piece ∷ pieces) =
    StandsFor (columns_of part.1) (piece_meant grid source part) piece × AllStandFor grid source parts pieces
