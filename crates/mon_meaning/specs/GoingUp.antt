-- What pieces are made of, and what is counted of them.
use Rattle.std.specs.Prelude.{ℕ, List, length, sum_by}
use Rattle.mon_value.specs.Groups.{CanGroup}
use Rattle.mon_value.specs.declared.columns.Column.{Column}
use Rattle.mon_value.specs.declared.grids.Grid.{Grid}
use Rattle.mon_value.specs.declared.rows.Row.{Row}
use Rattle.mon_value.specs.declared.tables.TimedRow.{TimedRow}
use Rattle.typed_trees.specs.Meaning.{rows_meant}
use Rattle.typed_trees.specs.Levels as up
use Rattle.typed_trees.specs.Levels.{PartUse, TopPart, sent_of}
use Rattle.mon_fold.specs.declared.answers.Piece.{Piece}
use Rattle.mon_fold.specs.declared.answers.Piece.TheVariants as piece

-- rows of which a piece can be made: those whose groups go up can be grouped
abbrev pub CanGoUp : List Column → PartUse → List TimedRow → Type 0
CanGoUp columns up.AsRows rows = Unit {0}
CanGoUp columns (up.ToGroup by with) rows = CanGroup columns by with rows
CanGoUp columns (up.ToCut most column) rows = Unit {0}

-- how many rows or groups a piece has
abbrev pub items_sent : Piece → ℕ
items_sent (piece.Table table) = length table.rows
items_sent (piece.Groups groups) = length groups.groups

-- how many rows and groups go up of parts
abbrev pub parts_sent : Grid → List Row → List TopPart → ℕ
parts_sent grid source parts = sum_by (λ part. sent_of part.0 (rows_meant grid part.1 source)) parts
