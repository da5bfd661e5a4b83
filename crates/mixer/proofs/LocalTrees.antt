-- Trees of which some levels are local to a home: what is done there brings together rows of one home alone.
use Rattle.std.proofs.Common.{◌≡◌, Bool, true, List}
use Rattle.mon_value.specs.declared.columns.Anchor.{Anchor}
use Rattle.mon_value.specs.declared.grids.Grid.{Grid}
use Rattle.mon_value.specs.declared.rows.Row.{Row}
use Rattle.mon_value.specs.declared.values.Value.{Value}
use Rattle.mon_schema.specs.Names.{SchemaLists}
use Rattle.typed_trees.specs.Branches.{common_columns}
use Rattle.typed_trees.specs.Meaning.{rows_meant}
use Rattle.typed_trees.specs.Nodes as node
use Rattle.typed_trees.specs.Nodes.{NodeTree, columns_of, level_of}
use Rattle.typed_trees.specs.declared.levels.Level.{Level}
use Rattle.typed_trees.specs.FixedColumns.{meeting_columns}
use Rattle.mixer.proofs.HeldCells.{Tell}
use Rattle.mixer.proofs.StemmingRows.{AreWhole}

-- what is done at some levels takes only what is done there too; it brings together rows that agree in columns that
-- tell their home, or in which one literal is fixed; and no `top` is done there
module _ {H : Type 0} (Says : H → Anchor → Value → Type 0) (held : SchemaLists) (here : Level → Bool) where
  abbrev pub IsLocal : NodeTree → Type 0
  IsLocal (node.Fetch info schema metric) = Unit {0}
  IsLocal (node.Filter info by input) = (here info.level ≡ true → here (level_of input) ≡ true) × IsLocal input
  IsLocal (node.Align info by input) = Unit {0}
  IsLocal (node.GroupBy info by with input) =
      (here info.level ≡ true → (here (level_of input) ≡ true) × Tell Says (meeting_columns by input))
      × IsLocal input
  IsLocal (node.Value info items input) = (here info.level ≡ true → here (level_of input) ≡ true) × IsLocal input
  IsLocal (node.Top info most column input) = (here info.level ≡ true → ⊥) × IsLocal input
  IsLocal (node.Join info left right) =
      (here info.level ≡ true → ((here (level_of left) ≡ true) × (here (level_of right) ≡ true))
      × Tell Says (common_columns held (columns_of left) (columns_of right)))
      × (IsLocal left × IsLocal right)
  IsLocal (node.Union info left right) =
      (here info.level ≡ true → (here (level_of left) ≡ true) × (here (level_of right) ≡ true))
      × (IsLocal left × IsLocal right)

-- the rows that groups and values make have a cell for each column
abbrev pub MakesWhole : Grid → List Row → NodeTree → Type 0
MakesWhole grid rows (node.Fetch info schema metric) = Unit {0}
MakesWhole grid rows (node.Filter info by input) = MakesWhole grid rows input
MakesWhole grid rows (node.Align info by input) = Unit {0}
MakesWhole grid rows (node.GroupBy info by with input) =
    AreWhole info.columns (rows_meant grid (node.GroupBy info by with input) rows) × MakesWhole grid rows input
MakesWhole grid rows (node.Value info items input) =
    AreWhole info.columns (rows_meant grid (node.Value info items input) rows) × MakesWhole grid rows input
MakesWhole grid rows (node.Top info most column input) = MakesWhole grid rows input
MakesWhole grid rows (node.Join info left right) = MakesWhole grid rows left × MakesWhole grid rows right
MakesWhole grid rows (node.Union info left right) = MakesWhole grid rows left × MakesWhole grid rows right
