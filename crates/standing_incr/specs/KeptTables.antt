-- The tables of a query that are kept, and that a query has none.
use Rattle.std.specs.Prelude.{false, Option, Some, None, ◌≡◌, ◌≤◌, ◌^◌, ℕ, ℤ, List}
use Rattle.mon_value.specs.declared.grids.Grid.{Grid}
use Rattle.mon_value.specs.declared.limits.TheConstants.{ROW_BITS}
use Rattle.mon_value.specs.declared.refusals.Refusal.{Refusal}
use Rattle.mon_value.specs.declared.refusals.Refusal.TheVariants as refusal
use Rattle.mon_value.specs.declared.rows.Row.{Row}
use Rattle.mon_value.specs.declared.tables.Table.{Table}
use Rattle.mon_value.specs.declared.tables.TimedRow.{TimedRow}
use Rattle.mon_value.specs.Groups.{CanGroup}
use Rattle.mon_fold.specs.PartialGroups.{GroupsSoFar, parts_of}
use Rattle.mon_meaning.specs.Central.{IsOver}
use Rattle.mon_meaning.specs.Incremental.{is_incremental}
use Rattle.mon_meaning.specs.Standing.{AreGroupsOf, IsTableOf}
use Rattle.typed_trees.specs.Meaning.{grid_of, load, rows_meant}
use Rattle.typed_trees.specs.Nodes as node
use Rattle.typed_trees.specs.Nodes.{NodeTree, TypedTree, columns_of}
use Rattle.standing_incr.specs.Ways.{CanGoThrough, nodes_above, part_at, rows_through}
use Rattle.standing_incr.specs.declared.faults.NotIncremental.{NotIncremental}
use Rattle.standing_incr.specs.declared.tables.Standing.{Standing}
use Rattle.standing_incr.specs.declared.tables.Standing.TheVariants as standing
use Rattle.standing_incr.specs.declared.tables.Tables.{Tables}
use Rattle.standing_incr.specs.declared.ways.Stop.TheVariants as stop

-- a result can't be kept, want of memory aside
abbrev pub CannotBeKept : NodeTree → Refusal NotIncremental → Type 0
CannotBeKept tree (refusal.Fault fault) = is_incremental tree ≡ false
CannotBeKept tree refusal.OutOfMemory = Unit {0}

-- the alignment of a tree
abbrev pub aligned_part : NodeTree → NodeTree
aligned_part = part_at stop.Alignment

-- the grouping of a tree, or its alignment where it doesn't group
abbrev pub grouped_part : NodeTree → NodeTree
grouped_part = part_at stop.Grouping

-- the partial groups of what flows into a part that groups, and none where it doesn't
abbrev pub AreGroupsAt : Grid → List Row → NodeTree → Option GroupsSoFar → Type 0
AreGroupsAt grid rows (node.GroupBy info by with input) (Some groups) =
    AreGroupsOf (columns_of input) by with (rows_meant grid input rows) groups
AreGroupsAt grid rows (node.GroupBy info by with input) None = ⊥
AreGroupsAt grid rows part (Some groups) = ⊥
AreGroupsAt grid rows part None = Unit {0}

-- ---- how they are made

-- the rows of an alignment, brought to what flows into a part that groups
abbrev pub flowing_rows : NodeTree → List TimedRow → List TimedRow
flowing_rows input rows = rows_through (nodes_above stop.Alignment input) rows

abbrev pub CanGroupAt : NodeTree → List TimedRow → Type 0
CanGroupAt (node.GroupBy info by with input) rows =
    CanGoThrough (nodes_above stop.Alignment input) rows
    × CanGroup (columns_of input) by with (flowing_rows input rows)
CanGroupAt part rows = Unit {0}

abbrev pub groups_at : NodeTree → List TimedRow → Option GroupsSoFar
groups_at (node.GroupBy info by with input) rows = Some (parts_of (columns_of input) by with (flowing_rows input rows))
groups_at part rows = None

-- what is made of a table of the alignment, which came of a load
abbrev pub IsWholeOf : NodeTree → ℕ → Table → Standing → Type 0
IsWholeOf tree load table (standing.Whole tables) =
    tables ≡ record { load = load; table = table; parts = groups_at (grouped_part tree) table.rows }
IsWholeOf tree load table (standing.Above over) = ⊥

-- ---- what is kept

-- the table of the alignment of a query over rows at a moment
abbrev pub IsAligned : TypedTree → ℤ → List Row → Table → Type 0
IsAligned typed moment held table =
    IsTableOf (columns_of (aligned_part typed.tree)) (rows_meant (grid_of typed moment) (aligned_part typed.tree) held)
    table

-- the tables of a query over rows at a moment, and its load
pub record AreTablesOf (typed : TypedTree) (moment : ℤ) (held : List Row) (tables : Tables) : Type 0 where
  pub load : tables.load ≡ load typed held moment
  pub within : tables.load ≤ 2 ^ ROW_BITS
  pub table : IsAligned typed moment held tables.table
  pub parts : AreGroupsAt (grid_of typed moment) held (grouped_part typed.tree) tables.parts

-- the same, or that the load is above what a table may have
abbrev pub StandsFor : TypedTree → ℤ → List Row → Standing → Type 0
StandsFor typed moment held (standing.Whole tables) = AreTablesOf typed moment held tables
StandsFor typed moment held (standing.Above over) = IsOver typed held moment (2 ^ ROW_BITS) over
