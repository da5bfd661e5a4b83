-- A row that is put into the tables in place: what it exchanges, and that the tables are then those with it.
use Rattle.std.specs.Prelude.{◌≡◌, ◌≤◌, ◌+◌, ◌^◌, ℕ, ℤ, List, [], ◌∷◌, ◌++◌, IsPermutation, Option, Some, None, Result, Ok, Err, Bool, false}
use Rattle.std.specs.List.{AllByRecursion}
use Rattle.mon_value.specs.declared.aggregates.Aggregate.{Aggregate}
use Rattle.mon_value.specs.declared.limits.TheConstants.{ROW_BITS}
use Rattle.mon_value.specs.declared.rows.Row.{Row}
use Rattle.mon_value.specs.declared.tables.Table.{Table}
use Rattle.mon_value.specs.declared.tables.TimedRow.{TimedRow}
use Rattle.mon_fold.specs.PartialGroups.{GroupsSoFar, PartialGroup}
use Rattle.typed_trees.specs.Meaning.{grid_of, load, rows_meant}
use Rattle.typed_trees.specs.Nodes as node
use Rattle.typed_trees.specs.Nodes.{NodeTree, TypedTree, columns_of}
use Rattle.kept_groups.specs.Changes.{AreApart, CanChange}
use Rattle.kept_groups.specs.Trades.{AreGroupsOver}
use Rattle.kept_groups.specs.declared.changes.Change.{Change}
use Rattle.kept_laws.specs.Flowing.{WorksByRow}
use Rattle.kept_exchanges.specs.Exchanges.{IsExchanged, comes, gones}
use Rattle.kept_exchanges.specs.Flows.{CanFlowBoth, rows_flowing}
use Rattle.kept_exchanges.specs.Pairs.{LeadTo}
use Rattle.kept_exchanges.specs.Traded.{AreChangesOf}
use Rattle.kept_exchanges.specs.declared.exchanges.Exchange.{Exchange}
use Rattle.standing_incr.specs.KeptTables.{aligned_part}
use Rattle.standing_incr.specs.Ways.{nodes_above}
use Rattle.standing_incr.specs.declared.tables.Side.{Side}
use Rattle.standing_incr.specs.declared.tables.Sides.{Sides}
use Rattle.standing_incr.specs.declared.ways.Stop.TheVariants as stop

-- the rows of the alignment over some rows, and their load
pub record IsSideOf (typed : TypedTree) (moment : ℤ) (some : List Row) (side : Side) : Type 0 where
  pub rows : IsPermutation (rows_meant (grid_of typed moment) (aligned_part typed.tree) some) side.rows
  pub load_is : side.load ≡ load typed some moment

-- what leads from one side to another, and the load with the one in the place of the other
pub record LeadsBetween (before after : Side) (so_far : ℕ) (sides : Sides) : Type 0 where
  pub lead : LeadTo before.rows after.rows sides.exchanges.items
  pub counted : sides.load + before.load ≡ so_far + after.load
  pub within : sides.load ≤ 2 ^ ROW_BITS

-- the same to the side of some rows
pub record LeadsFrom (typed : TypedTree) (moment : ℤ) (rows : List Row) (before : Side) (so_far : ℕ) (sides : Sides) :
    Type 0 where
  pub after : Side
  pub is : IsSideOf typed moment rows after
  pub leads : LeadsBetween before after so_far sides

-- exchanges lead from the rows that some rows mean to those that others mean, beside rows that stay
pub record AreExchangesOf (typed : TypedTree) (moment : ℤ) (held more : List Row) (exchanges : List Exchange) : Type 0
  where
    pub others : List TimedRow
    pub before : IsPermutation (rows_meant (grid_of typed moment) (aligned_part typed.tree) held)
        (gones exchanges ++ others)
    pub after : IsPermutation (rows_meant (grid_of typed moment) (aligned_part typed.tree) more)
        (comes exchanges ++ others)

-- what a row more exchanges, and the load with it
pub record AreSidesOf (typed : TypedTree) (moment : ℤ) (held : List Row) (row : Row) (sides : Sides) : Type 0 where
  pub lead : AreExchangesOf typed moment held (held ++ row ∷ []) sides.exchanges.items
  pub load_is : sides.load ≡ load typed (held ++ row ∷ []) moment
  pub within : sides.load ≤ 2 ^ ROW_BITS

-- ---- groups

-- groups can take exchanges, beside rows that stay, where the operations below work row by row
abbrev pub CanRegroupBy : List TimedRow → List ℕ → List Aggregate → NodeTree → List Exchange → List PartialGroup → Type 0
CanRegroupBy others by with input exchanges groups =
    AllByRecursion WorksByRow (nodes_above stop.Alignment input)
    → AllByRecursion (CanFlowBoth (nodes_above stop.Alignment input)) exchanges
    × ((changes : List Change)
    → AreChangesOf (nodes_above stop.Alignment input) by with groups exchanges changes → AreApart changes
    → CanChange (columns_of input) by with (rows_flowing (nodes_above stop.Alignment input) others) changes groups)

abbrev pub CanRegroup : List TimedRow → NodeTree → List Exchange → List PartialGroup → Type 0
CanRegroup others (node.GroupBy info by with input) exchanges groups = CanRegroupBy others by with input exchanges groups
CanRegroup others part exchanges groups = Unit {0}

-- the groups with the exchanges
pub record AreRegroupedBy (others : List TimedRow) (by : List ℕ) (with : List Aggregate) (input : NodeTree)
    (exchanges : List Exchange) (groups : List PartialGroup) : Type 0 where
  pub work : AllByRecursion WorksByRow (nodes_above stop.Alignment input)
  pub are : AreGroupsOver by with
      (rows_flowing (nodes_above stop.Alignment input) (comes exchanges)
      ++ rows_flowing (nodes_above stop.Alignment input) others) groups

abbrev pub AreRegrouped : List TimedRow → NodeTree → List Exchange → List PartialGroup → Type 0
AreRegrouped others (node.GroupBy info by with input) exchanges groups =
    AreRegroupedBy others by with input exchanges groups
AreRegrouped others part exchanges groups = ⊥

-- the parts with the exchanges
abbrev pub PartsPut : List TimedRow → NodeTree → List Exchange → Option GroupsSoFar → Option GroupsSoFar → Type 0
PartsPut others part exchanges None new = new ≡ None
PartsPut others part exchanges (Some groups) None = ⊥
PartsPut others part exchanges (Some groups) (Some new) =
    (new.columns ≡ groups.columns) × (new.kinds ≡ groups.kinds) × AreRegrouped others part exchanges new.groups

-- ---- what a call did

-- whether a row was put
abbrev pub is_put : {E : Type 0} → Result Bool E → Bool
is_put (Ok put) = put
is_put (Err fault) = false

-- a row is held with the others, and the rows of the table are exchanged
pub record HasPut (exchanges : List Exchange) (row : Row) (held : List Row) (table : Table) (more : List Row)
    (new : Table) : Type 0 where
  pub held_is : more ≡ held ++ row ∷ []
  pub columns_are : new.columns ≡ table.columns
  pub exchanged : IsExchanged exchanges table.rows new.rows
