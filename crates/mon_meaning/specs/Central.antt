-- What the central evaluation answers.
use Rattle.std.specs.Prelude.{◌≡◌, ◌<◌, ◌≤◌, ℕ, ℤ, true, List, Result, Ok, Err}
use Rattle.std.specs.Borrow.{Bor}
use Rattle.std.specs.List.{AllByRecursion, flat_map}
use Rattle.std.specs.List.Sorted.{IsPermutation}
use Rattle.mon_value.specs.Grids.{IsLawfulGrid}
use Rattle.mon_value.specs.LeafHistories.{points_by_series}
use Rattle.mon_value.specs.declared.grids.Grid.{Grid}
use Rattle.mon_value.specs.declared.refusals.Refusal.{Refusal}
use Rattle.mon_value.specs.declared.refusals.Refusal.TheVariants as refusal
use Rattle.mon_value.specs.declared.rows.Point.{Point}
use Rattle.mon_value.specs.declared.rows.Row.{Row}
use Rattle.mon_value.specs.declared.rows.SeriesKey.{SeriesKey}
use Rattle.mon_value.specs.declared.tables.Table.{Table}
use Rattle.mon_series.specs.HeldSeries.{held_series}
use Rattle.mon_series.specs.SlotViews.{SlotView}
use Rattle.typed_trees.specs.Meaning.{load, meaning}
use Rattle.typed_trees.specs.Nodes.{NodeTree, TypedTree, columns_of}
use Rattle.typed_trees.specs.Plans.{HasFetchColumns, fetches}
use Rattle.typed_trees.specs.Soundness.{IsEvaluable, IsTyped}
use Rattle.mon_schema.specs.Fits.{fits}
use Rattle.mon_schema.specs.Names.{SchemaLists}
use Rattle.mon_meaning.specs.declared.meter.OverLimit.{OverLimit}

-- the table of a query: the rows that it means, in some order, under its columns; its load is within the limit
pub record IsMeant (typed : TypedTree) (source : List Row) (moment : ℤ) (limit : ℕ) (table : Table) : Type 0 where
  pub columns : table.columns ≡ columns_of typed.tree
  pub rows : IsPermutation (meaning typed source moment) table.rows
  pub within : load typed source moment ≤ limit

-- the load is above the limit; the number told lies between
pub record IsOver (typed : TypedTree) (source : List Row) (moment : ℤ) (limit : ℕ) (over : OverLimit) : Type 0 where
  pub above : limit < over.load
  pub most : over.load ≤ load typed source moment

abbrev pub IsRefusedBy : TypedTree → List Row → ℤ → ℕ → Refusal OverLimit → Type 0
IsRefusedBy typed source moment limit (refusal.Fault over) = IsOver typed source moment limit over
IsRefusedBy typed source moment limit refusal.OutOfMemory = Unit {0}

-- the table of a query, or that its load is above the limit; want of memory aside
abbrev pub IsAnswer : TypedTree → List Row → ℤ → ℕ → Result Table (Refusal OverLimit) → Type 0
IsAnswer typed source moment limit (Ok table) = IsMeant typed source moment limit table
IsAnswer typed source moment limit (Err refused) = IsRefusedBy typed source moment limit refused

-- ---- rows that are kept by series

-- the series of several slots with their kept points, one slot after another
abbrev pub all_held : List (Bor SlotView) → List (SeriesKey × List Point)
all_held series = flat_map (λ one. held_series one.now.rows one.now.kept) series

-- a typed query that is asked over series: those of rows that fit what it was typed over
pub record IsAsked (typed : TypedTree) (series : List (SeriesKey × List Point)) : Type 0 where
  pub source : List Row
  pub kept : series ≡ points_by_series source
  pub fits : IsTyped typed source

-- a part of a typed query's tree that is asked over series: those of rows over which it can be evaluated
pub record IsPartAsked (grid : Grid) (part : NodeTree) (series : List (SeriesKey × List Point)) : Type 0 where
  pub source : List Row
  pub kept : series ≡ points_by_series source
  pub held : SchemaLists
  pub fit : AllByRecursion (λ row. fits held row ≡ true) source
  pub lawful : IsLawfulGrid grid
  pub evaluable : IsEvaluable grid part source
  pub fetched : AllByRecursion (HasFetchColumns held) (fetches part)
