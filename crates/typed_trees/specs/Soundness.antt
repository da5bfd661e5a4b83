-- What typing promises of the rows that a query means: their types, the widths of their columns, and that what flows
-- into each operation meets what the operation asks.
use Rattle.std.specs.Prelude.{◌≡◌, ◌≤◌, ◌≤ℤ◌, ℕ, ℤ, pos, ◌+◌, ◌^◌, true, sum_by, List, [], ◌∷◌, length, Option, Some}
use Rattle.std.specs.Prelude.{Ok}
use Rattle.std.specs.List.{AllByRecursion}
use Rattle.mon_value.specs.Grids.{CanAlign, seconds_of, IsDuration}
use Rattle.mon_value.specs.Tables.{FitColumns, IsWhole}
use Rattle.mon_value.specs.Groups.{CanGroup, rows_at, column_of}
use Rattle.mon_value.specs.LeafHistories.{points_by_series}
use Rattle.mon_value.specs.Values.{magnitude}
use Rattle.mon_value.specs.declared.columns.Column.{Column}
use Rattle.mon_value.specs.declared.grids.Grid.{Grid}
use Rattle.mon_value.specs.declared.limits.TheConstants.{ROW_BITS, WIDEST_SUM}
use Rattle.mon_value.specs.declared.rows.Point.{Point}
use Rattle.mon_value.specs.declared.rows.Row.{Row}
use Rattle.mon_value.specs.declared.rows.SeriesKey.{SeriesKey}
use Rattle.mon_value.specs.declared.tables.Table.{Table}
use Rattle.mon_value.specs.declared.tables.TimedRow.{TimedRow}
use Rattle.mon_schema.specs.Fits.{fits, is_number, AreMetricsHeld, AllTellLocations}
use Rattle.mon_schema.specs.Names.{SchemaLists}
use Rattle.mql_ast.specs.Rows.{CanCompute, FitWidths, HasShares, IsTypedSum}
use Rattle.mql_ast.specs.Trees as tree
use Rattle.mql_ast.specs.Trees.{BranchTrees, DeedTree, ItemTree, OpTree, PipeTree, SourceTree, SumTree}
use Rattle.mql_ast.specs.declared.names.Name.{Name}
use Rattle.mql_ast.specs.declared.operations.Aggregate.{Aggregate}
use Rattle.mql_ast.specs.declared.operations.FoldWord.{FoldWord}
use Rattle.mql_ast.specs.declared.operations.FoldWord.TheVariants as fold
use Rattle.typed_trees.specs.Times.{HasDurations}
use Rattle.typed_trees.specs.Meaning.{load, load_of, points_reached, meaning, points_meant, rows_meant}
use Rattle.typed_trees.specs.Nodes as node
use Rattle.typed_trees.specs.Nodes.{NodeTree, TypedTree, columns_of}
use Rattle.typed_trees.specs.Typing.{typing}

-- ---- tables

-- the magnitudes in each column, those from place `next` on, sum to no more than its bits allow
abbrev pub TotalsFit : ℕ → List Column → List TimedRow → Type 0
TotalsFit next [] rows = Unit {0}
TotalsFit next (column ∷ columns) rows =
    (sum_by magnitude (column_of next rows) ≤ 2 ^ column.total_bits) × TotalsFit (next + 1) columns rows

-- rows of the columns' types, whose cells, and whose sums at each time, are within the columns' widths
pub record FitTable (columns : List Column) (rows : List TimedRow) : Type 0 where
  pub shaped : AllByRecursion (λ row. FitColumns columns row.cells) rows
  pub widths : AllByRecursion (λ row. FitWidths columns row.cells) rows
  pub totals : (time : ℤ) → TotalsFit 0 columns (rows_at time rows)

-- no cell is wider than the sum of its column, and no sum is wider than any may be
abbrev pub AreNarrow : List Column → Type 0
AreNarrow columns =
    AllByRecursion (λ column. (column.cell_bits ≤ column.total_bits) × (column.total_bits ≤ WIDEST_SUM)) columns

-- ---- what is taken for granted of the schemas, the query and the rows

-- the numbers of a sum are of 64 bits
abbrev pub HasLiterals : SumTree → Type 0
HasLiterals (tree.Column name) = Unit {0}
HasLiterals (tree.Number at z) = is_number z ≡ true
HasLiterals (tree.Plus left right) = HasLiterals left × HasLiterals right
HasLiterals (tree.Minus left right) = HasLiterals left × HasLiterals right
HasLiterals (tree.Percentile at name p) = Unit {0}

-- a count names no column
abbrev pub CountsRows : FoldWord → Option Name → Type 0
CountsRows fold.Count (Some name) = ⊥
CountsRows how column = Unit {0}

-- what the grammar says of an operation's numbers and counts
abbrev pub IsDeedSpelled : DeedTree → Type 0
IsDeedSpelled (tree.Value items) = AllByRecursion (λ (item : ItemTree). HasLiterals item.sum × HasShares item.sum) items
IsDeedSpelled (tree.GroupBy names aggregates) =
    AllByRecursion (λ (a : Aggregate). CountsRows a.fold a.column) aggregates
IsDeedSpelled deed = Unit {0}

abbrev pub AreOpsSpelled : List OpTree → Type 0
AreOpsSpelled ops = AllByRecursion (λ (op : OpTree). IsDeedSpelled op.what) ops

-- the same of a whole query
abbrev mutual
  pub IsPipeSpelled : PipeTree → Type 0
  IsPipeSpelled (tree.Flow source ops) = IsSourceSpelled source × AreOpsSpelled ops

  pub IsSourceSpelled : SourceTree → Type 0
  IsSourceSpelled (tree.Fetch at schema metric) = Unit {0}
  IsSourceSpelled (tree.Branches at pipes how how_at) = AreBranchesSpelled pipes

  pub AreBranchesSpelled : BranchTrees → Type 0
  AreBranchesSpelled tree.NoBranch = Unit {0}
  AreBranchesSpelled (tree.Branch first rest) = IsPipeSpelled first × AreBranchesSpelled rest

-- the type of some query over lawful schemas
pub record IsQueryType (held : SchemaLists) (typed : TypedTree) : Type 0 where
  pub query : PipeTree
  pub metrics : AreMetricsHeld held.metrics
  pub targets : AllTellLocations held.targets
  pub spelled : IsPipeSpelled query
  pub durations : HasDurations query
  pub is : typing held query ≡ Ok typed

-- the type of some query over schemas that the rows fit
pub record IsTyped (typed : TypedTree) (rows : List Row) : Type 0 where
  pub held : SchemaLists
  pub query : PipeTree
  pub metrics : AreMetricsHeld held.metrics
  pub spelled : IsPipeSpelled query
  pub durations : HasDurations query
  pub is : typing held query ≡ Ok typed
  pub fit : AllByRecursion (λ row. fits held row ≡ true) rows

-- ---- what holds of a typed query

-- the rows of a query that has a type are of its columns' types and widths, where its load is within the rows that a
-- table may have
abbrev pub WidthsHold : TypedTree → List Row → ℤ → Type 0
WidthsHold typed rows moment =
    IsTyped typed rows → pos 0 ≤ℤ moment → load typed rows moment ≤ 2 ^ ROW_BITS
    → FitTable (columns_of typed.tree) (meaning typed rows moment)

-- so much work as a table may have rows
abbrev pub IsWithinRows : ℕ → Type 0
IsWithinRows load = load ≤ 2 ^ ROW_BITS

-- the table of a part
abbrev pub table_meant : Grid → NodeTree → List Row → Table
table_meant grid tree rows = record { columns = columns_of tree; rows = rows_meant grid tree rows }

-- what flows into each operation of a tree meets what the operation asks of it, where the load of that is within the
-- rows that a table may have
abbrev pub IsEvaluable : Grid → NodeTree → List Row → Type 0
IsEvaluable grid (node.Fetch info schema metric) rows = Unit {0}
IsEvaluable grid (node.Filter info by input) rows = IsEvaluable grid input rows
IsEvaluable grid (node.Align info by input) rows =
    IsDuration (seconds_of by)
    × (IsWithinRows (length (points_reached grid by input rows))
    → AllByRecursion (λ (series : SeriesKey × List Point). CanAlign by grid series.1)
    (points_by_series (points_meant input rows)))
IsEvaluable grid (node.GroupBy info by with input) rows =
    (IsWithinRows (load_of grid input rows) → CanGroup (columns_of input) by with (rows_meant grid input rows))
    × IsEvaluable grid input rows
IsEvaluable grid (node.Value info items input) rows =
    AllByRecursion (λ (item : ItemTree). IsTypedSum item.sum (columns_of input) × HasShares item.sum) items
    × ((IsWithinRows (load_of grid input rows)
    → AllByRecursion (λ (row : TimedRow). CanCompute (columns_of input) row.cells) (rows_meant grid input rows))
    × IsEvaluable grid input rows)
IsEvaluable grid (node.Top info most column input) rows = IsEvaluable grid input rows
IsEvaluable grid (node.Join info left right) rows =
    (IsWithinRows (load_of grid left rows) → IsWhole (table_meant grid left rows))
    × ((IsWithinRows (load_of grid right rows) → IsWhole (table_meant grid right rows))
    × (IsEvaluable grid left rows × IsEvaluable grid right rows))
IsEvaluable grid (node.Union info left right) rows = IsEvaluable grid left rows × IsEvaluable grid right rows
