-- That a tree can be evaluated over series: what flows into each operation meets what that asks of it, where the load
-- so far is within the rows that a table may have.
use Rattle.std.specs.Prelude.{◌≡◌, true, List, sum_by}
use Rattle.std.specs.List.{AllByRecursion}
use Rattle.mon_value.specs.Grids.{CanAlign, seconds_of, IsDuration, IsLawfulGrid}
use Rattle.mon_value.specs.Tables.{IsWhole}
use Rattle.mon_value.specs.Groups.{CanGroup}
use Rattle.mon_value.specs.declared.aligners.Aligner.{Aligner}
use Rattle.mon_value.specs.declared.grids.Grid.{Grid}
use Rattle.mon_value.specs.declared.tables.Table.{Table}
use Rattle.mon_value.specs.declared.tables.TimedRow.{TimedRow}
use Rattle.mql_ast.specs.Rows.{CanCompute, HasShares, IsTypedSum}
use Rattle.mql_ast.specs.Trees.{ItemTree}
use Rattle.typed_trees.specs.Nodes as node
use Rattle.typed_trees.specs.Nodes.{NodeTree, columns_of}
use Rattle.typed_trees.specs.Soundness.{IsWithinRows}
use Rattle.mon_meaning.specs.within.KeyFilters.{KeysDecide, fetches_series}
use Rattle.mon_meaning.specs.within.SeriesMeaning.{SeriesGroup, load_by_series, points_flowing, reach_count}
use Rattle.mon_meaning.specs.within.SeriesMeaning.{rows_by_series}

-- series of which an alignment can be made
pub record AreAlignable (grid : Grid) (by : Aligner) (input : NodeTree) (series : List SeriesGroup) : Type 0 where
  pub lawful : IsLawfulGrid grid
  pub looks_back : IsDuration (seconds_of by)
  pub decided : AllByRecursion (λ (one : SeriesGroup). fetches_series input one.0 ≡ true → KeysDecide input one.0)
      series
  pub each : IsWithinRows (sum_by (reach_count grid by input) series)
      → AllByRecursion (λ (one : SeriesGroup). CanAlign by grid (points_flowing input one)) series

abbrev pub table_by_series : Grid → NodeTree → List SeriesGroup → Table
table_by_series grid tree series = record { columns = columns_of tree; rows = rows_by_series grid tree series }

abbrev pub IsNodeReady : Grid → NodeTree → List SeriesGroup → Type 0
IsNodeReady grid (node.Fetch info schema metric) series = Unit {0}
IsNodeReady grid (node.Filter info by input) series = IsNodeReady grid input series
IsNodeReady grid (node.Align info by input) series = AreAlignable grid by input series
IsNodeReady grid (node.GroupBy info by with input) series =
    (IsWithinRows (load_by_series grid input series)
    → CanGroup (columns_of input) by with (rows_by_series grid input series))
    × IsNodeReady grid input series
IsNodeReady grid (node.Value info items input) series =
    AllByRecursion (λ (item : ItemTree). IsTypedSum item.sum (columns_of input) × HasShares item.sum) items
    × ((IsWithinRows (load_by_series grid input series)
    → AllByRecursion (λ (row : TimedRow). CanCompute (columns_of input) row.cells) (rows_by_series grid input series))
    × IsNodeReady grid input series)
IsNodeReady grid (node.Top info most column input) series = IsNodeReady grid input series
IsNodeReady grid (node.Join info left right) series =
    (IsWithinRows (load_by_series grid left series) → IsWhole (table_by_series grid left series))
    × ((IsWithinRows (load_by_series grid right series) → IsWhole (table_by_series grid right series))
    × (IsNodeReady grid left series × IsNodeReady grid right series))
IsNodeReady grid (node.Union info left right) series = IsNodeReady grid left series × IsNodeReady grid right series
