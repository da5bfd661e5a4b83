-- What a tree means over series with their points: its rows in the order in which the series stand, and its load.
use Rattle.std.specs.Prelude.{ℕ, ◌+◌, ◌&&◌, Bool, false, List, [], ◌++◌, map, filter, length, sum_by, if◌then◌else◌}
use Rattle.std.specs.List.{filter_map, flat_map}
use Rattle.mon_value.specs.Grids.{aligned_values}
use Rattle.mon_value.specs.Groups.{group_rows, top_rows}
use Rattle.mon_value.specs.Tables.{pairs_of}
use Rattle.mon_value.specs.Order.{cells_of, row_of}
use Rattle.mon_value.specs.declared.aligners.Aligner.{Aligner}
use Rattle.mon_value.specs.declared.grids.Grid.{Grid}
use Rattle.mon_value.specs.declared.rows.Point.{Point}
use Rattle.mon_value.specs.declared.rows.SeriesKey.{SeriesKey}
use Rattle.mon_value.specs.declared.tables.TimedRow.{TimedRow}
use Rattle.mon_value.specs.declared.values.Value.{Value}
use Rattle.mql_ast.specs.Rows.{predicate_truth}
use Rattle.typed_trees.specs.Meaning.{meets, is_fetched, value_row}
use Rattle.typed_trees.specs.Nodes as node
use Rattle.typed_trees.specs.Nodes.{NodeTree, columns_of}
use Rattle.mon_meaning.specs.within.Reach.{points_within_reach}

-- a series and its points
abbrev pub SeriesGroup : Type 0
SeriesGroup = SeriesKey × List Point

-- whether the points of a series with a value flow into an alignment
abbrev pub flows : NodeTree → SeriesKey → Value → Bool
flows (node.Fetch info schema metric) key value = is_fetched schema metric key
flows (node.Filter info by input) key value =
    predicate_truth by info.columns (cells_of key value) && flows input key value
flows (node.Align info by input) key value = false
flows (node.GroupBy info by with input) key value = false
flows (node.Value info items input) key value = false
flows (node.Top info most column input) key value = false
flows (node.Join info left right) key value = false
flows (node.Union info left right) key value = false

-- the points of a series that do
abbrev pub points_flowing : NodeTree → SeriesGroup → List Point
points_flowing input series = filter (λ point. flows input series.0 point.value) series.1

-- the rows of a series
abbrev pub series_rows : Grid → Aligner → NodeTree → SeriesGroup → List TimedRow
series_rows grid by input series = map (row_of series.0) (aligned_values by grid (points_flowing input series))

-- how many points in reach a series has, if it meets the fetch
abbrev pub reach_count : Grid → Aligner → NodeTree → SeriesGroup → ℕ
reach_count grid by input series = if meets input series.0 then length (points_within_reach grid by series.1) else 0

-- the rows of a tree
abbrev pub rows_by_series : Grid → NodeTree → List SeriesGroup → List TimedRow
rows_by_series grid (node.Fetch info schema metric) series = []
rows_by_series grid (node.Filter info by input) series =
    filter (λ row. predicate_truth by info.columns row.cells) (rows_by_series grid input series)
rows_by_series grid (node.Align info by input) series = flat_map (series_rows grid by input) series
rows_by_series grid (node.GroupBy info by with input) series = group_rows by with (rows_by_series grid input series)
rows_by_series grid (node.Value info items input) series =
    filter_map (value_row (columns_of input) items) (rows_by_series grid input series)
rows_by_series grid (node.Top info most column input) series = top_rows most column (rows_by_series grid input series)
rows_by_series grid (node.Join info left right) series =
    flat_map (pairs_of (columns_of left) (columns_of right) (rows_by_series grid right series))
    (rows_by_series grid left series)
rows_by_series grid (node.Union info left right) series =
    rows_by_series grid left series ++ rows_by_series grid right series

-- the load of an alignment
abbrev pub align_load : Grid → Aligner → NodeTree → List SeriesGroup → ℕ
align_load grid by input series =
    sum_by (reach_count grid by input) series + length (flat_map (series_rows grid by input) series)

-- the load of a tree
abbrev pub load_by_series : Grid → NodeTree → List SeriesGroup → ℕ
load_by_series grid (node.Fetch info schema metric) series = 0
load_by_series grid (node.Filter info by input) series = load_by_series grid input series
load_by_series grid (node.Align info by input) series = align_load grid by input series
load_by_series grid (node.GroupBy info by with input) series = load_by_series grid input series
load_by_series grid (node.Value info items input) series = load_by_series grid input series
load_by_series grid (node.Top info most column input) series = load_by_series grid input series
load_by_series grid (node.Join info left right) series =
    load_by_series grid left series + load_by_series grid right series
    + length (rows_by_series grid (node.Join info left right) series)
load_by_series grid (node.Union info left right) series = load_by_series grid left series + load_by_series grid right
    series
