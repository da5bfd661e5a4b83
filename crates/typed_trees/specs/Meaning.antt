-- What a typed query means, and how much work it is.
use Rattle.std.specs.Prelude.{ℕ, ℤ, ◌&&◌, Bool, List, [], ◌++◌, map, filter, Option, Some, None, if◌then◌else◌, ◌+◌}
use Rattle.std.specs.Prelude.{◌-ℤ◌, ◌||◌, int_le, int_lt, not, false, length}
use Rattle.std.specs.List.{filter_map, flat_map, list_any, zip}
use Rattle.std.specs.Option.{option_map_or}
use Rattle.mon_value.specs.Grids.{aligned_values, seconds_of, least_time}
use Rattle.mon_value.specs.Groups.{group_rows, top_rows}
use Rattle.mon_value.specs.Tables.{Named, pairs_of}
use Rattle.mon_value.specs.Same.{same_text}
use Rattle.mon_value.specs.Order.{cells_of, row_of, field_as_value}
use Rattle.mon_value.specs.LeafHistories.{points_by_series}
use Rattle.mon_value.specs.declared.aligners.Aligner.{Aligner}
use Rattle.mon_value.specs.declared.columns.Column.{Column}
use Rattle.mon_value.specs.declared.grids.Grid.{Grid}
use Rattle.mon_value.specs.declared.rows.Row.{Row}
use Rattle.mon_value.specs.declared.rows.SeriesKey.{SeriesKey}
use Rattle.mon_value.specs.declared.tables.TimedRow.{TimedRow}
use Rattle.mon_value.specs.declared.values.Value.{Value}
use Rattle.mql_ast.specs.Rows.{meets_no_values, sum_value, predicate_truth, column_named}
use Rattle.mql_ast.specs.Trees.{ItemTree, PredicateTree}
use Rattle.mon_value.specs.declared.rows.Point.{Point}
use Rattle.mql_ast.specs.Trees as tree
use Rattle.typed_trees.specs.Nodes as node
use Rattle.typed_trees.specs.Nodes.{NodeTree, TypedTree, columns_of}

-- What a typed query means: the rows of its table over a source of rows, at the times of a grid. It speaks of no
-- level, partial result or plan.

-- ---- points, before they are aligned

-- whether a series is of the schema and the metric that a fetch names
abbrev pub is_fetched : List ℕ → List ℕ → SeriesKey → Bool
is_fetched schema metric key = same_text schema key.target.schema && same_text metric key.metric

-- whether a predicate holds of a point, with its value in the value's column
abbrev pub is_point_kept : PredicateTree → List Column → Row → Bool
is_point_kept by columns row = predicate_truth by columns (cells_of row.key row.point.value)

-- the points that reach a part that isn't aligned: those that are fetched, less what its filters drop
abbrev pub points_meant : NodeTree → List Row → List Row
points_meant (node.Fetch info schema metric) rows = filter (λ row. is_fetched schema metric row.key) rows
points_meant (node.Filter info by input) rows = filter (is_point_kept by info.columns) (points_meant input rows)
points_meant (node.Align info by input) rows = []
points_meant (node.GroupBy info by with input) rows = []
points_meant (node.Value info items input) rows = []
points_meant (node.Top info most column input) rows = []
points_meant (node.Join info left right) rows = []
points_meant (node.Union info left right) rows = []

-- ---- rows

-- each series at each time of the grid at which it has a value
abbrev pub aligned_rows : Aligner → Grid → List Row → List TimedRow
aligned_rows by grid points = flat_map
    (λ series. map (row_of series.0) (aligned_values by grid series.1)) (points_by_series points)

-- the cells in the columns that are keys
abbrev pub key_cells : List Column → List Value → List Value
key_cells columns cells = map (λ (cell : Named). cell.1) (filter (λ (cell : Named). cell.0.key) (zip columns cells))

-- the keys of a row and what its items come to; none where a percentile meets a distribution without values
abbrev pub value_row : List Column → List ItemTree → TimedRow → Option TimedRow
value_row columns items row =
    if list_any (λ (item : ItemTree). meets_no_values item.sum columns row.cells) items then None
    else Some (record {
      time = row.time;
      cells = key_cells columns row.cells
          ++ filter_map (λ (item : ItemTree). sum_value item.sum columns row.cells) items;
    })

-- the rows of a table: points that aren't aligned are none
abbrev pub rows_meant : Grid → NodeTree → List Row → List TimedRow
rows_meant grid (node.Fetch info schema metric) rows = []
rows_meant grid (node.Filter info by input) rows =
    filter (λ row. predicate_truth by info.columns row.cells) (rows_meant grid input rows)
rows_meant grid (node.Align info by input) rows = aligned_rows by grid (points_meant input rows)
rows_meant grid (node.GroupBy info by with input) rows = group_rows by with (rows_meant grid input rows)
rows_meant grid (node.Value info items input) rows =
    filter_map (value_row (columns_of input) items) (rows_meant grid input rows)
rows_meant grid (node.Top info most column input) rows = top_rows most column (rows_meant grid input rows)
rows_meant grid (node.Join info left right) rows =
    flat_map (pairs_of (columns_of left) (columns_of right) (rows_meant grid right rows)) (rows_meant grid left rows)
rows_meant grid (node.Union info left right) rows = rows_meant grid left rows ++ rows_meant grid right rows

-- the times of a query that is asked at a moment
abbrev pub grid_of : TypedTree → ℤ → Grid
grid_of typed moment = record { moment = moment; every = typed.every; within = typed.within }

-- what a query means, asked at a moment over a source
abbrev pub meaning : TypedTree → List Row → ℤ → List TimedRow
meaning typed rows moment = rows_meant (grid_of typed moment) typed.tree rows

-- How much work a query is: the points in its reach, and the rows of its alignments and joins.

-- ---- which series a fetch takes

abbrev pub is_key_name : List Column → List ℕ → Bool
is_key_name columns name = option_map_or (λ (column : Column). column.key) (column_named name columns) false

-- whether a filter names keys alone, so that it takes a series whole or not at all
abbrev pub names_keys : List Column → PredicateTree → Bool
names_keys columns (tree.Compare name how literal) = is_key_name columns name.text
names_keys columns (tree.Like name pattern) = is_key_name columns name.text
names_keys columns (tree.Not p) = names_keys columns p
names_keys columns (tree.And p q) = names_keys columns p && names_keys columns q
names_keys columns (tree.Or p q) = names_keys columns p && names_keys columns q

-- the cells of a series: its target's fields and its metric's
abbrev pub series_cells : SeriesKey → List Value
series_cells key = map field_as_value key.target.fields ++ map field_as_value key.fields

-- whether a filter that names keys alone holds of a series; another says nothing of a series
abbrev pub lets_in : PredicateTree → List Column → SeriesKey → Bool
lets_in by columns key = not (names_keys columns by) || predicate_truth by columns (series_cells key)

-- whether a series meets a fetch: it is fetched, and each filter of its fields holds of it
abbrev pub meets : NodeTree → SeriesKey → Bool
meets (node.Fetch info schema metric) key = is_fetched schema metric key
meets (node.Filter info by input) key = lets_in by info.columns key && meets input key
meets (node.Align info by input) key = false
meets (node.GroupBy info by with input) key = false
meets (node.Value info items input) key = false
meets (node.Top info most column input) key = false
meets (node.Join info left right) key = false
meets (node.Union info left right) key = false

-- ---- the load

-- whether a point ends where an alignment may see it, from the least time of the grid on
abbrev pub is_in_reach : Grid → Aligner → Point → Bool
is_in_reach grid by point =
    int_lt (least_time grid -ℤ seconds_of by) point.end && int_le point.end grid.moment

abbrev pub is_reached : Grid → Aligner → Row → Bool
is_reached grid by row = is_in_reach grid by row.point

-- the points in reach of the series that meet a fetch
abbrev pub points_reached : Grid → Aligner → NodeTree → List Row → List Row
points_reached grid by input rows = filter (λ row. is_reached grid by row && meets input row.key) rows

-- the points in reach of each fetch, the rows of each alignment, and the pairs of each join
abbrev pub load_of : Grid → NodeTree → List Row → ℕ
load_of grid (node.Fetch info schema metric) rows = 0
load_of grid (node.Filter info by input) rows = load_of grid input rows
load_of grid (node.Align info by input) rows =
    length (points_reached grid by input rows) + length (rows_meant grid (node.Align info by input) rows)
load_of grid (node.GroupBy info by with input) rows = load_of grid input rows
load_of grid (node.Value info items input) rows = load_of grid input rows
load_of grid (node.Top info most column input) rows = load_of grid input rows
load_of grid (node.Join info left right) rows =
    load_of grid left rows + load_of grid right rows + length (rows_meant grid (node.Join info left right) rows)
load_of grid (node.Union info left right) rows = load_of grid left rows + load_of grid right rows

-- the load of a query that is asked at a moment over a source
abbrev pub load : TypedTree → List Row → ℤ → ℕ
load typed rows moment = load_of (grid_of typed moment) typed.tree rows
