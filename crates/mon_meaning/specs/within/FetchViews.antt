-- A fetch with its filters, as contracts see it.
use Rattle.std.specs.Prelude.{◌≡◌, ℕ, ◌&&◌, Bool, false, List, [], ◌∷◌, ◌++◌, map, filter, Option, Some, None}
use Rattle.std.specs.List.{list_all}
use Rattle.mon_expr.specs.BoundPredicates.{bound_truth}
use Rattle.mon_expr.specs.declared.condition_lists.BoundPredicate.{BoundPredicate}
use Rattle.mon_value.specs.Grids.{aligned_values}
use Rattle.mon_value.specs.Order.{cells_of, row_of}
use Rattle.mon_value.specs.declared.aligners.Aligner.{Aligner}
use Rattle.mon_value.specs.declared.grids.Grid.{Grid}
use Rattle.mon_value.specs.declared.grids.TimedValue.{TimedValue}
use Rattle.mon_value.specs.declared.rows.Point.{Point}
use Rattle.mon_value.specs.declared.rows.SeriesKey.{SeriesKey}
use Rattle.mon_value.specs.declared.tables.TimedRow.{TimedRow}
use Rattle.mon_value.specs.declared.values.Value.{Value}
use Rattle.typed_trees.specs.Meaning.{meets, series_cells, is_fetched}
use Rattle.typed_trees.specs.Nodes.{NodeTree}
use Rattle.mon_meaning.specs.within.KeyFilters.{KeysDecide}
use Rattle.mon_meaning.specs.within.SeriesMeaning.{SeriesGroup, flows}

-- what is fetched, and the filters of series and of points
pub record FetchView : Type 0 where
  pub schema : List ℕ
  pub metric : List ℕ
  pub of_series : List BoundPredicate
  pub of_points : List BoundPredicate

abbrev pub all_filters_hold : List BoundPredicate → List Value → Bool
all_filters_hold filters cells = list_all (λ by. bound_truth by cells) filters

-- whether a series is fetched, and each filter of series holds of it
abbrev pub is_fetch_met : FetchView → SeriesKey → Bool
is_fetch_met fetch key = is_fetched fetch.schema fetch.metric key && all_filters_hold fetch.of_series (series_cells key)

-- whether each filter of points holds of a point with a value
abbrev pub keeps : FetchView → SeriesKey → Value → Bool
keeps fetch key value = all_filters_hold fetch.of_points (cells_of key value)

-- the points of a series that are kept
abbrev pub points_kept : FetchView → SeriesGroup → List Point
points_kept fetch series = filter (λ point. keeps fetch series.0 point.value) series.1

-- the row of a value, behind the cells of its series
abbrev pub row_behind : List Value → TimedValue → TimedRow
row_behind cells timed = record { time = timed.time; cells = cells ++ timed.value ∷ [] }

-- the rows of a series that is met
abbrev pub met_rows : Grid → Aligner → FetchView → SeriesGroup → List TimedRow
met_rows grid by fetch series = map (row_of series.0) (aligned_values by grid (points_kept fetch series))

-- the fetch of a part: it is met by the series that meet the part, and all filters of both kinds hold of what flows;
-- filters of series hold of points as they do of the series
pub record IsFetchOf (input : NodeTree) (fetch : FetchView) : Type 0 where
  pub met : (key : SeriesKey) → is_fetch_met fetch key ≡ meets input key
  pub flowing : (key : SeriesKey) (value : Value)
      → (is_fetched fetch.schema fetch.metric key
      && (all_filters_hold fetch.of_series (cells_of key value) && keeps fetch key value)) ≡ flows input key value
  pub decided : (key : SeriesKey) (value : Value) → KeysDecide input key
      → all_filters_hold fetch.of_series (cells_of key value) ≡ all_filters_hold fetch.of_series (series_cells key)

-- a part from which no points flow
pub record FetchesNothing (input : NodeTree) : Type 0 where
  pub unmet : (key : SeriesKey) → meets input key ≡ false
  pub dry : (key : SeriesKey) (value : Value) → flows input key value ≡ false

abbrev pub IsFetchFound : NodeTree → Option FetchView → Type 0
IsFetchFound input None = FetchesNothing input
IsFetchFound input (Some fetch) = IsFetchOf input fetch
