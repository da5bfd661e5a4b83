-- The rows of alignments: types, and widths.
use Rattle.std.proofs.Common.{◌≡◌, ◌∙◌, ◌≤◌, ℕ, ℤ, zero, suc, ◌+◌, ◌*◌, ◌^◌, Bool, true, false, not, cond, Option}
use Rattle.std.proofs.Common.{Some, None, List, [], ◌∷◌, ◌++◌, map, length, subst, refl, ap, sym, arith}
use Rattle.std.specs.Prelude.{slice_get}
use Rattle.std.specs.List.{AllByRecursion, filter, sum_by}
use Rattle.std.specs.Option.{option_map_or}
use Rattle.std.specs.Ordering.{int_eq}
use Rattle.std.proofs.Math.Nat.{mul-le-mul_right, suc-mul}
use Rattle.std.proofs.lemmas.List.{append_assoc, map-append}
use Rattle.std.proofs.lemmas.List.Sums.{sum_by-cons}
use Rattle.mon_value.specs.Grids.{CanAddUnder, CanAlign, SumFits, aligned_values, seconds_of, values_of, IsDuration}
use Rattle.mon_value.specs.Grids.{IsLawfulGrid, grid_times, window_of}
use Rattle.mon_value.specs.Tables.{FitColumns, HasType}
use Rattle.mon_value.specs.Same.{same_series}
use Rattle.mon_value.specs.Order.{cells_of, row_of}
use Rattle.mon_value.specs.LeafHistories.{key_of_row, points_by_series, points_of, rows_of, series_of}
use Rattle.mon_value.specs.Values.{magnitude}
use Rattle.mon_value.specs.declared.aligners.Aligner.{Aligner}
use Rattle.mon_value.specs.declared.aligners.Aligner.TheVariants as aligner
use Rattle.mon_value.specs.declared.columns.Anchor.{Anchor}
use Rattle.mon_value.specs.declared.columns.Anchor.TheVariants as anchor
use Rattle.mon_value.specs.declared.columns.Column.{Column}
use Rattle.mon_value.specs.declared.grids.Grid.{Grid}
use Rattle.mon_value.specs.declared.grids.TimedValue.{TimedValue}
use Rattle.mon_value.specs.declared.rows.Point.{Point}
use Rattle.mon_value.specs.declared.rows.Row.{Row}
use Rattle.mon_value.specs.declared.rows.SeriesKey.{SeriesKey}
use Rattle.mon_value.specs.declared.schemas.Field.{Field}
use Rattle.mon_value.specs.declared.schemas.MetricSchema.{MetricSchema}
use Rattle.mon_value.specs.declared.schemas.TargetSchema.{TargetSchema}
use Rattle.mon_value.specs.declared.tables.TimedRow.{TimedRow}
use Rattle.mon_value.specs.declared.values.FieldType.{FieldType}
use Rattle.mon_value.specs.declared.values.FieldType.TheVariants as field_type
use Rattle.mon_value.specs.declared.values.Value.{Value}
use Rattle.mon_value.specs.declared.values.ValueType.{ValueType}
use Rattle.mon_value.proofs.SameLemmas.{same_series-Decides}
use Rattle.mql_ast.specs.Rows.{FitWidths, HasBound}
use Rattle.typed_trees.specs.Fetches.{columns_fetched, field_value_type, key_column, target_columns, value_column}
use Rattle.typed_trees.specs.Meaning.{is_reached, series_cells, aligned_rows}
use Rattle.mon_schema.specs.Fits.{HasNumbers}
use Rattle.typed_trees.specs.Soundness.{FitTable}
use Rattle.typed_trees.specs.Typing.{aligned_column, aligned_width}
use Rattle.typed_trees.specs.Branches.{with_width}
use Rattle.typed_rows.proofs.AlignedValues.{IsBetween, PointFits, Takes, aligned_fit, are_numbers, can_add_all}
use Rattle.typed_rows.proofs.AlignedValues.{earlier_weight, grid_reach, heaviest, most_of, reached, series_within}
use Rattle.typed_rows.proofs.AlignedValues.{sum_of_values, valued, weighed, window_weight}
use Rattle.typed_rows.proofs.FetchedPoints.{IsRowOf, IsSeriesOf, series_columns, series_small, series_typed}
use Rattle.typed_rows.proofs.FetchedPoints.{value_small, value_typed}
use Rattle.typed_rows.proofs.GroupSums.{key_sums_within, keys_apart}
use Rattle.typed_rows.proofs.JoinedRows.{FitColumns-append, FitWidths-append, IsRowWide, all-flat_map, bits_more}
use Rattle.typed_rows.proofs.JoinedRows.{all-made, all-map, column_of_all, place_bound}
use Rattle.typed_rows.proofs.KeptRows.{all-filter, sum_by-flat_map}
use Rattle.typed_rows.proofs.MadeCells.{Side, back, front, length_fit, side_of}
use Rattle.typed_rows.proofs.MadeCells.{sums_less}
use Rattle.typed_rows.proofs.SumBounds.{AreLawful, IsSound}
use Rattle.typed_rows.proofs.Totals.{counted, sum_by-filter-le, totals_from}
use Rattle.typed_rows.proofs.ValueRows.{FitsBoth}
use Rattle.mon_value.proofs.PlainLemmas.{get_back, nothing_is, all_both, sum_by-map, all_append, same_item}

-- ---- series of a source

-- a series with its points, as a metric has them
pub record SeriesFits (target : TargetSchema) (metric : MetricSchema) (series : SeriesKey × List Point) : Type 0 where
  pub key : IsSeriesOf target metric series.0
  pub points : AllByRecursion (PointFits metric.value) series.1

row_point : (target : TargetSchema) (metric : MetricSchema) (row : Row) → IsRowOf target metric row
    → PointFits metric.value row.point
row_point target metric row own =
    (value_typed metric.value row.point.value own.value, value_small metric.value row.point.value own.value)

all_series : (P : SeriesKey → Type 0) (rows : List Row) → AllByRecursion (λ (row : Row). P row.key) rows
    → AllByRecursion P (series_of rows)
all_series P [] all = tt
all_series P (row ∷ rows) all =
    (all.0, all-filter P (λ key. not (same_series row.key key)) (series_of rows) (all_series P rows all.1))

points_fit : (target : TargetSchema) (metric : MetricSchema) (rows : List Row)
    → AllByRecursion (IsRowOf target metric) rows → (key : SeriesKey)
    → AllByRecursion (PointFits metric.value) (points_of key rows)
points_fit target metric rows fit key =
    all-made (IsRowOf target metric) (PointFits metric.value) (λ (row : Row). row.point) (rows_of key rows)
    (row_point target metric)
    (all-filter (IsRowOf target metric) (λ (row : Row). same_series key row.key) rows fit)

pub series_fit : (target : TargetSchema) (metric : MetricSchema) (rows : List Row)
    → AllByRecursion (IsRowOf target metric) rows
    → AllByRecursion (SeriesFits target metric) (points_by_series rows)
series_fit target metric rows fit =
    all-made (IsSeriesOf target metric) (SeriesFits target metric) (λ key. (key, points_of key rows)) (series_of rows)
    (λ key own. record { key = own; points = points_fit target metric rows fit key })
    (all_series (IsSeriesOf target metric) rows
    (all-map (IsRowOf target metric) (λ (row : Row). IsSeriesOf target metric row.key) rows
    (λ row own. own.series) fit))

-- ---- how much is in reach

row_weight : Grid → Aligner → Row → ℕ
row_weight grid by row = reached grid by row.point

step_by : (b : Bool) (row : Row) (some : List Row) (n rest most : ℕ) → n ≤ most → rest ≤ length some * most
    → cond b n 0 + rest ≤ length (cond b (row ∷ some) some) * most
step_by true row some n rest most h less =
    let one : length (row ∷ some) ≡ suc (length some) = omega arith in
    let more : length (row ∷ some) * most ≡ length some * most + most =
    ap (λ k. k * most) one ∙ suc-mul (length some) most in
    omega (arith, h, less, more)
step_by false row some n rest most h less = omega (arith, less)

weighed_small : (by : Aligner) (of : ValueType) (point : Point) → PointFits of point → weighed by point ≤ heaviest by
weighed_small (aligner.Delta seconds) of point fit = fit.1
weighed_small (aligner.Increase seconds) of point fit = omega arith
weighed_small (aligner.NextOlder seconds) of point fit = fit.1

-- so many points in reach weigh no more than each does so many times
reach_weight : (grid : Grid) (by : Aligner) (of : ValueType) (rows : List Row)
    → AllByRecursion (λ (row : Row). PointFits of row.point) rows
    → sum_by (row_weight grid by) rows ≤ length (filter (is_reached grid by) rows) * heaviest by
unfolding row_weight
reach_weight grid by of [] fit = omega arith
reach_weight grid by of (row ∷ rows) fit =
    omega (
      arith,
      sum_by-cons (row_weight grid by) row rows,
      step_by (is_reached grid by row) row (filter (is_reached grid by) rows) (weighed by row.point)
          (sum_by (row_weight grid by) rows) (heaviest by) (weighed_small by of row.point fit.0)
          (reach_weight grid by of rows fit.1),
    )

-- the most that all points in reach weigh
abbrev most_weight : Aligner → ℕ
most_weight (aligner.Delta seconds) = 2 ^ 87
most_weight (aligner.Increase seconds) = 2 ^ 88
most_weight (aligner.NextOlder seconds) = 2 ^ 87

reach_within : (by : Aligner) (n w : ℕ) → n ≤ 2 ^ 24 → w ≤ n * heaviest by → w ≤ most_weight by
reach_within (aligner.Delta seconds) n w few h = omega (arith, h, mul-le-mul_right (2 ^ 63) few)
reach_within (aligner.Increase seconds) n w few h = omega (arith, h, mul-le-mul_right (2 ^ 64) few)
reach_within (aligner.NextOlder seconds) n w few h = omega (arith, h, mul-le-mul_right (2 ^ 63) few)

-- the points of all series in reach
abbrev pub IsFew : Grid → Aligner → List Row → Type 0
IsFew grid by rows = length (filter (is_reached grid by) rows) ≤ 2 ^ 24

all_weight : (grid : Grid) (by : Aligner) (target : TargetSchema) (metric : MetricSchema) (rows : List Row)
    → AllByRecursion (IsRowOf target metric) rows
    → IsFew grid by rows → sum_by (row_weight grid by) rows ≤ most_weight by
all_weight grid by target metric rows fit few =
    reach_within by (length (filter (is_reached grid by) rows)) (sum_by (row_weight grid by) rows) few
    (reach_weight grid by metric.value rows
    (all-map (IsRowOf target metric) (λ (row : Row). PointFits metric.value row.point) rows
    (row_point target metric) fit))

key_weight : (grid : Grid) (by : Aligner) (rows : List Row) (key : SeriesKey)
    → sum_by (reached grid by) (points_of key rows) ≡ sum_by (row_weight grid by) (rows_of key rows)
unfolding row_weight
key_weight grid by rows key = sum_by-map (reached grid by) (λ (row : Row). row.point) (rows_of key rows)

one_weight : (grid : Grid) (by : Aligner) (rows : List Row) (key : SeriesKey)
    → sum_by (reached grid by) (points_of key rows) ≤ sum_by (row_weight grid by) rows
one_weight grid by rows key =
    omega (
      arith,
      key_weight grid by rows key,
      sum_by-filter-le (row_weight grid by)
          (λ (row : Row). same_series key row.key) rows,
    )

series_weight : (grid : Grid) (by : Aligner) (rows : List Row)
    → sum_by (λ (series : SeriesKey × List Point). sum_by (reached grid by) series.1) (points_by_series rows) ≤
    sum_by (row_weight grid by) rows
series_weight grid by rows =
    let each : sum_by (λ key. sum_by (reached grid by) (points_of key rows)) (series_of rows) ≤ sum_by
    (λ key. sum_by (row_weight grid by) (rows_of key rows)) (series_of rows) =
    sums_less (λ key. sum_by (reached grid by) (points_of key rows))
    (λ key. sum_by (row_weight grid by) (rows_of key rows)) (series_of rows)
    (every (λ key. sum_by (reached grid by) (points_of key rows) ≤ sum_by (row_weight grid by)
    (rows_of key rows))
    (λ key. omega (arith, key_weight grid by rows key)) (series_of rows)) in
    let within : sum_by (λ key. sum_by (row_weight grid by) (rows_of key rows)) (series_of rows) ≤ sum_by
    (row_weight grid by) rows =
    key_sums_within same_series same_series-Decides key_of_row (row_weight grid by) rows (series_of rows)
    (keys_apart same_series same_series-Decides key_of_row rows) in
    omega (
      arith,
      each,
      within,
      sum_by-map (λ (series : SeriesKey × List Point). sum_by (reached grid by) series.1)
          (λ key. (key, points_of key rows)) (series_of rows),
    )
  where
    every : {A : Type 0} (P : A → Type 0) → ((x : A) → P x) → (xs : List A) → AllByRecursion P xs
    every P f [] = tt
    every P f (x ∷ xs) = (f x, every P f xs)

-- ---- columns

-- the columns of an alignment of a fetch
abbrev pub columns_aligned : Aligner → TargetSchema → MetricSchema → List Column
columns_aligned by target metric =
    series_columns target metric ++ with_width (aligned_width by) (value_column metric) ∷ []

target_kept : (by : Aligner) (schema : List ℕ) (next : ℕ) (fields : List Field)
    → map (aligned_column by) (target_columns schema next fields) ≡ target_columns schema next fields
target_kept by schema next [] = refl
target_kept by schema next (f ∷ fs) =
    ap (λ cs. key_column (Some (anchor.Field schema next)) f ∷ cs) (target_kept by schema (next + 1) fs)

metric_kept : (by : Aligner) (fields : List Field)
    → map (aligned_column by) (map (key_column None) fields) ≡ map (key_column None) fields
metric_kept by [] = refl
metric_kept by (f ∷ fs) = ap (λ cs. key_column None f ∷ cs) (metric_kept by fs)

pub aligned_are : (by : Aligner) (target : TargetSchema) (metric : MetricSchema)
    → columns_aligned by target metric ≡ map (aligned_column by) (columns_fetched target metric)
aligned_are by target metric =
    let keys = target_columns target.name 0 target.fields in
    let rest = map (key_column None) metric.fields in
    let last = with_width (aligned_width by) (value_column metric) ∷ [] in
    append_assoc keys rest last
    ∙ sym (map-append (aligned_column by) keys (rest ++ value_column metric ∷ [])
    ∙ ap (λ cs. cs ++ map (aligned_column by) (rest ++ value_column metric ∷ []))
    (target_kept by target.name 0 target.fields)
    ∙ ap (λ cs. keys ++ cs) (map-append (aligned_column by) rest (value_column metric ∷ [])
    ∙ ap (λ cs. cs ++ last) (metric_kept by metric.fields)))

-- ---- cells

row_fits : (by : Aligner) (target : TargetSchema) (metric : MetricSchema) (key : SeriesKey)
    → IsSeriesOf target metric key → (whole : ℕ) → whole ≤ most_weight by
    → (timed : TimedValue) → HasType metric.value timed.value × (magnitude timed.value ≤ most_of by whole)
    → FitsBoth (columns_aligned by target metric) (row_of key timed)
row_fits by target metric key own whole h timed fit =
    let last = with_width (aligned_width by) (value_column metric) in (
      FitColumns-append (series_columns target metric) (last ∷ []) (series_cells key) (timed.value ∷ [])
          (series_typed target metric key own) (fit.0, tt),
      FitWidths-append (series_columns target metric) (last ∷ []) (series_cells key) (timed.value ∷ [])
          (series_typed target metric key own)
          (series_small target metric key own) (value_bits by metric whole (magnitude timed.value) h fit.1, tt),
    )
  where
    value_bits : (by : Aligner) (metric : MetricSchema) (whole n : ℕ) → whole ≤ most_weight by → n ≤ most_of by whole
        → n ≤ 2 ^ (with_width (aligned_width by) (value_column metric)).cell_bits
    value_bits (aligner.Delta seconds) metric whole n h less = omega (arith, h, less)
    value_bits (aligner.Increase seconds) metric whole n h less = omega (arith, h, less)
    value_bits (aligner.NextOlder seconds) metric whole n h less = less

-- what stands in a row of a series
record Fetched (target : TargetSchema) (metric : MetricSchema) (by : Aligner) (grid : Grid) (rows : List Row) : Type
    0 where
  fit : AllByRecursion (IsRowOf target metric) rows
  few : IsFew grid by rows
  lawful : IsLawfulGrid grid
  takes : Takes by metric.value

-- the weight of each series is within that of all
weights : (grid : Grid) (by : Aligner) (rows : List Row)
    → AllByRecursion (λ (series : SeriesKey × List Point). sum_by (reached grid by) series.1 ≤ sum_by
    (row_weight grid by) rows) (points_by_series rows)
weights grid by rows =
    all-made (λ key. Unit {0}) (λ (series : SeriesKey × List Point). sum_by (reached grid by) series.1 ≤ sum_by
    (row_weight grid by) rows)
    (λ key. (key, points_of key rows)) (series_of rows) (λ key t. one_weight grid by rows key)
    (units (series_of rows))
  where
    units : {A : Type 0} (xs : List A) → AllByRecursion (λ x. Unit {0}) xs
    units [] = tt
    units (x ∷ xs) = (tt, units xs)

series_rows : (target : TargetSchema) (metric : MetricSchema) (by : Aligner) (grid : Grid) (rows : List Row)
    → Fetched target metric by grid rows
    → AllByRecursion (FitsBoth (columns_aligned by target metric)) (aligned_rows by grid rows)
series_rows target metric by grid rows own =
    let whole = sum_by (row_weight grid by) rows in
    let most = all_weight grid by target metric rows own.fit own.few in
    let columns = columns_aligned by target metric in
    all-flat_map (λ (series : SeriesKey × List Point). SeriesFits target metric series
    × (sum_by (reached grid by) series.1 ≤ whole)) (FitsBoth columns)
    (λ (series : SeriesKey × List Point). map (row_of series.0) (aligned_values by grid series.1))
    (points_by_series rows)
    (λ series p.
    let part = sum_by (reached grid by) series.1 in
    all-made (λ (timed : TimedValue). HasType metric.value timed.value
    × (magnitude timed.value ≤ most_of by part)) (FitsBoth columns) (row_of series.0)
    (aligned_values by grid series.1)
    (λ timed fit. row_fits by target metric series.0 p.0.key part (omega (arith, p.1, most)) timed fit)
    (aligned_fit grid own.lawful by metric.value own.takes series.1 p.0.points))
    (all_both (SeriesFits target metric)
    (λ (series : SeriesKey × List Point). sum_by (reached grid by) series.1 ≤ whole) (points_by_series rows)
    (series_fit target metric rows own.fit) (weights grid by rows))

-- ---- totals

last_cell : (target : TargetSchema) (metric : MetricSchema) (key : SeriesKey) → IsSeriesOf target metric key
    → (value : Value)
    → slice_get (cells_of key value) (length (series_columns target metric) + 0) ≡ Some value
last_cell target metric key own value =
    let long : length (series_cells key) ≡ length (series_columns target metric) =
    length_fit (series_columns target metric) (series_cells key) (series_typed target metric key own) in
    ap (λ n. slice_get (cells_of key value) (n + 0)) (sym long) ∙ get_back (series_cells key) (value ∷ []) 0

timed_count : (time own : ℤ) (o : Option Value) (value : Value) → o ≡ Some value
    → cond (int_eq own time) (option_map_or magnitude o 0) 0 ≡ cond (int_eq own time) (magnitude value) 0
timed_count time own o value e = ap (λ p. cond (int_eq own time) (option_map_or magnitude p 0) 0) e

series_counts : (target : TargetSchema) (metric : MetricSchema) (key : SeriesKey) → IsSeriesOf target metric key
    → (time : ℤ) (timed : List TimedValue)
    → sum_by (counted time (length (series_columns target metric) + 0)) (map (row_of key) timed) ≡ sum_by
    (valued time) timed
series_counts target metric key own time [] = refl
series_counts target metric key own time (one ∷ timed) =
    let place = length (series_columns target metric) + 0 in
    sum_by-cons (counted time place) (row_of key one) (map (row_of key) timed)
    ∙ ap (λ n. n + sum_by (counted time place) (map (row_of key) timed))
    (timed_count time one.time (slice_get (cells_of key one.value) place) one.value
    (last_cell target metric key own one.value))
    ∙ ap (λ n. valued time one + n) (series_counts target metric key own time timed)
    ∙ sym (sum_by-cons (valued time) one timed)

-- the values of all series at a time weigh no more than their points in reach
values_total : (target : TargetSchema) (metric : MetricSchema) (by : Aligner) (grid : Grid) (rows : List Row)
    → Fetched target metric by grid rows → (time : ℤ)
    → sum_by (counted time (length (series_columns target metric) + 0)) (aligned_rows by grid rows) ≤ sum_by
    (row_weight grid by) rows
values_total target metric by grid rows own time =
    let place = length (series_columns target metric) + 0 in
    let made : SeriesKey × List Point → List TimedRow =
    λ series. map (row_of series.0) (aligned_values by grid series.1) in
    let each : sum_by (λ series. sum_by (counted time place) (made series)) (points_by_series rows)
    ≤ sum_by (λ (series : SeriesKey × List Point). sum_by (reached grid by) series.1)
    (points_by_series rows) =
    sums_less (λ series. sum_by (counted time place) (made series))
    (λ (series : SeriesKey × List Point). sum_by (reached grid by) series.1) (points_by_series rows)
    (all-map (SeriesFits target metric)
    (λ (series : SeriesKey × List Point). sum_by (counted time place) (made series) ≤ sum_by
    (reached grid by) series.1) (points_by_series rows)
    (λ series fit.
    omega (
      arith,
      series_counts target metric series.0 fit.key time (aligned_values by grid series.1),
      series_within grid own.lawful by metric.value own.takes series.1 fit.points time,
    ))
    (series_fit target metric rows own.fit)) in
    omega (arith, sum_by-flat_map (counted time place) made (points_by_series rows), each, series_weight grid by rows)

target_wide : (schema : List ℕ) (next : ℕ) (fields : List Field)
    → AllByRecursion IsRowWide (target_columns schema next fields)
target_wide schema next [] = tt
target_wide schema next (f ∷ fs) = (omega arith, target_wide schema (next + 1) fs)

metric_wide : (fields : List Field) → AllByRecursion IsRowWide (map (key_column None) fields)
metric_wide [] = tt
metric_wide (f ∷ fs) = (omega arith, metric_wide fs)

series_wide : (target : TargetSchema) (metric : MetricSchema)
    → AllByRecursion IsRowWide (series_columns target metric)
series_wide target metric =
    all_append IsRowWide (target_columns target.name 0 target.fields) (map (key_column None) metric.fields)
    (target_wide target.name 0 target.fields)
    (metric_wide metric.fields)

value_total : (by : Aligner) (metric : MetricSchema) (n : ℕ) → n ≤ most_weight by
    → n ≤ 2 ^ (with_width (aligned_width by) (value_column metric)).total_bits
value_total (aligner.Delta seconds) metric n h = h
value_total (aligner.Increase seconds) metric n h = h
value_total (aligner.NextOlder seconds) metric n h = h

only_place : (c d : Column) (k : ℕ) → slice_get (c ∷ []) k ≡ Some d → (c ≡ d) × (k ≡ 0)
only_place c d zero e = (same_item c d e, refl)
only_place c d (suc k) e = absurd (nothing_is d e)

place_total : (target : TargetSchema) (metric : MetricSchema) (by : Aligner) (grid : Grid) (rows : List Row)
    → Fetched target metric by grid rows
    → length (aligned_rows by grid rows) ≤ 2 ^ 24 → (time : ℤ) (place : ℕ) (column : Column)
    → slice_get (columns_aligned by target metric) place ≡ Some column
    → Side (series_columns target metric) (with_width (aligned_width by) (value_column metric) ∷ []) place column
    → sum_by (counted time place) (aligned_rows by grid rows) ≤ 2 ^ column.total_bits
place_total target metric by grid rows own few time place column is (front e) =
    let fits = all-map (FitsBoth (columns_aligned by target metric))
    (λ (row : TimedRow). FitWidths (columns_aligned by target metric) row.cells)
    (aligned_rows by grid rows) (λ row p. p.1) (series_rows target metric by grid rows own) in
    bits_more (sum_by (counted time place) (aligned_rows by grid rows)) column.cell_bits column.total_bits
    (place_bound (columns_aligned by target metric) (aligned_rows by grid rows) fits few time place column is)
    (column_of_all IsRowWide (series_columns target metric) place column (series_wide target metric) e)
place_total target metric by grid rows own few time place column is (back k at e) =
    let parts = only_place (with_width (aligned_width by) (value_column metric)) column k e in
    let here : length (series_columns target metric) + 0 ≡ place =
    ap (λ n. length (series_columns target metric) + n) (sym parts.1) ∙ sym at in
    let P : ℕ → Type 0 = λ n. sum_by (counted time n) (aligned_rows by grid rows) ≤ 2 ^ column.total_bits in
    let Q : Column → Type 0 = λ c. sum_by (counted time (length (series_columns target metric) + 0))
    (aligned_rows by grid rows) ≤ 2 ^ c.total_bits in
    let most = all_weight grid by target metric rows own.fit own.few in
    subst P here (subst Q parts.0 (value_total by metric _
    (omega (arith, values_total target metric by grid rows own time, most))))

-- ---- the rows of alignments

aligned_fits : (target : TargetSchema) (metric : MetricSchema) (by : Aligner) (grid : Grid) (rows : List Row)
    → Fetched target metric by grid rows
    → length (aligned_rows by grid rows) ≤ 2 ^ 24
    → FitTable (columns_aligned by target metric) (aligned_rows by grid rows)
aligned_fits target metric by grid rows own few =
    let columns = columns_aligned by target metric in
    let made = aligned_rows by grid rows in
    let fits = series_rows target metric by grid rows own in
    record {
      shaped = all-map (FitsBoth columns) (λ (row : TimedRow). FitColumns columns row.cells) made (λ row p. p.0) fits;
      widths = all-map (FitsBoth columns) (λ (row : TimedRow). FitWidths columns row.cells) made (λ row p. p.1) fits;
      totals = λ time. totals_from time made 0 columns
          (λ place column e.
          let here : place ≡ 0 + place = omega arith in
          let P : ℕ → Type 0 = λ n. sum_by (counted time n) made ≤ 2 ^ column.total_bits in
          subst P here
          (place_total target metric by grid rows own few time place column e
          (side_of (series_columns target metric)
          (with_width (aligned_width by) (value_column metric) ∷ []) place column e)));
    }

pub FitTable-align : (target : TargetSchema) (metric : MetricSchema) (by : Aligner) (grid : Grid) (rows : List Row)
    → AllByRecursion (IsRowOf target metric) rows → IsFew grid by rows → IsLawfulGrid grid → Takes by metric.value
    → length (aligned_rows by grid rows) ≤ 2 ^ 24
    → FitTable (map (aligned_column by) (columns_fetched target metric)) (aligned_rows by grid rows)
FitTable-align target metric by grid rows fit reach lawful takes few =
    let P : List Column → Type 0 = λ columns. FitTable columns (aligned_rows by grid rows) in
    subst P (aligned_are by target metric)
    (aligned_fits target metric by grid rows (record { fit = fit; few = reach; lawful = lawful; takes = takes })
    few)

-- ---- what alignment asks

alike : (by : Aligner) (of : ValueType) → Takes by of → (points : List Point) → AllByRecursion (PointFits of) points
    → CanAddUnder by points
alike (aligner.NextOlder seconds) of takes points all = tt
alike (aligner.Delta seconds) of takes points all =
    can_add_all of takes (values_of points)
    (all-made (PointFits of) (HasType of) (λ (point : Point). point.value) points (λ point p. p.0) all)
alike (aligner.Increase seconds) of takes points all =
    are_numbers of takes (values_of points)
    (all-made (PointFits of) (HasType of) (λ (point : Point). point.value) points (λ point p. p.0) all)

sum_fits : (grid : Grid) (by : Aligner) (of : ValueType) (points : List Point) → AllByRecursion (PointFits of) points
    → sum_by (reached grid by) points ≤ most_weight by → (time : ℤ) → IsBetween grid time → SumFits by points time
sum_fits grid (aligner.NextOlder seconds) of points all h time between = tt
sum_fits grid (aligner.Delta seconds) of points all h time between =
    omega (
      arith,
      sum_of_values (window_of time seconds points),
      h,
      window_weight grid (aligner.Delta seconds) time between points,
    )
sum_fits grid (aligner.Increase seconds) of points all h time between =
    omega (arith, earlier_weight grid seconds time between of points all, h)

series_can : (grid : Grid) → IsLawfulGrid grid → (by : Aligner) → IsDuration (seconds_of by) → (of : ValueType)
    → Takes by of → (points : List Point)
    → AllByRecursion (PointFits of) points → sum_by (reached grid by) points ≤ most_weight by
    → CanAlign by grid points
series_can grid lawful by duration of takes points all h = record {
  looks_back = duration;
  lawful = lawful;
  alike = alike by of takes points all;
  sums = all-map _ (SumFits by points) (grid_times grid)
      (λ time between. sum_fits grid by of points all h time between)
      (grid_reach grid lawful);
}

-- each series can be aligned
pub can_align : (target : TargetSchema) (metric : MetricSchema) (by : Aligner) (grid : Grid) (rows : List Row)
    → AllByRecursion (IsRowOf target metric) rows → IsFew grid by rows → IsLawfulGrid grid → IsDuration (seconds_of by)
    → Takes by metric.value
    → AllByRecursion (λ (series : SeriesKey × List Point). CanAlign by grid series.1) (points_by_series rows)
can_align target metric by grid rows fit few lawful duration takes =
    let whole = sum_by (row_weight grid by) rows in
    let most = all_weight grid by target metric rows fit few in
    all-map (λ (series : SeriesKey × List Point). SeriesFits target metric series
    × (sum_by (reached grid by) series.1 ≤ whole))
    (λ (series : SeriesKey × List Point). CanAlign by grid series.1) (points_by_series rows)
    (λ series p. series_can grid lawful by duration metric.value takes series.1 p.0.points
    (omega (arith, p.1, most)))
    (all_both (SeriesFits target metric)
    (λ (series : SeriesKey × List Point). sum_by (reached grid by) series.1 ≤ whole) (points_by_series rows)
    (series_fit target metric rows fit) (weights grid by rows))

-- ---- columns of alignments

field_sound : (a : Option Anchor) (f : Field) → IsSound (key_column a f)
field_sound a f = record {
  width = record { ordered = omega arith; narrow = omega arith };
  numbers = numbers_of f.of;
  bounded = bounded_of f.of;
}
  where
    numbers_of : (of : FieldType) → HasNumbers (field_value_type of)
    numbers_of field_type.Int = tt
    numbers_of field_type.Bool = tt
    numbers_of field_type.Text = tt

    bounded_of : (of : FieldType) → HasBound (field_value_type of)
    bounded_of field_type.Int = tt
    bounded_of field_type.Bool = tt
    bounded_of field_type.Text = tt

metric_sound : (fields : List Field) → AreLawful (map (key_column None) fields)
metric_sound [] = tt
metric_sound (f ∷ fs) = (field_sound None f, metric_sound fs)

last_sound : (by : Aligner) (metric : MetricSchema) → HasNumbers metric.value → HasBound metric.value
    → IsSound (with_width (aligned_width by) (value_column metric))
last_sound (aligner.Delta seconds) metric numbers bounded =
    record { width = record { ordered = omega arith; narrow = omega arith }; numbers = numbers; bounded = bounded }
last_sound (aligner.Increase seconds) metric numbers bounded =
    record { width = record { ordered = omega arith; narrow = omega arith }; numbers = numbers; bounded = bounded }
last_sound (aligner.NextOlder seconds) metric numbers bounded =
    record { width = record { ordered = omega arith; narrow = omega arith }; numbers = numbers; bounded = bounded }

target_sound : (schema : List ℕ) (next : ℕ) (fields : List Field) → AreLawful (target_columns schema next fields)
target_sound schema next [] = tt
target_sound schema next (f ∷ fs) =
    (field_sound (Some (anchor.Field schema next)) f, target_sound schema (next + 1) fs)

pub aligned_lawful : (target : TargetSchema) (metric : MetricSchema) (by : Aligner) → HasNumbers metric.value
    → HasBound metric.value
    → AreLawful (map (aligned_column by) (columns_fetched target metric))
aligned_lawful target metric by numbers bounded =
    subst AreLawful (aligned_are by target metric)
    (all_append IsSound (series_columns target metric) (with_width (aligned_width by) (value_column metric) ∷ [])
    (all_append IsSound (target_columns target.name 0 target.fields) (map (key_column None) metric.fields)
    (target_sound target.name 0 target.fields)
    (metric_sound metric.fields))
    (last_sound by metric numbers bounded, tt))
