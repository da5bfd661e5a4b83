-- What a query means over rows, and over their series: the same rows in another order, and the same load.
use Rattle.std.proofs.Common.{◌≡◌, ℕ, ℤ, ◌+◌, Bool, true, false, ◌&&◌, cond, List, [], ◌∷◌, map, length, refl, sym, ap}
use Rattle.std.proofs.Common.{◌∙◌, arith}
use Rattle.std.specs.Prelude.{IsPermutation}
use Rattle.std.specs.List.{filter, flat_map, sum_by}
use Rattle.std.proofs.lemmas.List.Folds.{flat_map-map}
use Rattle.std.proofs.lemmas.List.Sorted.{IsPermutation-append, IsPermutation-refl, length_permutation}
use Rattle.std.proofs.lemmas.List.Sums.{sum_by-cons}
use Rattle.mon_value.proofs.PermutationLemmas.{filter-permutation}
use Rattle.mon_value.proofs.SameLemmas.{same_series-Decides}
use Rattle.mon_value.specs.Grids.{aligned_values, timed_values, value_at, grid_times}
use Rattle.mon_value.specs.Same.{items_with, same_series}
use Rattle.mon_value.specs.Order.{row_of}
use Rattle.mon_value.specs.LeafHistories.{key_of_row, points_by_series, points_of, rows_of, series_of}
use Rattle.mon_value.specs.declared.aligners.Aligner.{Aligner}
use Rattle.mon_value.specs.declared.aligners.Aligner.TheVariants as aligner
use Rattle.mon_value.specs.declared.grids.Grid.{Grid}
use Rattle.mon_value.specs.declared.rows.Point.{Point}
use Rattle.mon_value.specs.declared.rows.Row.{Row}
use Rattle.mon_value.specs.declared.rows.SeriesKey.{SeriesKey}
use Rattle.mon_value.specs.declared.tables.TimedRow.{TimedRow}
use Rattle.mql_ast.specs.Rows.{predicate_truth}
use Rattle.typed_trees.specs.Meaning.{is_reached, load_of, meets, points_reached, aligned_rows, is_point_kept}
use Rattle.typed_trees.specs.Meaning.{points_meant, rows_meant, value_row, is_in_reach}
use Rattle.typed_trees.specs.Nodes as node
use Rattle.typed_trees.specs.Nodes.{NodeTree, columns_of}
use Rattle.mon_meaning.specs.within.Reach.{points_within_reach}
use Rattle.mon_meaning.specs.within.SeriesMeaning.{SeriesGroup, align_load, flows, load_by_series, points_flowing}
use Rattle.mon_meaning.specs.within.SeriesMeaning.{reach_count, rows_by_series, series_rows}
use Rattle.mon_meaning.proofs.FilterLemmas.{filter_map-permutation, filter_none, filter_swap, filter_twice}
use Rattle.mon_meaning.proofs.FilterLemmas.{flat_map-agree}
use Rattle.mon_meaning.proofs.KeyOrders as orders
use Rattle.mon_meaning.proofs.OperationOrders.{group_rows-permutation, pairs-permutation, top_rows-permutation}

-- ---- points

abbrev pub row_flows : NodeTree → Row → Bool
row_flows input row = flows input row.key row.point.value

-- the points that reach an alignment are those that pass its filters
pub points_meant-filter : (input : NodeTree) (rows : List Row) → points_meant input rows ≡ filter (row_flows input) rows
points_meant-filter (node.Fetch info schema metric) rows = refl
points_meant-filter (node.Filter info by input) rows =
    ap (filter (is_point_kept by info.columns)) (points_meant-filter input rows)
    ∙ filter_twice (row_flows input) (is_point_kept by info.columns) rows
points_meant-filter (node.Align info by input) rows = filter_none rows
points_meant-filter (node.GroupBy info by with input) rows = filter_none rows
points_meant-filter (node.Value info items input) rows = filter_none rows
points_meant-filter (node.Top info most column input) rows = filter_none rows
points_meant-filter (node.Join info left right) rows = filter_none rows
points_meant-filter (node.Union info left right) rows = filter_none rows

module _ (input : NodeTree) (key : SeriesKey) where
  abbrev own : Point → Bool
  own point = flows input key point.value

  points_if : (c : Bool) (row : Row) (rows : List Row)
      → map (λ (r : Row). r.point) (cond c (row ∷ rows) rows)
      ≡ cond c (row.point ∷ map (λ (r : Row). r.point) rows) (map (λ (r : Row). r.point) rows)
  points_if true row rows = refl
  points_if false row rows = refl

  with_point : (c d : Bool) (point : Point) (xs ys : List Point) → c ≡ d → xs ≡ ys
      → cond c (point ∷ xs) xs ≡ cond d (point ∷ ys) ys
  with_point c d point xs ys e f = λ i. cond (e i) (point ∷ f i) (f i)

  of_key_by : (b : Bool) (row : Row) (rows : List Row) → same_series key row.key ≡ b
      → map (λ (r : Row). r.point) (filter (row_flows input) (rows_of key rows)) ≡ filter own (points_of key rows)
      → map (λ (r : Row). r.point) (filter (row_flows input) (cond b (row ∷ rows_of key rows) (rows_of key rows)))
      ≡ filter own (map (λ (r : Row). r.point) (cond b (row ∷ rows_of key rows) (rows_of key rows)))
  of_key_by true row rows e rest =
      let alike : key ≡ row.key = (same_series-Decides key row.key).0 e in
      let passes : row_flows input row ≡ own row.point = ap (λ k. flows input k row.point.value) (sym alike) in
      points_if (row_flows input row) row (filter (row_flows input) (rows_of key rows))
      ∙ with_point (row_flows input row) (own row.point) row.point _ _ passes rest
  of_key_by false row rows e rest = rest

  -- the points of a series among those that pass
  points_of-passing : (rows : List Row)
      → map (λ (r : Row). r.point) (filter (row_flows input) (rows_of key rows)) ≡ filter own (points_of key rows)
  points_of-passing [] = refl
  points_of-passing (row ∷ rows) = of_key_by (same_series key row.key) row rows refl (points_of-passing rows)

  pub points_of-flowing : (rows : List Row)
      → points_of key (filter (row_flows input) rows) ≡ points_flowing input (key, points_of key rows)
  points_of-flowing rows =
      ap (map (λ (r : Row). r.point)) (filter_swap (λ row. same_series key row.key) (row_flows input) rows)
      ∙ points_of-passing rows

-- ---- rows of alignments

no_values_at : (by : Aligner) (times : List ℤ) → flat_map (λ time. timed_values time (value_at by [] time)) times ≡ []
no_values_at (aligner.Delta seconds) [] = refl
no_values_at (aligner.Increase seconds) [] = refl
no_values_at (aligner.NextOlder seconds) [] = refl
no_values_at (aligner.Delta seconds) (time ∷ times) = no_values_at (aligner.Delta seconds) times
no_values_at (aligner.Increase seconds) (time ∷ times) = no_values_at (aligner.Increase seconds) times
no_values_at (aligner.NextOlder seconds) (time ∷ times) = no_values_at (aligner.NextOlder seconds) times

-- a series without points has no values
pub no_values : (by : Aligner) (grid : Grid) (points : List Point) → points ≡ [] → aligned_values by grid points ≡ []
no_values by grid points none = ap (aligned_values by grid) none ∙ no_values_at by (grid_times grid)

-- what each series comes to
abbrev own_rows : Grid → Aligner → SeriesGroup → List TimedRow
own_rows grid by series = map (row_of series.0) (aligned_values by grid series.1)

pub aligned_rows-permutation : (grid : Grid) (by : Aligner) (input : NodeTree) (rows : List Row)
    → IsPermutation (aligned_rows by grid (points_meant input rows)) (flat_map (series_rows grid by input)
    (points_by_series rows))
aligned_rows-permutation grid by input rows =
    let passing = filter (row_flows input) rows in
    let h : SeriesKey → List TimedRow = λ key. series_rows grid by input (key, points_of key rows) in
    let left : aligned_rows by grid (points_meant input rows) ≡ flat_map h (series_of passing) =
    ap (aligned_rows by grid) (points_meant-filter input rows)
    ∙ flat_map-map (own_rows grid by) (λ key. (key, points_of key passing)) (series_of passing)
    ∙ flat_map-agree (λ key. own_rows grid by (key, points_of key passing)) h
    (λ key. ap (λ points. own_rows grid by (key, points)) (points_of-flowing input key rows)) (series_of passing) in
    let right : flat_map (series_rows grid by input) (points_by_series rows) ≡ flat_map h (series_of rows) =
    flat_map-map (series_rows grid by input) (λ key. (key, points_of key rows)) (series_of rows) in
    let none : (key : SeriesKey) → items_with same_series key_of_row key passing ≡ [] → h key ≡ [] =
    λ key e. ap (map (row_of key)) (no_values by grid (points_flowing input (key, points_of key rows))
    (sym (points_of-flowing input key rows) ∙ ap (map (λ (r : Row). r.point)) e)) in
    rw (left, right) (orders.flat_map-passing same_series same_series-Decides key_of_row h (row_flows input) rows none)

-- ---- rows of trees

pub rows-permutation : (grid : Grid) (tree : NodeTree) (rows : List Row)
    → IsPermutation (rows_meant grid tree rows) (rows_by_series grid tree (points_by_series rows))
rows-permutation grid (node.Fetch info schema metric) rows = IsPermutation-refl []
rows-permutation grid (node.Filter info by input) rows =
    filter-permutation (λ (row : TimedRow). predicate_truth by info.columns row.cells) _ _ (rows-permutation grid input
    rows)
rows-permutation grid (node.Align info by input) rows = aligned_rows-permutation grid by input rows
rows-permutation grid (node.GroupBy info by with input) rows =
    group_rows-permutation by with _ _ (rows-permutation grid input rows)
rows-permutation grid (node.Value info items input) rows =
    filter_map-permutation (value_row (columns_of input) items) _ _ (rows-permutation grid input rows)
rows-permutation grid (node.Top info most column input) rows =
    top_rows-permutation most column _ _ (rows-permutation grid input rows)
rows-permutation grid (node.Join info left right) rows =
    pairs-permutation (columns_of left) (columns_of right) _ _ _ _ (rows-permutation grid left rows)
    (rows-permutation grid right rows)
rows-permutation grid (node.Union info left right) rows =
    IsPermutation-append _ _ _ _ (rows-permutation grid left rows) (rows-permutation grid right rows)

-- ---- loads

module _ (grid : Grid) (by : Aligner) (input : NodeTree) where
  -- whether a row counts
  abbrev counts : Row → ℕ
  counts row = cond (is_reached grid by row && meets input row.key) 1 0

  counted_more : (b : Bool) (row : Row) (rows : List Row) (n : ℕ) → length rows ≡ n → length (cond b (row ∷ rows) rows)
      ≡ cond b 1 0 + n
  counted_more true row rows n e = omega (arith, e)
  counted_more false row rows n e = omega (arith, e)

  counted_length : (rows : List Row) → length (points_reached grid by input rows) ≡ sum_by counts rows
  counted_length [] = refl
  counted_length (row ∷ rows) =
      counted_more (is_reached grid by row && meets input row.key) row (points_reached grid by input rows)
      (sum_by counts rows)
      (counted_length rows)
      ∙ sym (sum_by-cons counts row rows)

  one_more : (b c : Bool) (point : Point) (points : List Point) (n : ℕ) → n ≡ cond c (length points) 0
      → cond (b && c) 1 0 + n ≡ cond c (length (cond b (point ∷ points) points)) 0
  one_more true true point points n e = omega (arith, e)
  one_more true false point points n e = omega (arith, e)
  one_more false true point points n e = omega (arith, e)
  one_more false false point points n e = omega (arith, e)

  none_counted : (c : Bool) → ◌≡◌ {A = ℕ} 0 (cond c 0 0)
  none_counted true = refl
  none_counted false = refl

  with_row : (key : SeriesKey) (row : Row) (rows : List Row) (b : Bool) → same_series key row.key ≡ b
      → sum_by counts (rows_of key rows) ≡ reach_count grid by input (key, points_of key rows)
      → sum_by counts (cond b (row ∷ rows_of key rows) (rows_of key rows))
      ≡ cond (meets input key) (length (points_within_reach grid by (map (λ (r : Row). r.point)
      (cond b (row ∷ rows_of key rows) (rows_of key rows))))) 0
  with_row key row rows true e rest =
      let alike : key ≡ row.key = (same_series-Decides key row.key).0 e in
      let met : meets input row.key ≡ meets input key = ap (meets input) (sym alike) in
      sum_by-cons counts row (rows_of key rows)
      ∙ ap (λ c. cond (is_reached grid by row && c) 1 0 + sum_by counts (rows_of key rows)) met
      ∙ one_more (is_in_reach grid by row.point) (meets input key) row.point
      (points_within_reach grid by (points_of key rows))
      (sum_by counts (rows_of key rows)) rest
  with_row key row rows false e rest = rest

  of_series : (key : SeriesKey) (rows : List Row)
      → sum_by counts (rows_of key rows) ≡ reach_count grid by input (key, points_of key rows)
  of_series key [] = none_counted (meets input key)
  of_series key (row ∷ rows) = with_row key row rows (same_series key row.key) refl (of_series key rows)

  sums_at : (rows : List Row) (keys : List SeriesKey)
      → sum_by (reach_count grid by input) (map (λ key. (key, points_of key rows)) keys)
      ≡ sum_by (λ key. sum_by counts (rows_of key rows)) keys
  sums_at rows [] = refl
  sums_at rows (key ∷ keys) =
      omega (
        arith,
        sum_by-cons (reach_count grid by input) (key, points_of key rows) (map (λ k. (k, points_of k rows)) keys),
        sum_by-cons (λ k. sum_by counts (rows_of k rows)) key keys,
        of_series key rows,
        sums_at rows keys,
      )

  -- the points in reach, series by series
  pub reach_counts : (rows : List Row)
      → length (points_reached grid by input rows) ≡ sum_by (reach_count grid by input) (points_by_series rows)
  reach_counts rows =
      counted_length rows
      ∙ sym (orders.key_sums same_series same_series-Decides key_of_row counts rows)
      ∙ sym (sums_at rows (series_of rows))

  pub align_loads : (rows : List Row)
      → length (points_reached grid by input rows) + length (aligned_rows by grid (points_meant input rows))
      ≡ align_load grid by input (points_by_series rows)
  align_loads rows =
      omega (arith, reach_counts rows, length_permutation _ _ (aligned_rows-permutation grid by input rows))

pub loads : (grid : Grid) (tree : NodeTree) (rows : List Row)
    → load_of grid tree rows ≡ load_by_series grid tree (points_by_series rows)
loads grid (node.Fetch info schema metric) rows = refl
loads grid (node.Filter info by input) rows = loads grid input rows
loads grid (node.Align info by input) rows = align_loads grid by input rows
loads grid (node.GroupBy info by with input) rows = loads grid input rows
loads grid (node.Value info items input) rows = loads grid input rows
loads grid (node.Top info most column input) rows = loads grid input rows
loads grid (node.Join info left right) rows =
    omega (
      arith,
      loads grid left rows,
      loads grid right rows,
      length_permutation _ _ (rows-permutation grid (node.Join info left right) rows),
    )
loads grid (node.Union info left right) rows = omega (arith, loads grid left rows, loads grid right rows)
