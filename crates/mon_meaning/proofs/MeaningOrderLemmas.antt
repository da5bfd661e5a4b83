-- What a query means, and how much work it is: the same over rows whose series stand in another order.
use Rattle.std.proofs.Common.{◌≡◌, ℤ, Bool, true, false, ◌||◌, cond, List, [], ◌∷◌, map, refl, sym}
use Rattle.std.proofs.Common.{ap, subst, ◌∙◌, arith}
use Rattle.std.specs.Prelude.{IsPermutation}
use Rattle.std.specs.List.{AllByRecursion}
use Rattle.std.proofs.lemmas.List.Sorted.{IsPermutation-append, IsPermutation-refl, IsPermutation-sym}
use Rattle.std.proofs.lemmas.List.Sorted.{IsPermutation-trans, length_permutation, sum_by-IsPermutation}
use Rattle.mon_value.proofs.PermutationLemmas.{filter-permutation, flat_map-permutation}
use Rattle.mon_value.proofs.SameLemmas.{same_series-Decides}
use Rattle.mon_value.proofs.SourceLemmas.{has_series}
use Rattle.mon_value.specs.Same.{same_series}
use Rattle.mon_value.specs.LeafHistories.{points_by_series, points_of, rows_of}
use Rattle.mon_value.specs.declared.grids.Grid.{Grid}
use Rattle.mon_value.specs.declared.rows.Point.{Point}
use Rattle.mon_value.specs.declared.rows.Row.{Row}
use Rattle.mon_value.specs.declared.rows.SeriesKey.{SeriesKey}
use Rattle.mon_value.specs.declared.tables.TimedRow.{TimedRow}
use Rattle.mql_ast.specs.Rows.{predicate_truth}
use Rattle.typed_trees.specs.Meaning.{load, grid_of, meaning, value_row}
use Rattle.typed_trees.specs.Nodes as node
use Rattle.typed_trees.specs.Nodes.{NodeTree, TypedTree, columns_of}
use Rattle.mon_meaning.specs.within.SeriesMeaning.{SeriesGroup, load_by_series, reach_count, rows_by_series}
use Rattle.mon_meaning.specs.within.SeriesMeaning.{series_rows}
use Rattle.mon_meaning.proofs.FilterLemmas.{filter_map-permutation}
use Rattle.mon_meaning.proofs.OperationOrders.{group_rows-permutation, pairs-permutation, top_rows-permutation}
use Rattle.mon_meaning.proofs.PartLemmas.{part_load, part_rows}

-- ---- rows and loads of trees

pub tree_rows_in_order : (grid : Grid) (tree : NodeTree) (series others : List SeriesGroup) → IsPermutation series others
    → IsPermutation (rows_by_series grid tree series) (rows_by_series grid tree others)
tree_rows_in_order grid (node.Fetch info schema metric) series others same = IsPermutation-refl []
tree_rows_in_order grid (node.Filter info by input) series others same =
    filter-permutation (λ (row : TimedRow). predicate_truth by info.columns row.cells) _ _
    (tree_rows_in_order grid input series others same)
tree_rows_in_order grid (node.Align info by input) series others same =
    flat_map-permutation (series_rows grid by input) series others same
tree_rows_in_order grid (node.GroupBy info by with input) series others same =
    group_rows-permutation by with _ _ (tree_rows_in_order grid input series others same)
tree_rows_in_order grid (node.Value info items input) series others same =
    filter_map-permutation (value_row (columns_of input) items) _ _ (tree_rows_in_order grid input series others same)
tree_rows_in_order grid (node.Top info most column input) series others same =
    top_rows-permutation most column _ _ (tree_rows_in_order grid input series others same)
tree_rows_in_order grid (node.Join info left right) series others same =
    pairs-permutation (columns_of left) (columns_of right) _ _ _ _ (tree_rows_in_order grid left series others same)
    (tree_rows_in_order grid right series others same)
tree_rows_in_order grid (node.Union info left right) series others same =
    IsPermutation-append _ _ _ _ (tree_rows_in_order grid left series others same)
    (tree_rows_in_order grid right series others same)

pub tree_loads_in_order : (grid : Grid) (tree : NodeTree) (series others : List SeriesGroup) → IsPermutation series others
    → load_by_series grid tree series ≡ load_by_series grid tree others
tree_loads_in_order grid (node.Fetch info schema metric) series others same = refl
tree_loads_in_order grid (node.Filter info by input) series others same = tree_loads_in_order grid input series others same
tree_loads_in_order grid (node.Align info by input) series others same =
    omega (
      arith,
      sum_by-IsPermutation (reach_count grid by input) series others same,
      length_permutation _ _ (tree_rows_in_order grid (node.Align info by input) series others same),
    )
tree_loads_in_order grid (node.GroupBy info by with input) series others same = tree_loads_in_order grid input series others same
tree_loads_in_order grid (node.Value info items input) series others same = tree_loads_in_order grid input series others same
tree_loads_in_order grid (node.Top info most column input) series others same = tree_loads_in_order grid input series others same
tree_loads_in_order grid (node.Join info left right) series others same =
    omega (
      arith,
      tree_loads_in_order grid left series others same,
      tree_loads_in_order grid right series others same,
      length_permutation _ _ (tree_rows_in_order grid (node.Join info left right) series others same),
    )
tree_loads_in_order grid (node.Union info left right) series others same =
    omega (arith, tree_loads_in_order grid left series others same, tree_loads_in_order grid right series others same)

-- ---- queries

module _ (typed : TypedTree) (some others : List Row) (moment : ℤ)
    (same : IsPermutation (points_by_series some) (points_by_series others)) where
  abbrev grid : Grid
  grid = grid_of typed moment

  by_series : (rows : List Row)
      → IsPermutation (meaning typed rows moment) (rows_by_series grid typed.tree (points_by_series rows))
  by_series rows =
      part_rows grid typed.tree (points_by_series rows) rows refl
      (rows_by_series grid typed.tree (points_by_series rows)) refl

  pub meaning_in_order : IsPermutation (meaning typed some moment) (meaning typed others moment)
  meaning_in_order =
      IsPermutation-trans _ _ _ (by_series some)
      (IsPermutation-trans _ _ _ (tree_rows_in_order grid typed.tree (points_by_series some) (points_by_series others) same)
      (IsPermutation-sym (meaning typed others moment) _ (by_series others)))

  pub load_in_order : load typed some moment ≡ load typed others moment
  load_in_order =
      sym (part_load grid typed.tree (points_by_series some) some refl)
      ∙ tree_loads_in_order grid typed.tree (points_by_series some) (points_by_series others) same
      ∙ part_load grid typed.tree (points_by_series others) others refl

-- ---- what holds of each row

module _ (P : Row → Type 0) where
  -- what holds of each point of a series, as a row of it
  abbrev OfPoints : SeriesKey → List Point → Type 0
  OfPoints key points = AllByRecursion (λ (point : Point). P (record { key = key; point = point })) points

  abbrev OfSeries : SeriesGroup → Type 0
  OfSeries series = OfPoints series.0 series.1

  -- a row more, if it is of the series
  abbrev with_row : SeriesKey → Row → List Row → Bool → List Point
  with_row key row rows b = map (λ (r : Row). r.point) (cond b (row ∷ rows_of key rows) (rows_of key rows))

  points_with : (key : SeriesKey) (row : Row) (rows : List Row) (b : Bool) → same_series key row.key ≡ b
      → points_of key (row ∷ rows) ≡ with_row key row rows b
  points_with key row rows b e =
      ap (λ c. map (λ (r : Row). r.point) (cond c (row ∷ rows_of key rows) (rows_of key rows))) e

  into_series_by : (key : SeriesKey) (row : Row) (rows : List Row) (b : Bool) → same_series key row.key ≡ b → P row
      → OfPoints key (points_of key rows) → OfPoints key (with_row key row rows b)
  into_series_by key row rows true e here rest =
      let alike : row.key ≡ key = sym ((same_series-Decides key row.key).0 e) in
      (subst (λ (k : SeriesKey). P (record { key = k; point = row.point })) alike here, rest)
  into_series_by key row rows false e here rest = rest

  into_series : (key : SeriesKey) (rows : List Row) → AllByRecursion P rows → OfPoints key (points_of key rows)
  into_series key [] all = tt
  into_series key (row ∷ rows) all =
      let b = same_series key row.key in
      subst (OfPoints key) (sym (points_with key row rows b refl))
      (into_series_by key row rows b refl all.0 (into_series key rows all.1))

  all_series : (rows : List Row) (keys : List SeriesKey) → AllByRecursion P rows
      → AllByRecursion OfSeries (map (λ key. (key, points_of key rows)) keys)
  all_series rows [] all = tt
  all_series rows (key ∷ keys) all = (into_series key rows all, all_series rows keys all)

  at_key_by : (key first : SeriesKey) (rows : List Row) (keys : List SeriesKey) (b : Bool) → same_series key first ≡ b
      → has_series key (first ∷ keys) ≡ true → OfPoints first (points_of first rows)
      → (has_series key keys ≡ true → OfPoints key (points_of key rows)) → OfPoints key (points_of key rows)
  at_key_by key first rows keys true e there here rest =
      subst (λ (k : SeriesKey). OfPoints k (points_of k rows)) (sym ((same_series-Decides key first).0 e)) here
  at_key_by key first rows keys false e there here rest =
      rest (sym (ap (λ c. c || has_series key keys) e) ∙ there)

  at_key : (key : SeriesKey) (rows : List Row) (keys : List SeriesKey) → has_series key keys ≡ true
      → AllByRecursion OfSeries (map (λ key. (key, points_of key rows)) keys) → OfPoints key (points_of key rows)
  at_key key rows [] there all = absurd cc
  at_key key rows (first ∷ keys) there all =
      at_key_by key first rows keys (same_series key first) refl there all.0
      (λ left. at_key key rows keys left all.1)

  less_by : (key : SeriesKey) (row : Row) (rows : List Row) (b : Bool) → OfPoints key (with_row key row rows b)
      → OfPoints key (points_of key rows)
  less_by key row rows true all = all.1
  less_by key row rows false all = all

  less : (key : SeriesKey) (row : Row) (rows : List Row) → OfPoints key (points_of key (row ∷ rows))
      → OfPoints key (points_of key rows)
  less key row rows all =
      let b = same_series key row.key in
      less_by key row rows b (subst (OfPoints key) (points_with key row rows b refl) all)
