-- A fetch with its filters: the series that are met and the points that are kept are those of the part that it stands
-- for.
use Rattle.std.proofs.Common.{◌≡◌, Bool, true, false, ◌&&◌, ◌||◌, ◌==◌, not, cond, List, [], ◌∷◌, ◌++◌, map, length}
use Rattle.std.proofs.Common.{refl, sym, ap, subst, ◌∙◌, arith}
use Rattle.std.specs.List.{AllByRecursion, filter, flat_map, sum_by}
use Rattle.std.proofs.lemmas.List.Elements.{filter_agree}
use Rattle.std.proofs.lemmas.List.Sums.{sum_by-cons}
use Rattle.mon_value.specs.Grids.{CanAlign, aligned_values, IsLawfulGrid}
use Rattle.mon_value.specs.Order.{cells_of, row_of}
use Rattle.mon_value.specs.declared.aligners.Aligner.{Aligner}
use Rattle.mon_value.specs.declared.grids.Grid.{Grid}
use Rattle.mon_value.specs.declared.rows.Point.{Point}
use Rattle.mon_value.specs.declared.rows.SeriesKey.{SeriesKey}
use Rattle.mon_value.specs.declared.values.Value.{Value}
use Rattle.mql_ast.specs.Rows.{predicate_truth}
use Rattle.typed_trees.specs.Meaning.{is_in_reach, lets_in, meets, names_keys, series_cells, is_fetched}
use Rattle.typed_trees.specs.Nodes as node
use Rattle.typed_trees.specs.Nodes.{NodeTree}
use Rattle.mon_meaning.specs.within.FetchViews.{FetchView, FetchesNothing, IsFetchOf, all_filters_hold, is_fetch_met}
use Rattle.mon_meaning.specs.within.FetchViews.{keeps}
use Rattle.mon_meaning.specs.within.FetchViews.{met_rows, points_kept}
use Rattle.mon_meaning.specs.within.MetSeries.{CanAlignMet, is_counted, met_count}
use Rattle.mon_meaning.specs.within.Reach.{points_within_reach}
use Rattle.mon_meaning.specs.within.KeyFilters.{KeysDecide, fetches_series}
use Rattle.mon_meaning.specs.within.SeriesMeaning.{SeriesGroup, align_load, flows, points_flowing, reach_count}
use Rattle.mon_meaning.specs.within.SeriesMeaning.{series_rows}
use Rattle.mon_meaning.proofs.FilterLemmas.{filter_none, filter_swap}
use Rattle.mon_meaning.proofs.ReachLemmas.{aligned-unreached}
use Rattle.mon_meaning.proofs.SeriesOrders.{no_values}
use Rattle.mon_value.proofs.PlainLemmas.{and_both}

-- ---- what isn't met doesn't flow

unfetched : (input : NodeTree) (key : SeriesKey) (value : Value) → fetches_series input key ≡ false
    → flows input key value
    ≡ false
unfetched (node.Fetch info schema metric) key value e = e
unfetched (node.Filter info by input) key value e =
    let rest = unfetched input key value e in by_test (predicate_truth by info.columns (cells_of key value)) rest
  where
    by_test : (b : Bool) {c : Bool} → c ≡ false → (b && c) ≡ false
    by_test true e = e
    by_test false e = refl
unfetched (node.Align info by input) key value e = refl
unfetched (node.GroupBy info by with input) key value e = refl
unfetched (node.Value info items input) key value e = refl
unfetched (node.Top info most column input) key value e = refl
unfetched (node.Join info left right) key value e = refl
unfetched (node.Union info left right) key value e = refl

-- a filter lets a series in that it takes no points of
filtered_out : (keys truth at meets' flows' : Bool) → (keys ≡ true → at ≡ truth) → (meets' ≡ false → flows' ≡ false)
    → ((not keys || truth) && meets') ≡ false → (at && flows') ≡ false
filtered_out true true at meets' flows' decide rest e = let f = rest e in rw f (by_left at)
  where
    by_left : (b : Bool) → (b && false) ≡ false
    by_left true = refl
    by_left false = refl
filtered_out true false at meets' flows' decide rest e = let f = decide refl in rw f refl
filtered_out false truth at meets' flows' decide rest e = let f = rest e in rw f (by_left at)
  where
    by_left : (b : Bool) → (b && false) ≡ false
    by_left true = refl
    by_left false = refl

decided_out : (input : NodeTree) (key : SeriesKey) (value : Value) → KeysDecide input key → meets input key ≡ false
    → flows input key value ≡ false
decided_out (node.Fetch info schema metric) key value decide e = e
decided_out (node.Filter info by input) key value decide e =
    filtered_out (names_keys info.columns by) (predicate_truth by info.columns (series_cells key))
    (predicate_truth by info.columns (cells_of key value)) (meets input key) (flows input key value)
    (decide.0 value) (decided_out input key value decide.1) e
decided_out (node.Align info by input) key value decide e = refl
decided_out (node.GroupBy info by with input) key value decide e = refl
decided_out (node.Value info items input) key value decide e = refl
decided_out (node.Top info most column input) key value decide e = refl
decided_out (node.Join info left right) key value decide e = refl
decided_out (node.Union info left right) key value decide e = refl

unmet_by : (input : NodeTree) (key : SeriesKey) (value : Value) (b : Bool) → fetches_series input key ≡ b
    → (fetches_series input key ≡ true → KeysDecide input key) → meets input key ≡ false → flows input key value ≡ false
unmet_by input key value true e decided unmet = decided_out input key value (decided e) unmet
unmet_by input key value false e decided unmet = unfetched input key value e

-- the points of a series that isn't met don't flow
unmet : (input : NodeTree) (key : SeriesKey) → (fetches_series input key ≡ true → KeysDecide input key)
    → meets input key
    ≡ false
    → (value : Value) → flows input key value ≡ false
unmet input key decided e value = unmet_by input key value (fetches_series input key) refl decided e

met_fetched : (input : NodeTree) (key : SeriesKey) → meets input key ≡ true → fetches_series input key ≡ true
met_fetched (node.Fetch info schema metric) key e = e
met_fetched (node.Filter info by input) key e =
    met_fetched input key (and_both (lets_in by info.columns key) (meets input key) e).1
met_fetched (node.Align info by input) key e = absurd cc
met_fetched (node.GroupBy info by with input) key e = absurd cc
met_fetched (node.Value info items input) key e = absurd cc
met_fetched (node.Top info most column input) key e = absurd cc
met_fetched (node.Join info left right) key e = absurd cc
met_fetched (node.Union info left right) key e = absurd cc

-- ---- what is met

module _ (grid : Grid) (by : Aligner) (input : NodeTree) (fetch : FetchView) (is : IsFetchOf input fetch)
    (lawful : IsLawfulGrid grid) where
  keeps_by : (fetched series at kept flow : Bool) → (fetched && series) ≡ true → at ≡ series
      → (fetched && (at && kept)) ≡ flow → kept ≡ flow
  keeps_by true true at kept flow e f g = ap (λ b. b && kept) (sym f) ∙ g
  keeps_by true false at kept flow e f g = absurd cc
  keeps_by false series at kept flow e f g = absurd cc

  -- the filters of points decide of the points of a series that is met
  keeps_met : (key : SeriesKey) → (fetches_series input key ≡ true → KeysDecide input key) → meets input key ≡ true
      → (value : Value) → keeps fetch key value ≡ flows input key value
  keeps_met key decided met value =
      keeps_by (is_fetched fetch.schema fetch.metric key) (all_filters_hold fetch.of_series (series_cells key))
      (all_filters_hold fetch.of_series (cells_of key value)) (keeps fetch key value) (flows input key value)
      (is.met key ∙ met) (is.decided key value (decided (met_fetched input key met))) (is.flowing key value)

  points_met : (one : SeriesGroup) → (fetches_series input one.0 ≡ true → KeysDecide input one.0) → meets input one.0
      ≡ true
      → points_kept fetch one ≡ points_flowing input one
  points_met one decided met = filter_agree _ _ (λ point. keeps_met one.0 decided met point.value) one.1

  rows_met : (one : SeriesGroup) → (fetches_series input one.0 ≡ true → KeysDecide input one.0) → meets input one.0
      ≡ true
      → met_rows grid by fetch one ≡ series_rows grid by input one
  rows_met one decided met = ap (λ points. map (row_of one.0) (aligned_values by grid points))
      (points_met one decided met)

  none_flow : (key : SeriesKey) (points : List Point) → ((value : Value) → flows input key value ≡ false)
      → points_flowing input (key, points) ≡ []
  none_flow key points none = filter_agree _ _ (λ point. none point.value) points ∙ sym (filter_none points)

  no_rows : (one : SeriesGroup) → points_flowing input one ≡ [] → series_rows grid by input one ≡ []
  no_rows one none = ap (map (row_of one.0)) (no_values by grid (points_flowing input one) none)

  unmet_rows : (one : SeriesGroup) → (fetches_series input one.0 ≡ true → KeysDecide input one.0) → meets input one.0
      ≡ false
      → series_rows grid by input one ≡ []
  unmet_rows one decided e = no_rows one (none_flow one.0 one.1 (unmet input one.0 decided e))

  empty_by_length : {A : Type 0} (xs : List A) → (length xs == 0) ≡ true → xs ≡ []
  empty_by_length [] e = refl
  empty_by_length (x ∷ xs) e = absurd (grind arith)

  unreached_rows : (one : SeriesGroup) → (length (points_within_reach grid by one.1) == 0) ≡ true
      → series_rows grid by input one
      ≡ []
  unreached_rows one e =
      let test : Point → Bool = λ point. flows input one.0 point.value in
      let none : points_within_reach grid by one.1 ≡ [] = empty_by_length (points_within_reach grid by one.1) e in
      let unreached : points_within_reach grid by (points_flowing input one) ≡ [] =
      filter_swap (is_in_reach grid by) test one.1 ∙ ap (filter test) none in
      ap (map (row_of one.0)) (aligned-unreached grid by (points_flowing input one) lawful unreached)

  counted_parts : (met empty : Bool) → (met && not empty) ≡ true → met ≡ true
  counted_parts true empty e = refl
  counted_parts false empty e = absurd cc

  uncounted_rows : (one : SeriesGroup) (met empty : Bool) → (fetches_series input one.0 ≡ true → KeysDecide input one.0)
      → meets input one.0 ≡ met → (length (points_within_reach grid by one.1) == 0) ≡ empty → (met && not empty) ≡ false
      → series_rows grid by input one ≡ []
  uncounted_rows one true true decided e f g = unreached_rows one f
  uncounted_rows one true false decided e f g = absurd cc
  uncounted_rows one false empty decided e f g = unmet_rows one decided e

  rows_by : (one : SeriesGroup) (rest : List SeriesGroup) (b : Bool)
      → (fetches_series input one.0 ≡ true → KeysDecide input
      one.0)
      → is_counted grid by fetch one ≡ b
      → flat_map (met_rows grid by fetch) (filter (is_counted grid by fetch) rest)
      ≡ flat_map (series_rows grid by input) rest
      → flat_map (met_rows grid by fetch) (cond b (one ∷ filter (is_counted grid by fetch) rest)
      (filter (is_counted grid by fetch) rest))
      ≡ series_rows grid by input one ++ flat_map (series_rows grid by input) rest
  rows_by one rest true decided e ih =
      let met : meets input one.0 ≡ true =
      sym (is.met one.0) ∙ counted_parts (is_fetch_met fetch one.0) (length (points_within_reach grid by one.1) == 0)
      e in
      let here = rows_met one decided met in
      λ i. here i ++ ih i
  rows_by one rest false decided e ih =
      let none : series_rows grid by input one ≡ [] =
      uncounted_rows one (is_fetch_met fetch one.0) (length (points_within_reach grid by one.1) == 0) decided
      (sym (is.met one.0)) refl
      e in
      ih ∙ ap (λ front. front ++ flat_map (series_rows grid by input) rest) (sym none)

  -- the rows of the series that are counted are all rows
  pub counted_rows : (series : List SeriesGroup)
      → AllByRecursion (λ (one : SeriesGroup). fetches_series input one.0 ≡ true → KeysDecide input one.0) series
      → flat_map (met_rows grid by fetch) (filter (is_counted grid by fetch) series)
      ≡ flat_map (series_rows grid by input) series
  counted_rows [] decided = refl
  counted_rows (one ∷ series) decided =
      rows_by one series (is_counted grid by fetch one) decided.0 refl (counted_rows series decided.1)

  can_by : (one : SeriesGroup) (rest : List SeriesGroup) (b : Bool)
      → (fetches_series input one.0 ≡ true → KeysDecide input
      one.0)
      → is_counted grid by fetch one ≡ b → CanAlign by grid (points_flowing input one)
      → AllByRecursion (CanAlignMet grid by fetch) rest → AllByRecursion (CanAlignMet grid by fetch)
      (cond b (one ∷ rest) rest)
  can_by one rest true decided e can all =
      let met : meets input one.0 ≡ true =
      sym (is.met one.0) ∙ counted_parts (is_fetch_met fetch one.0) (length (points_within_reach grid by one.1) == 0)
      e in
      (subst (λ points. CanAlign by grid points) (sym (points_met one decided met)) can, all)
  can_by one rest false decided e can all = all

  -- the series that are counted can be aligned
  pub counted_can : (series : List SeriesGroup)
      → AllByRecursion (λ (one : SeriesGroup). fetches_series input one.0 ≡ true → KeysDecide input one.0) series
      → AllByRecursion (λ (one : SeriesGroup). CanAlign by grid (points_flowing input one)) series
      → AllByRecursion (CanAlignMet grid by fetch) (filter (is_counted grid by fetch) series)
  counted_can [] decided can = tt
  counted_can (one ∷ series) decided can =
      can_by one (filter (is_counted grid by fetch) series) (is_counted grid by fetch one) decided.0 refl can.0
      (counted_can series decided.1 can.1)

  -- as many points are in reach of the series that are met
  pub counts_met : (series : List SeriesGroup)
      → sum_by (met_count grid by fetch) series ≡ sum_by (reach_count grid by input) series
  counts_met series =
      λ i. sum_by (λ (one : SeriesGroup). cond (is.met one.0 i) (length (points_within_reach grid by one.1)) 0)
      series

-- ---- where nothing is fetched

module _ (grid : Grid) (by : Aligner) (input : NodeTree) (nothing : FetchesNothing input) where
  dry_rows : (one : SeriesGroup) → series_rows grid by input one ≡ []
  dry_rows one =
      ap (map (row_of one.0)) (no_values by grid (points_flowing input one)
      (filter_agree _ _ (λ (point : Point). nothing.dry one.0 point.value) one.1 ∙ sym (filter_none one.1)))

  pub nothing_rows : (series : List SeriesGroup) → flat_map (series_rows grid by input) series ≡ []
  nothing_rows [] = refl
  nothing_rows (one ∷ series) = ap (λ front. front ++ flat_map (series_rows grid by input) series) (dry_rows one)
      ∙ nothing_rows series

  nothing_counted : (series : List SeriesGroup) → sum_by (reach_count grid by input) series ≡ 0
  nothing_counted [] = refl
  nothing_counted (one ∷ series) =
      let here : reach_count grid by input one ≡ 0 = ap (λ b. cond b (length (points_within_reach grid by one.1)) 0)
      (nothing.unmet one.0) in
      sum_by_more here (nothing_counted series)
    where
      sum_by_more : reach_count grid by input one ≡ 0 → sum_by (reach_count grid by input) series ≡ 0
          → sum_by (reach_count grid by input) (one ∷ series) ≡ 0
      sum_by_more e f = sum_by-cons (reach_count grid by input) one series ∙ omega (arith, e, f)

  pub nothing_load : (series : List SeriesGroup) → align_load grid by input series ≡ 0
  nothing_load series = omega (arith, nothing_counted series, ap length (nothing_rows series))
