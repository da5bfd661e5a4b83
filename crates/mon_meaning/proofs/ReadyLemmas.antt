-- What can be evaluated over rows can be evaluated over their series.
use Rattle.std.proofs.Common.{◌≡◌, ℕ, ℤ, Bool, true, false, not, cond, List, [], ◌∷◌, map, length, refl, sym, ap}
use Rattle.std.proofs.Common.{subst, ◌∙◌, arith}
use Rattle.std.specs.List.{AllByRecursion, filter}
use Rattle.mon_value.proofs.KeyedLemmas as keyed
use Rattle.mon_value.proofs.SameLemmas.{same_series-Decides}
use Rattle.mon_value.specs.Grids.{CanAddUnder, CanAlign, SumFits, seconds_of, IsDuration, IsLawfulGrid, grid_times}
use Rattle.mon_value.specs.Same.{same_series}
use Rattle.mon_value.specs.LeafHistories.{key_of_row, points_by_series, points_of, series_of}
use Rattle.mon_value.specs.declared.aligners.Aligner.{Aligner}
use Rattle.mon_value.specs.declared.aligners.Aligner.TheVariants as aligner
use Rattle.mon_value.specs.declared.grids.Grid.{Grid}
use Rattle.mon_value.specs.declared.rows.Point.{Point}
use Rattle.mon_value.specs.declared.rows.Row.{Row}
use Rattle.mon_value.specs.declared.rows.SeriesKey.{SeriesKey}
use Rattle.mon_value.specs.declared.tables.TimedRow.{TimedRow}
use Rattle.mon_schema.specs.Fits.{fits}
use Rattle.mon_schema.specs.Names.{SchemaLists}
use Rattle.mql_ast.specs.Rows.{CanCompute}
use Rattle.typed_trees.specs.Meaning.{points_meant, rows_meant}
use Rattle.typed_trees.specs.Nodes as node
use Rattle.typed_trees.specs.Nodes.{NodeTree, columns_of}
use Rattle.typed_trees.specs.Plans.{HasFetchColumns}
use Rattle.typed_trees.specs.Plans as plan
use Rattle.typed_trees.specs.Soundness.{IsEvaluable, IsWithinRows}
use Rattle.mon_meaning.specs.within.KeyFilters.{KeysDecide, fetches_series}
use Rattle.mon_meaning.specs.within.Readiness.{IsNodeReady}
use Rattle.mon_meaning.specs.within.SeriesMeaning.{SeriesGroup, points_flowing, rows_by_series}
use Rattle.mon_meaning.proofs.FilterLemmas.{all-permutation}
use Rattle.mon_meaning.proofs.KeyCells.{IsKeyOf, key_fits, keys_decide}
use Rattle.mon_meaning.proofs.OperationOrders.{CanGroup-permutation}
use Rattle.mon_meaning.proofs.SeriesOrders.{loads, points_meant-filter, points_of-flowing, reach_counts, row_flows}
use Rattle.mon_meaning.proofs.SeriesOrders.{rows-permutation}
use Rattle.typed_rows.proofs.JoinedRows.{all-front}

-- ---- what holds of each row's key holds of each series

module _ (P : SeriesKey → Type 0) where
  kept_by : (b : Bool) (key : SeriesKey) (keys : List SeriesKey) → P key → AllByRecursion P keys
      → AllByRecursion P (cond b (key ∷ keys) keys)
  kept_by true key keys p all = (p, all)
  kept_by false key keys p all = all

  kept : (test : SeriesKey → Bool) (keys : List SeriesKey) → AllByRecursion P keys → AllByRecursion P (filter test keys)
  kept test [] all = tt
  kept test (key ∷ keys) all = kept_by (test key) key (filter test keys) all.0 (kept test keys all.1)

  pub all_keys : (rows : List Row) → AllByRecursion (λ (row : Row). P row.key) rows → AllByRecursion P (series_of rows)
  all_keys [] all = tt
  all_keys (row ∷ rows) all =
      (all.0, kept (λ key. not (same_series row.key key)) (series_of rows) (all_keys rows all.1))

series_of_all : (P : SeriesGroup → Type 0) (Q : SeriesKey → Type 0) (f : SeriesKey → List Point) (keys : List SeriesKey)
    → ((key : SeriesKey) → Q key → P (key, f key)) → AllByRecursion Q keys → AllByRecursion P
    (map (λ key. (key, f key)) keys)
series_of_all P Q f [] give all = tt
series_of_all P Q f (key ∷ keys) give all = (give key all.0, series_of_all P Q f keys give all.1)

each_series : (P : SeriesGroup → Type 0) (f : SeriesKey → List Point) (keys : List SeriesKey)
    → ((key : SeriesKey) → P (key, f key)) → AllByRecursion P (map (λ key. (key, f key)) keys)
each_series P f [] give = tt
each_series P f (key ∷ keys) give = (give key, each_series P f keys give)

-- ---- alignments

fits_none : (by : Aligner) (times : List ℤ) → AllByRecursion (SumFits by []) times
fits_none by [] = tt
fits_none (aligner.Delta seconds) (time ∷ times) = (omega arith, fits_none (aligner.Delta seconds) times)
fits_none (aligner.Increase seconds) (time ∷ times) = (omega arith, fits_none (aligner.Increase seconds) times)
fits_none (aligner.NextOlder seconds) (time ∷ times) = (tt, fits_none (aligner.NextOlder seconds) times)

alike_none : (by : Aligner) → CanAddUnder by []
alike_none (aligner.Delta seconds) = tt
alike_none (aligner.Increase seconds) = tt
alike_none (aligner.NextOlder seconds) = tt

-- a series without points can be aligned
align_none : (by : Aligner) (grid : Grid) (points : List Point) → IsDuration (seconds_of by) → IsLawfulGrid grid
    → points
    ≡ []
    → CanAlign by grid points
align_none by grid points looks lawful none =
    subst (λ ps. CanAlign by grid ps) (sym none) (record {
      looks_back = looks;
      lawful = lawful;
      alike = alike_none by;
      sums = fits_none by (grid_times grid);
    })

module _ (P : List Point → Type 0) (of : SeriesKey → List Point) where
  at_by : (key first : SeriesKey) (keys : List SeriesKey) (b : Bool) → same_series key first ≡ b
      → keyed.has same_series same_series-Decides key_of_row key (first ∷ keys) ≡ true
      → AllByRecursion (λ (series : SeriesKey × List Point). P series.1) (map (λ k. (k, of k)) (first ∷ keys))
      → (keyed.has same_series same_series-Decides key_of_row key keys ≡ true → P (of key)) → P (of key)
  at_by key first keys true e there all rest =
      subst (λ k. P (of k)) (sym ((same_series-Decides key first).0 e)) all.0
  at_by key first keys false e there all rest =
      rest (sym (keyed.has_cons same_series same_series-Decides key_of_row key first keys false e) ∙ there)

  -- what holds of all series holds of one that is there
  at_key : (key : SeriesKey) (keys : List SeriesKey) → keyed.has same_series same_series-Decides key_of_row key keys
      ≡ true
      → AllByRecursion (λ (series : SeriesKey × List Point). P series.1) (map (λ k. (k, of k)) keys) → P (of key)
  at_key key [] there all = absurd cc
  at_key key (first ∷ keys) there all =
      at_by key first keys (same_series key first) refl there all (λ left. at_key key keys left all.1)

module _ (grid : Grid) (by : Aligner) (input : NodeTree) (rows : List Row) (looks : IsDuration (seconds_of by))
    (lawful : IsLawfulGrid grid)
    (all : AllByRecursion (λ (series : SeriesKey × List Point). CanAlign by grid series.1)
    (points_by_series (points_meant input rows))) where
  abbrev passing : List Row
  passing = filter (row_flows input) rows

  abbrev there : SeriesKey → Bool
  there key = keyed.has same_series same_series-Decides key_of_row key (series_of passing)

  all_passing : AllByRecursion (λ (series : SeriesKey × List Point). CanAlign by grid series.1)
      (points_by_series passing)
  all_passing =
      subst (λ rs. AllByRecursion (λ (series : SeriesKey × List Point). CanAlign by grid series.1)
      (points_by_series rs))
      (points_meant-filter input rows) all

  can_by : (key : SeriesKey) (b : Bool) → there key ≡ b → CanAlign by grid (points_of key passing)
  can_by key true e = at_key (CanAlign by grid) (λ k. points_of k passing) key (series_of passing) e all_passing
  can_by key false e =
      align_none by grid (points_of key passing) looks lawful
      (ap (map (λ (r : Row). r.point)) (keyed.items_none same_series same_series-Decides key_of_row key passing e))

  -- what flows of each series can be aligned
  flowing_can : AllByRecursion (λ (one : SeriesGroup). CanAlign by grid (points_flowing input one))
      (points_by_series rows)
  flowing_can =
      each_series (λ one. CanAlign by grid (points_flowing input one)) (λ key. points_of key rows) (series_of rows)
      (λ key. subst (CanAlign by grid) (points_of-flowing input key rows) (can_by key (there key) refl))

-- ---- trees

within : (a b : ℕ) → a ≡ b → IsWithinRows b → IsWithinRows a
within a b e h = rw e h

whole_alike : (grid : Grid) (tree : NodeTree) (rows : List Row)
    → AllByRecursion (λ (row : TimedRow). length row.cells ≡ length (columns_of tree)) (rows_meant grid tree rows)
    → AllByRecursion (λ (row : TimedRow). length row.cells ≡ length (columns_of tree))
    (rows_by_series grid tree (points_by_series rows))
whole_alike grid tree rows =
    all-permutation (λ (row : TimedRow). length row.cells ≡ length (columns_of tree)) _ _ (rows-permutation grid tree
    rows)

module _ (held : SchemaLists) (grid : Grid) (rows : List Row) (fit : AllByRecursion (λ (row : Row). fits held row
    ≡ true) rows)
    (lawful : IsLawfulGrid grid) where
  row_keys : (rs : List Row) → AllByRecursion (λ (row : Row). fits held row ≡ true) rs
      → AllByRecursion (λ (row : Row). IsKeyOf held row.key) rs
  row_keys [] all = tt
  row_keys (row ∷ rs) all = (key_fits held row all.0, row_keys rs all.1)

  decided : (input : NodeTree) → HasFetchColumns held input
      → AllByRecursion (λ (one : SeriesGroup). fetches_series input one.0 ≡ true → KeysDecide input one.0)
      (points_by_series rows)
  decided input has =
      series_of_all (λ (one : SeriesGroup). fetches_series input one.0 ≡ true → KeysDecide input one.0) (IsKeyOf held)
      (λ key. points_of key rows) (series_of rows) (λ key of. keys_decide held key of input has)
      (all_keys (IsKeyOf held) rows (row_keys rows fit))

  -- a tree that can be evaluated over the rows can be over their series
  pub ready : (tree : NodeTree) → IsEvaluable grid tree rows → AllByRecursion (HasFetchColumns held) (plan.fetches tree)
      → IsNodeReady grid tree (points_by_series rows)
  ready (node.Fetch info schema metric) can has = tt
  ready (node.Filter info by input) can has = ready input can has
  ready (node.Align info by input) can has = record {
    lawful = lawful;
    looks_back = can.0;
    decided = decided input has.0;
    each = λ few. flowing_can grid by input rows can.0 lawful
        (can.1 (within _ _ (reach_counts grid by input rows) few));
  }
  ready (node.GroupBy info by with input) can has = (
    (λ few. CanGroup-permutation (columns_of input) by with _ _ (rows-permutation grid input rows)
        (can.0 (within _ _ (loads grid input rows) few))),
    ready input can.1 has,
  )
  ready (node.Value info items input) can has = (
    can.0,
    (
      (λ few. all-permutation (λ (row : TimedRow). CanCompute (columns_of input) row.cells)
          _ _ (rows-permutation grid input rows)
          (can.1.0 (within _ _ (loads grid input rows) few))),
      ready input can.1.1 has,
    ),
  )
  ready (node.Top info most column input) can has = ready input can has
  ready (node.Join info left right) can has =
      let parts = all-front (HasFetchColumns held) (plan.fetches left) (plan.fetches right) has in (
        (λ few. whole_alike grid left rows (can.0 (within _ _ (loads grid left rows) few))),
        (
          (λ few. whole_alike grid right rows (can.1.0 (within _ _ (loads grid right rows) few))),
          (ready left can.1.1.0 parts.0, ready right can.1.1.1 parts.1),
        ),
      )
  ready (node.Union info left right) can has =
      let parts = all-front (HasFetchColumns held) (plan.fetches left) (plan.fetches right) has in
      (ready left can.0 parts.0, ready right can.1 parts.1)
