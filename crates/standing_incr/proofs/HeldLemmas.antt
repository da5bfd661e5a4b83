-- What is held of rows is enough of them: the same meaning and load, at the moment and at each later one.
use Rattle.std.proofs.Common.{◌≡◌, ◌∙◌, ℤ, ◌≤ℤ◌, ◌-ℤ◌, Bool, true, false, ◌&&◌, cond, List, [], ◌∷◌, ◌++◌}
use Rattle.std.proofs.Common.{not, map, length, refl, sym, ap, subst, arith}
use Rattle.std.specs.Prelude.{IsPermutation, int_le, int_lt}
use Rattle.std.specs.List.{AllByRecursion, filter, flat_map}
use Rattle.std.proofs.lemmas.Bool.{and_parts, and_from, false≢true}
use Rattle.std.proofs.lemmas.Int.{ints}
use Rattle.std.proofs.lemmas.List.Folds.{flat_map-map}
use Rattle.std.proofs.lemmas.List.Sorted.{IsPermutation-refl, IsPermutation-sym, IsPermutation-trans, length_permutation}
use Rattle.mon_value.specs.Grids.{aligned_values, grid_times, least_time, seconds_of, IsLawfulGrid}
use Rattle.mon_value.specs.LeafHistories.{EndsBefore, IsSource, points_by_series, points_of, rows_of, series_of}
use Rattle.mon_value.specs.Order.{row_of}
use Rattle.mon_value.specs.Same.{items_with, keys_of, same_series}
use Rattle.mon_value.specs.declared.aligners.Aligner.{Aligner}
use Rattle.mon_value.specs.declared.grids.Grid.{Grid}
use Rattle.mon_value.specs.declared.rows.Row.{Row}
use Rattle.mon_value.specs.declared.rows.SeriesKey.{SeriesKey}
use Rattle.mon_value.specs.declared.tables.TimedRow.{TimedRow}
use Rattle.mon_value.proofs.PermutationLemmas.{filter-permutation}
use Rattle.mon_value.proofs.PlainLemmas.{all_append, all_back, all_front}
use Rattle.mon_value.proofs.SameLemmas.{same_series-Decides}
use Rattle.mon_schema.specs.Fits.{fits}
use Rattle.mql_ast.specs.Rows.{predicate_truth}
use Rattle.typed_trees.specs.Meaning.{aligned_rows, grid_of, is_reached, load_of, meets, points_meant}
use Rattle.typed_trees.specs.Meaning.{points_reached, rows_meant, value_row}
use Rattle.typed_trees.specs.Nodes as node
use Rattle.typed_trees.specs.Nodes.{NodeTree, TypedTree, columns_of}
use Rattle.typed_trees.specs.Soundness.{IsTyped}
use Rattle.mon_meaning.specs.Incremental.{is_one_path}
use Rattle.mon_meaning.specs.within.Reach.{reach_start}
use Rattle.mon_meaning.specs.within.SeriesMeaning.{points_flowing, series_rows}
use Rattle.mon_meaning.proofs.FilterLemmas.{filter_map-permutation, filter_twice}
use Rattle.mon_meaning.proofs.KeyOrders as orders
use Rattle.mon_meaning.proofs.OperationOrders.{group_rows-permutation, top_rows-permutation}
use Rattle.mon_meaning.proofs.ReachLemmas.{IsWithin, times_within}
use Rattle.mon_meaning.proofs.SeriesOrders.{aligned_rows-permutation, no_values, points_of-flowing, row_flows}
use Rattle.standing_incr.specs.HeldRows.{held_of, held_rows, is_before, is_met, looks_before}
use Rattle.standing_incr.specs.NeededRows.{is_needed, needed_rows}
use Rattle.standing_incr.proofs.NeededLemmas.{needed_again, needed_more, needed_reached}
use Rattle.standing_incr.proofs.WindowLemmas.{filter_narrow, points_own, value_needed, values_alike}

-- ---- what holds of all rows holds of those that matter

module _ (met before : Row → Bool) (start : ℤ) where
  all_if : (P : Row → Type 0) (b : Bool) (row : Row) (rows : List Row) → P row → AllByRecursion P rows
      → AllByRecursion P (cond b (row ∷ rows) rows)
  all_if P true row rows here rest = (here, rest)
  all_if P false row rows here rest = rest

  pub all_needed : (P : Row → Type 0) (rows : List Row) → AllByRecursion P rows
      → AllByRecursion P (needed_rows met before start rows)
  all_needed P [] all = tt
  all_needed P (row ∷ rows) all =
      all_if P (is_needed met before start row rows) row (needed_rows met before start rows) all.0
      (all_needed P rows all.1)

  source_if : (b : Bool) (row : Row) (rows : List Row) → AllByRecursion (EndsBefore row) rows → IsSource rows
      → IsSource (cond b (row ∷ rows) rows)
  source_if true row rows all rest = (all, rest)
  source_if false row rows all rest = rest

  pub source_needed : (rows : List Row) → IsSource rows → IsSource (needed_rows met before start rows)
  source_needed [] source = tt
  source_needed (row ∷ rows) source =
      source_if (is_needed met before start row rows) row (needed_rows met before start rows)
      (all_needed (EndsBefore row) rows source.0) (source_needed rows source.1)

  behind_if : (b : Bool) (first : Row) (rows : List Row) (row : Row) → AllByRecursion (EndsBefore first) (rows ++ row ∷ [])
      → IsSource (rows ++ row ∷ []) → IsSource (cond b (first ∷ rows) rows ++ row ∷ [])
  behind_if true first rows row all rest = (all, rest)
  behind_if false first rows row all rest = rest

  needed_behind : (rows : List Row) (row : Row) → IsSource (rows ++ row ∷ [])
      → IsSource (needed_rows met before start rows ++ row ∷ [])
  needed_behind [] row source = source
  needed_behind (first ∷ rows) row source =
      let needed = needed_rows met before start rows in
      behind_if (is_needed met before start first rows) first needed row
      (all_append (EndsBefore first) needed (row ∷ [])
      (all_needed (EndsBefore first) rows (all_front (EndsBefore first) rows (row ∷ []) source.0))
      (all_back (EndsBefore first) rows (row ∷ []) source.0)) (needed_behind rows row source.1)

pub all_held : (grid : Grid) (P : Row → Type 0) (tree : NodeTree) (rows : List Row) → AllByRecursion P rows
    → AllByRecursion P (held_rows grid tree rows)
all_held grid P (node.Fetch info schema metric) rows all = tt
all_held grid P (node.Filter info by input) rows all = all_held grid P input rows all
all_held grid P (node.Align info by input) rows all =
    all_needed (is_met input) (is_before by input) (reach_start grid by) P rows all
all_held grid P (node.GroupBy info by with input) rows all = all_held grid P input rows all
all_held grid P (node.Value info items input) rows all = all_held grid P input rows all
all_held grid P (node.Top info most column input) rows all = all_held grid P input rows all
all_held grid P (node.Join info left right) rows all = tt
all_held grid P (node.Union info left right) rows all = tt

pub source_held : (grid : Grid) (tree : NodeTree) (rows : List Row) → IsSource rows
    → IsSource (held_rows grid tree rows)
source_held grid (node.Fetch info schema metric) rows source = tt
source_held grid (node.Filter info by input) rows source = source_held grid input rows source
source_held grid (node.Align info by input) rows source =
    source_needed (is_met input) (is_before by input) (reach_start grid by) rows source
source_held grid (node.GroupBy info by with input) rows source = source_held grid input rows source
source_held grid (node.Value info items input) rows source = source_held grid input rows source
source_held grid (node.Top info most column input) rows source = source_held grid input rows source
source_held grid (node.Join info left right) rows source = tt
source_held grid (node.Union info left right) rows source = tt

pub source_behind : (grid : Grid) (tree : NodeTree) (rows : List Row) (row : Row) → IsSource (rows ++ row ∷ [])
    → IsSource (held_rows grid tree rows ++ row ∷ [])
source_behind grid (node.Fetch info schema metric) rows row source = (tt, tt)
source_behind grid (node.Filter info by input) rows row source = source_behind grid input rows row source
source_behind grid (node.Align info by input) rows row source =
    needed_behind (is_met input) (is_before by input) (reach_start grid by) rows row source
source_behind grid (node.GroupBy info by with input) rows row source = source_behind grid input rows row source
source_behind grid (node.Value info items input) rows row source = source_behind grid input rows row source
source_behind grid (node.Top info most column input) rows row source = source_behind grid input rows row source
source_behind grid (node.Join info left right) rows row source = (tt, tt)
source_behind grid (node.Union info left right) rows row source = (tt, tt)

pub typed_with : (typed : TypedTree) (rows others : List Row) (of : IsTyped typed rows)
    → AllByRecursion (λ row. fits of.held row ≡ true) others → IsTyped typed others
typed_with typed rows others of fit = record {
  held = of.held;
  query = of.query;
  metrics = of.metrics;
  spelled = of.spelled;
  durations = of.durations;
  is = of.is;
  fit = fit;
}

pub typed_held : (typed : TypedTree) (moment : ℤ) (rows : List Row) → IsTyped typed rows
    → IsTyped typed (held_of typed moment rows)
typed_held typed moment rows of =
    typed_with typed rows (held_of typed moment rows) of
    (all_held (grid_of typed moment) (λ row. fits of.held row ≡ true) typed.tree rows of.fit)

-- ---- how what is held goes on

before_met : (by : Aligner) (input : NodeTree) (row : Row) → is_before by input row ≡ true → is_met input row ≡ true
before_met by input row e =
    let flow = and_parts (looks_before by) (is_met input row && row_flows input row) e in
    (and_parts (is_met input row) (row_flows input row) flow.1).0

pub held_again : (typed : TypedTree) (moment later : ℤ) → moment ≤ℤ later → (tree : NodeTree) (rows : List Row)
    → held_rows (grid_of typed later) tree (held_rows (grid_of typed moment) tree rows)
    ≡ held_rows (grid_of typed later) tree rows
held_again typed moment later order (node.Fetch info schema metric) rows = refl
held_again typed moment later order (node.Filter info by input) rows = held_again typed moment later order input rows
held_again typed moment later order (node.Align info by input) rows =
    needed_again (is_met input) (is_before by input) (before_met by input) (reach_start (grid_of typed moment) by)
    (reach_start (grid_of typed later) by) (omega (arith, ints)) rows
held_again typed moment later order (node.GroupBy info by with input) rows =
    held_again typed moment later order input rows
held_again typed moment later order (node.Value info items input) rows =
    held_again typed moment later order input rows
held_again typed moment later order (node.Top info most column input) rows =
    held_again typed moment later order input rows
held_again typed moment later order (node.Join info left right) rows = refl
held_again typed moment later order (node.Union info left right) rows = refl

pub held_more : (grid : Grid) (tree : NodeTree) (rows more : List Row)
    → held_rows grid tree (held_rows grid tree rows ++ more) ≡ held_rows grid tree (rows ++ more)
held_more grid (node.Fetch info schema metric) rows more = refl
held_more grid (node.Filter info by input) rows more = held_more grid input rows more
held_more grid (node.Align info by input) rows more =
    needed_more (is_met input) (is_before by input) (before_met by input) (reach_start grid by) (reach_start grid by)
    (omega (arith, ints)) rows more
held_more grid (node.GroupBy info by with input) rows more = held_more grid input rows more
held_more grid (node.Value info items input) rows more = held_more grid input rows more
held_more grid (node.Top info most column input) rows more = held_more grid input rows more
held_more grid (node.Join info left right) rows more = refl
held_more grid (node.Union info left right) rows more = refl

-- ---- the points of a series

-- what flows into an alignment is of series that meet its fetch
abbrev pub FlowMeets : NodeTree → List Row → Type 0
FlowMeets input rows = AllByRecursion (λ (row : Row). row_flows input row ≡ true → meets input row.key ≡ true) rows

-- the same for the alignment of a tree
abbrev pub TreeFlowMeets : NodeTree → List Row → Type 0
TreeFlowMeets (node.Fetch info schema metric) rows = Unit {0}
TreeFlowMeets (node.Filter info by input) rows = TreeFlowMeets input rows
TreeFlowMeets (node.Align info by input) rows = FlowMeets input rows
TreeFlowMeets (node.GroupBy info by with input) rows = TreeFlowMeets input rows
TreeFlowMeets (node.Value info items input) rows = TreeFlowMeets input rows
TreeFlowMeets (node.Top info most column input) rows = TreeFlowMeets input rows
TreeFlowMeets (node.Join info left right) rows = Unit {0}
TreeFlowMeets (node.Union info left right) rows = Unit {0}

abbrev flows_of : NodeTree → Row → Bool
flows_of input row = is_met input row && row_flows input row

own_alike : (s m f : Bool) → (f ≡ true → m ≡ true) → (s && f) ≡ (s && (m && f))
own_alike true true f so = refl
own_alike true false true so =
    let wrong : false ≡ true = so refl in
    absurd cc
own_alike true false false so = refl
own_alike false m f so = refl

if_alike : {A : Type 0} (b c : Bool) (x : A) (xs ys : List A) → b ≡ c → xs ≡ ys → cond b (x ∷ xs) xs
    ≡ cond c (x ∷ ys) ys
if_alike b c x xs ys e rest = λ i. cond (e i) (x ∷ rest i) (rest i)

own_rows_alike : (input : NodeTree) (key : SeriesKey) (rows : List Row) → FlowMeets input rows
    → filter (λ (row : Row). same_series key row.key && row_flows input row) rows
    ≡ filter (λ (row : Row). same_series key row.key && flows_of input row) rows
own_rows_alike input key [] all = refl
own_rows_alike input key (row ∷ rows) all =
    if_alike (same_series key row.key && row_flows input row) (same_series key row.key && flows_of input row) row
    (filter (λ (r : Row). same_series key r.key && row_flows input r) rows)
    (filter (λ (r : Row). same_series key r.key && flows_of input r) rows)
    (own_alike (same_series key row.key) (is_met input row) (row_flows input row) all.0)
    (own_rows_alike input key rows all.1)

flowing_own : (input : NodeTree) (key : SeriesKey) (rows : List Row) → FlowMeets input rows
    → points_flowing input (key, points_of key rows) ≡ points_own (flows_of input) key rows
flowing_own input key rows all =
    sym (points_of-flowing input key rows)
    ∙ ap (map (λ (row : Row). row.point)) (filter_twice (row_flows input) (λ (row : Row). same_series key row.key) rows
    ∙ own_rows_alike input key rows all)

-- ---- rows as those of a longer list that pass a mark

module _ (met before : Row → Bool) (start : ℤ) where
  abbrev Marked : Type 0
  Marked = Bool × Row

  abbrev marked : List Row → List Marked
  marked [] = []
  marked (row ∷ rows) = (is_needed met before start row rows, row) ∷ marked rows

  abbrev row_in : Marked → Row
  row_in one = one.1

  abbrev key_in : Marked → SeriesKey
  key_in one = one.1.key

  abbrev is_marked : Marked → Bool
  is_marked one = one.0

  all_rows : (rows : List Row) → map row_in (marked rows) ≡ rows
  all_rows [] = refl
  all_rows (row ∷ rows) = ap (λ rest. row ∷ rest) (all_rows rows)

  marked_if : (b : Bool) (row : Row) (some : List Marked) (rows : List Row) → map row_in some ≡ rows
      → map row_in (cond b ((b, row) ∷ some) some) ≡ cond b (row ∷ rows) rows
  marked_if true row some rows e = ap (λ rest. row ∷ rest) e
  marked_if false row some rows e = e

  marked_rows : (rows : List Row) → map row_in (filter is_marked (marked rows)) ≡ needed_rows met before start rows
  marked_rows [] = refl
  marked_rows (row ∷ rows) =
      marked_if (is_needed met before start row rows) row (filter is_marked (marked rows))
      (needed_rows met before start rows) (marked_rows rows)

  keys_marked : (some : List Marked) → keys_of same_series key_in some ≡ series_of (map row_in some)
  keys_marked [] = refl
  keys_marked (one ∷ some) =
      ap (λ keys. one.1.key ∷ filter (λ key. not (same_series one.1.key key)) keys) (keys_marked some)

  with_if : (key : SeriesKey) (b : Bool) (one : Marked) (some : List Marked) (rows : List Row) → map row_in some ≡ rows
      → map row_in (cond b (one ∷ some) some) ≡ cond b (one.1 ∷ rows) rows
  with_if key true one some rows e = ap (λ rest. one.1 ∷ rest) e
  with_if key false one some rows e = e

  rows_marked : (key : SeriesKey) (some : List Marked)
      → map row_in (items_with same_series key_in key some) ≡ rows_of key (map row_in some)
  rows_marked key [] = refl
  rows_marked key (one ∷ some) =
      with_if key (same_series key one.1.key) one (items_with same_series key_in key some)
      (rows_of key (map row_in some)) (rows_marked key some)

  -- what keys that have no row that matters come to nothing in is the same over the rows that matter
  pub over_needed : {B : Type 0} (h : SeriesKey → List B) (rows : List Row)
      → ((key : SeriesKey) → rows_of key (needed_rows met before start rows) ≡ [] → h key ≡ [])
      → IsPermutation (flat_map h (series_of (needed_rows met before start rows))) (flat_map h (series_of rows))
  over_needed h rows none =
      let some = marked rows in
      let left : keys_of same_series key_in (filter is_marked some) ≡ series_of (needed_rows met before start rows) =
      keys_marked (filter is_marked some) ∙ ap series_of (marked_rows rows) in
      let right : keys_of same_series key_in some ≡ series_of rows = keys_marked some ∙ ap series_of (all_rows rows) in
      subst (λ keys. IsPermutation (flat_map h keys) (flat_map h (series_of rows))) left
      (subst (λ keys. IsPermutation (flat_map h (keys_of same_series key_in (filter is_marked some))) (flat_map h keys))
      right
      (orders.flat_map-passing same_series same_series-Decides key_in h is_marked some
      (λ key e. none key (ap (rows_of key) (sym (marked_rows rows)) ∙ sym (rows_marked key (filter is_marked some))
      ∙ ap (map row_in) e))))

-- ---- alignments

module _ (typed : TypedTree) (moment later : ℤ) (lawful : IsLawfulGrid (grid_of typed later)) (order : moment ≤ℤ later)
  where
    abbrev now : Grid
    now = grid_of typed moment

    abbrev then : Grid
    then = grid_of typed later

    module _ (by : Aligner) (input : NodeTree) (rows : List Row) (source : IsSource rows) (flow : FlowMeets input rows)
      where
        abbrev start : ℤ
        start = reach_start now by

        abbrev needed : List Row
        needed = needed_rows (is_met input) (is_before by input) start rows

        flows_of_met : (row : Row) → flows_of input row ≡ true → is_met input row ≡ true
        flows_of_met row e = (and_parts (is_met input row) (row_flows input row) e).0

        values_held : (key : SeriesKey)
            → aligned_values by then (points_own (flows_of input) key needed)
            ≡ aligned_values by then (points_own (flows_of input) key rows)
        values_held key =
            values_alike by (points_own (flows_of input) key needed) (points_own (flows_of input) key rows) (IsWithin then)
            (λ time within.
            let after = within.0 in
            value_needed (is_met input) (flows_of input) flows_of_met start key rows source time by (looks_before by)
            (λ seconds e. ap looks_before e) (λ seconds e. ap looks_before e) (λ seconds e. ap looks_before e)
            (omega (arith, ints)))
            (grid_times then) (times_within then lawful)

        abbrev made : List Row → SeriesKey → List TimedRow
        made some key = series_rows then by input (key, points_of key some)

        made_alike : (key : SeriesKey) → made needed key ≡ made rows key
        made_alike key =
            ap (λ points. map (row_of key) (aligned_values by then points))
            (flowing_own input key needed (all_needed (is_met input) (is_before by input) start _ rows flow))
            ∙ ap (map (row_of key)) (values_held key)
            ∙ ap (λ points. map (row_of key) (aligned_values by then points)) (sym (flowing_own input key rows flow))

        none_made : (key : SeriesKey) → rows_of key needed ≡ [] → made rows key ≡ []
        none_made key e =
            sym (made_alike key)
            ∙ ap (map (row_of key)) (no_values by then (points_flowing input (key, points_of key needed))
            (ap (λ (own : List Row). points_flowing input (key, map (λ (row : Row). row.point) own)) e))

        flat_alike : (keys : List SeriesKey) → flat_map (made needed) keys ≡ flat_map (made rows) keys
        flat_alike [] = refl
        flat_alike (key ∷ keys) =
            let rest = flat_alike keys in
            λ i. made_alike key i ++ rest i

        by_keys : (some : List Row)
            → flat_map (series_rows then by input) (points_by_series some) ≡ flat_map (made some) (series_of some)
        by_keys some = flat_map-map (series_rows then by input) (λ key. (key, points_of key some)) (series_of some)

        pub aligned_held : IsPermutation (aligned_rows by then (points_meant input needed))
            (aligned_rows by then (points_meant input rows))
        aligned_held =
            let over = over_needed (is_met input) (is_before by input) start (made rows) rows none_made in
            let left : flat_map (series_rows then by input) (points_by_series needed)
            ≡ flat_map (made rows) (series_of needed) = by_keys needed ∙ flat_alike (series_of needed) in
            let middle : IsPermutation (flat_map (series_rows then by input) (points_by_series needed))
            (flat_map (series_rows then by input) (points_by_series rows)) =
            rw (left, by_keys rows) over in
            IsPermutation-trans _ _ _ (aligned_rows-permutation then by input needed)
            (IsPermutation-trans _ _ _ middle
            (IsPermutation-sym _ _ (aligned_rows-permutation then by input rows)))

        late_met : (row : Row) → (is_reached then by row && meets input row.key) ≡ true
            → (is_met input row && int_lt start row.point.end) ≡ true
        late_met row e =
            let parts = and_parts (is_reached then by row) (meets input row.key) e in
            let reach = and_parts (int_lt (least_time then -ℤ seconds_of by) row.point.end)
            (int_le row.point.end then.moment) parts.0 in
            let after = reach.0 in
            let late : int_lt start row.point.end ≡ true = grind (arith, ints) in
            and_from (is_met input row) (int_lt start row.point.end) parts.1 late

        pub reached_held : points_reached then by input needed ≡ points_reached then by input rows
        reached_held =
            let wide : Row → Bool = λ row. is_met input row && int_lt start row.point.end in
            let narrow : Row → Bool = λ row. is_reached then by row && meets input row.key in
            sym (filter_narrow wide narrow late_met needed)
            ∙ ap (filter narrow) (needed_reached (is_met input) (is_before by input) (before_met by input) start rows)
            ∙ filter_narrow wide narrow late_met rows

    -- ---- trees

    pub rows_held : (tree : NodeTree) → is_one_path tree ≡ true → (rows : List Row) → IsSource rows
        → TreeFlowMeets tree rows
        → IsPermutation (rows_meant then tree (held_rows now tree rows)) (rows_meant then tree rows)
    rows_held (node.Fetch info schema metric) path rows source flow = IsPermutation-refl []
    rows_held (node.Filter info by input) path rows source flow =
        filter-permutation (λ (row : TimedRow). predicate_truth by info.columns row.cells) _ _
        (rows_held input path rows source flow)
    rows_held (node.Align info by input) path rows source flow = aligned_held by input rows source flow
    rows_held (node.GroupBy info by with input) path rows source flow =
        group_rows-permutation by with _ _ (rows_held input path rows source flow)
    rows_held (node.Value info items input) path rows source flow =
        filter_map-permutation (value_row (columns_of input) items) _ _ (rows_held input path rows source flow)
    rows_held (node.Top info most column input) path rows source flow =
        top_rows-permutation most column _ _ (rows_held input path rows source flow)
    rows_held (node.Join info left right) path rows source flow = absurd (false≢true path)
    rows_held (node.Union info left right) path rows source flow = absurd (false≢true path)

    pub loads_held : (tree : NodeTree) → is_one_path tree ≡ true → (rows : List Row) → IsSource rows
        → TreeFlowMeets tree rows
        → load_of then tree (held_rows now tree rows) ≡ load_of then tree rows
    loads_held (node.Fetch info schema metric) path rows source flow = refl
    loads_held (node.Filter info by input) path rows source flow = loads_held input path rows source flow
    loads_held (node.Align info by input) path rows source flow =
        let reached = ap length (reached_held by input rows source flow) in
        let made = length_permutation _ _ (aligned_held by input rows source flow) in
        omega (arith, reached, made)
    loads_held (node.GroupBy info by with input) path rows source flow = loads_held input path rows source flow
    loads_held (node.Value info items input) path rows source flow = loads_held input path rows source flow
    loads_held (node.Top info most column input) path rows source flow = loads_held input path rows source flow
    loads_held (node.Join info left right) path rows source flow = absurd (false≢true path)
    loads_held (node.Union info left right) path rows source flow = absurd (false≢true path)
