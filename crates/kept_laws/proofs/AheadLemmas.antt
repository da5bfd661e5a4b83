-- Rows that end after a moment change nothing at it.
use Rattle.std.proofs.Common.{◌≡◌, ◌∙◌, ◌+◌, ℤ, Bool, true, false, ◌&&◌, cond, List, [], ◌∷◌, ◌++◌, map, length, append-nil}
use Rattle.std.proofs.Common.{refl, sym, ap, subst, arith}
use Rattle.std.specs.Prelude.{IsPermutation, int_le, int_lt}
use Rattle.std.specs.List.{filter, flat_map}
use Rattle.std.proofs.lemmas.Bool.{and_parts, false≢true}
use Rattle.std.proofs.lemmas.Int.{ints}
use Rattle.std.proofs.lemmas.List.Elements.{filter-append, filter_agree}
use Rattle.std.proofs.lemmas.List.Folds.{flat_map-map}
use Rattle.std.proofs.lemmas.List.Sorted.{IsPermutation-refl, IsPermutation-sym, IsPermutation-trans, length_permutation}
use Rattle.mon_value.specs.Grids.{EndsRise, IsDuration, IsLawfulGrid, aligned_values, ended_by, seconds_of}
use Rattle.mon_value.specs.LeafHistories.{key_of_row, points_by_series, points_of, rows_of, series_of}
use Rattle.mon_value.specs.Order.{row_of}
use Rattle.mon_value.specs.Same.{same_series}
use Rattle.mon_value.specs.declared.aligners.Aligner.{Aligner}
use Rattle.mon_value.specs.declared.grids.Grid.{Grid}
use Rattle.mon_value.specs.declared.rows.Point.{Point}
use Rattle.mon_value.specs.declared.rows.Row.{Row}
use Rattle.mon_value.specs.declared.rows.SeriesKey.{SeriesKey}
use Rattle.mon_value.specs.declared.tables.TimedRow.{TimedRow}
use Rattle.mon_value.proofs.PermutationLemmas.{filter-permutation}
use Rattle.mon_value.proofs.PlainLemmas.{and_implied}
use Rattle.mon_value.proofs.SameLemmas.{same_series-Decides}
use Rattle.mql_ast.specs.Rows.{predicate_truth}
use Rattle.typed_trees.specs.Meaning.{aligned_rows, is_in_reach, is_reached, load_of, meets, points_meant}
use Rattle.typed_trees.specs.Meaning.{points_reached, rows_meant, value_row}
use Rattle.typed_trees.specs.Nodes as node
use Rattle.typed_trees.specs.Nodes.{NodeTree, columns_of}
use Rattle.typed_trees.specs.Soundness.{IsEvaluable}
use Rattle.mon_meaning.specs.Incremental.{is_one_path}
use Rattle.mon_meaning.specs.within.Reach.{earlier_wanted, points_wanted, points_within_reach, reach_start}
use Rattle.mon_meaning.specs.within.SeriesMeaning.{points_flowing, series_rows}
use Rattle.mon_meaning.proofs.FilterLemmas.{filter_map-permutation, filter_swap, filter_twice}
use Rattle.mon_meaning.proofs.KeyOrders as orders
use Rattle.mon_meaning.proofs.OperationOrders.{group_rows-permutation, top_rows-permutation}
use Rattle.mon_meaning.proofs.ReachLemmas.{aligned-wanted}
use Rattle.mon_meaning.proofs.SeriesOrders.{aligned_rows-permutation, no_values}
use Rattle.mon_meaning.proofs.WantedLemmas.{reach_order}
use Rattle.mon_meaning.proofs.WindowLemmas.{EndsRise-filter}

-- ---- points of rows that pass a test of their points

module _ (test : Point → Bool) where
  abbrev passes : Row → Bool
  passes row = test row.point

  map_if : (b : Bool) (row : Row) (rows : List Row) (points : List Point) → map (λ (r : Row). r.point) rows ≡ points
      → map (λ (r : Row). r.point) (cond b (row ∷ rows) rows) ≡ cond b (row.point ∷ points) points
  map_if true row rows points e = ap (λ rest. row.point ∷ rest) e
  map_if false row rows points e = e

  points_passing : (rows : List Row)
      → map (λ (r : Row). r.point) (filter passes rows) ≡ filter test (map (λ (r : Row). r.point) rows)
  points_passing [] = refl
  points_passing (row ∷ rows) =
      map_if (test row.point) row (filter passes rows) (filter test (map (λ (r : Row). r.point) rows))
      (points_passing rows)

  passing_of : (key : SeriesKey) (rows : List Row) → points_of key (filter passes rows) ≡ filter test (points_of key rows)
  passing_of key rows =
      ap (map (λ (r : Row). r.point)) (filter_swap (λ (row : Row). same_series key row.key) passes rows)
      ∙ points_passing (rows_of key rows)

-- a test that implies another one
narrow : {A : Type 0} (wide few : A → Bool) → ((x : A) → few x ≡ true → wide x ≡ true) → (xs : List A)
    → filter few (filter wide xs) ≡ filter few xs
narrow wide few so xs =
    filter_twice wide few xs ∙ filter_agree (λ x. few x && wide x) few (λ x. and_implied (few x) (wide x) (so x)) xs

-- the ends of each series rise
abbrev pub AllRise : List Row → Type 0
AllRise rows = (key : SeriesKey) → EndsRise (points_of key rows)

-- ---- alignments

module _ (grid : Grid) (lawful : IsLawfulGrid grid) where
  abbrev ended : Point → Bool
  ended point = int_le point.end grid.moment

  abbrev row_ended : Row → Bool
  row_ended row = ended row.point

  module _ (by : Aligner) (input : NodeTree) (duration : IsDuration (seconds_of by)) where
    wanted_same : (points : List Point) → points_wanted grid by (filter ended points) ≡ points_wanted grid by points
    wanted_same points =
        let order = reach_order grid by lawful duration in
        let early : ended_by (reach_start grid by) (filter ended points) ≡ ended_by (reach_start grid by) points =
        narrow ended (λ (point : Point). int_le point.end (reach_start grid by))
        (λ point e. grind (arith, ints)) points in
        let reached : points_within_reach grid by (filter ended points) ≡ points_within_reach grid by points =
        narrow ended (is_in_reach grid by) (λ point e. (and_parts (int_lt (reach_start grid by) point.end)
        (int_le point.end grid.moment) e).1) points in
        λ i. earlier_wanted by (early i) ++ reached i

    values_same : (points : List Point) → EndsRise points
        → aligned_values by grid (filter ended points) ≡ aligned_values by grid points
    values_same points rise =
        sym (aligned-wanted grid by (filter ended points) lawful duration (EndsRise-filter ended points rise))
        ∙ ap (aligned_values by grid) (wanted_same points)
        ∙ aligned-wanted grid by points lawful duration rise

    module _ (rows : List Row) (rise : AllRise rows) where
      abbrev made : List Row → SeriesKey → List TimedRow
      made some key = series_rows grid by input (key, points_of key some)

      flowing_ended : (key : SeriesKey)
          → points_flowing input (key, points_of key (filter row_ended rows))
          ≡ filter ended (points_flowing input (key, points_of key rows))
      flowing_ended key =
          ap (λ (points : List Point). points_flowing input (key, points)) (passing_of ended key rows)
          ∙ filter_swap _ ended (points_of key rows)

      made_same : (key : SeriesKey) → made (filter row_ended rows) key ≡ made rows key
      made_same key =
          ap (λ (points : List Point). map (row_of key) (aligned_values by grid points)) (flowing_ended key)
          ∙ ap (map (row_of key)) (values_same (points_flowing input (key, points_of key rows))
          (EndsRise-filter _ (points_of key rows) (rise key)))

      none_made : (key : SeriesKey) → rows_of key (filter row_ended rows) ≡ [] → made rows key ≡ []
      none_made key e =
          sym (made_same key)
          ∙ ap (map (row_of key)) (no_values by grid (points_flowing input (key, points_of key (filter row_ended rows)))
          (ap (λ (own : List Row). points_flowing input (key, map (λ (row : Row). row.point) own)) e))

      flat_same : (keys : List SeriesKey) → flat_map (made (filter row_ended rows)) keys ≡ flat_map (made rows) keys
      flat_same [] = refl
      flat_same (key ∷ keys) =
          let rest = flat_same keys in
          λ i. made_same key i ++ rest i

      by_keys : (some : List Row)
          → flat_map (series_rows grid by input) (points_by_series some) ≡ flat_map (made some) (series_of some)
      by_keys some = flat_map-map (series_rows grid by input) (λ key. (key, points_of key some)) (series_of some)

      aligned_ended : IsPermutation (aligned_rows by grid (points_meant input (filter row_ended rows)))
          (aligned_rows by grid (points_meant input rows))
      aligned_ended =
          let over = orders.flat_map-passing same_series same_series-Decides key_of_row (made rows) row_ended rows none_made in
          let left : flat_map (series_rows grid by input) (points_by_series (filter row_ended rows))
          ≡ flat_map (made rows) (series_of (filter row_ended rows)) =
          by_keys (filter row_ended rows) ∙ flat_same (series_of (filter row_ended rows)) in
          let middle : IsPermutation (flat_map (series_rows grid by input) (points_by_series (filter row_ended rows)))
          (flat_map (series_rows grid by input) (points_by_series rows)) =
          rw (left, by_keys rows) over in
          IsPermutation-trans _ _ _ (aligned_rows-permutation grid by input (filter row_ended rows))
          (IsPermutation-trans _ _ _ middle
          (IsPermutation-sym _ _ (aligned_rows-permutation grid by input rows)))

  -- ---- trees

  rows_ended : (tree : NodeTree) → is_one_path tree ≡ true → (some : List Row) → IsEvaluable grid tree some
      → (rows : List Row) → AllRise rows
      → IsPermutation (rows_meant grid tree (filter row_ended rows)) (rows_meant grid tree rows)
  rows_ended (node.Fetch info schema metric) path some can rows rise = IsPermutation-refl []
  rows_ended (node.Filter info by input) path some can rows rise =
      filter-permutation (λ (row : TimedRow). predicate_truth by info.columns row.cells) _ _
      (rows_ended input path some can rows rise)
  rows_ended (node.Align info by input) path some can rows rise = aligned_ended by input can.0 rows rise
  rows_ended (node.GroupBy info by with input) path some can rows rise =
      group_rows-permutation by with _ _ (rows_ended input path some can.1 rows rise)
  rows_ended (node.Value info items input) path some can rows rise =
      filter_map-permutation (value_row (columns_of input) items) _ _ (rows_ended input path some can.1.1 rows rise)
  rows_ended (node.Top info most column input) path some can rows rise =
      top_rows-permutation most column _ _ (rows_ended input path some can rows rise)
  rows_ended (node.Join info left right) path some can rows rise = absurd (false≢true path)
  rows_ended (node.Union info left right) path some can rows rise = absurd (false≢true path)

  -- ---- a row more

  module _ (held : List Row) (row : Row) (after : row_ended row ≡ false) (rise : AllRise held)
      (behind : AllRise (held ++ row ∷ [])) where
    more_ended : filter row_ended (held ++ row ∷ []) ≡ filter row_ended held
    more_ended =
        filter-append row_ended held (row ∷ [])
        ∙ ap (λ b. filter row_ended held ++ cond b (row ∷ []) []) after
        ∙ append-nil (filter row_ended held)

    pub rows_ahead : (tree : NodeTree) → is_one_path tree ≡ true → (some : List Row) → IsEvaluable grid tree some
        → IsPermutation (rows_meant grid tree (held ++ row ∷ [])) (rows_meant grid tree held)
    rows_ahead tree path some can =
        IsPermutation-trans _ _ _
        (IsPermutation-sym _ _ (rows_ended tree path some can (held ++ row ∷ []) behind))
        (subst (λ (front : List Row). IsPermutation (rows_meant grid tree front) (rows_meant grid tree held))
        (sym more_ended) (rows_ended tree path some can held rise))

    unreached_if : (a b m : Bool) → b ≡ false → ((a && b) && m) ≡ false
    unreached_if true b m e = ap (λ c. c && m) e
    unreached_if false b m e = refl

    reached_ahead : (by : Aligner) (input : NodeTree)
        → points_reached grid by input (held ++ row ∷ []) ≡ points_reached grid by input held
    reached_ahead by input =
        let test : Row → Bool = λ r. is_reached grid by r && meets input r.key in
        filter-append test held (row ∷ [])
        ∙ ap (λ b. filter test held ++ cond b (row ∷ []) [])
        (unreached_if (int_lt (reach_start grid by) row.point.end) (row_ended row) (meets input row.key) after)
        ∙ append-nil (filter test held)

    pub load_ahead : (tree : NodeTree) → is_one_path tree ≡ true → (some : List Row) → IsEvaluable grid tree some
        → load_of grid tree (held ++ row ∷ []) ≡ load_of grid tree held
    load_ahead (node.Fetch info schema metric) path some can = refl
    load_ahead (node.Filter info by input) path some can = load_ahead input path some can
    load_ahead (node.Align info by input) path some can =
        let reached = ap length (reached_ahead by input) in
        let made = length_permutation _ _ (rows_ahead (node.Align info by input) path some can) in
        omega (arith, reached, made)
    load_ahead (node.GroupBy info by with input) path some can = load_ahead input path some can.1
    load_ahead (node.Value info items input) path some can = load_ahead input path some can.1.1
    load_ahead (node.Top info most column input) path some can = load_ahead input path some can
    load_ahead (node.Join info left right) path some can = absurd (false≢true path)
    load_ahead (node.Union info left right) path some can = absurd (false≢true path)
