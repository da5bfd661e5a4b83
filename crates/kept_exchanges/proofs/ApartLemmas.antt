-- Rows by whether a test of their series holds: an alignment has the rows of both.
use Rattle.std.proofs.Common.{◌≡◌, ◌∙◌, ◌+◌, ◌&&◌, Bool, true, false, cond, not, List, [], ◌∷◌, ◌++◌, map, length, refl, sym, ap, subst}
use Rattle.std.proofs.Common.{length-append, arith}
use Rattle.std.specs.Prelude.{IsPermutation}
use Rattle.std.specs.List.{filter, flat_map}
use Rattle.std.proofs.lemmas.List.Concat.{flat_map-append}
use Rattle.std.proofs.lemmas.List.Elements.{filter-append, filter_agree}
use Rattle.std.proofs.lemmas.List.Folds.{flat_map-map}
use Rattle.std.proofs.lemmas.List.Sorted.{IsPermutation-append, IsPermutation-filter_both, IsPermutation-sym}
use Rattle.std.proofs.lemmas.List.Sorted.{IsPermutation-trans, length_permutation}
use Rattle.mon_value.specs.LeafHistories.{points_by_series, points_of, rows_of, series_of}
use Rattle.mon_value.specs.Same.{same_series}
use Rattle.mon_value.specs.declared.aligners.Aligner.{Aligner}
use Rattle.mon_value.specs.declared.grids.Grid.{Grid}
use Rattle.mon_value.specs.declared.rows.Row.{Row}
use Rattle.mon_value.specs.declared.rows.SeriesKey.{SeriesKey}
use Rattle.mon_value.specs.declared.tables.TimedRow.{TimedRow}
use Rattle.mon_value.proofs.PermutationLemmas.{filter-permutation, flat_map-permutation}
use Rattle.mon_value.proofs.PlainLemmas.{and_implied, not_both}
use Rattle.mon_value.proofs.SameLemmas.{same_series-Decides}
use Rattle.typed_trees.specs.Meaning.{aligned_rows, is_reached, load_of, meets, points_meant, points_reached, rows_meant}
use Rattle.typed_trees.specs.Nodes as node
use Rattle.typed_trees.specs.Nodes.{NodeTree}
use Rattle.typed_trees.specs.declared.nodes.NodeInfo.{NodeInfo}
use Rattle.mon_meaning.specs.within.SeriesMeaning.{series_rows}
use Rattle.mon_meaning.proofs.FilterLemmas.{filter_swap, filter_twice}
use Rattle.mon_meaning.proofs.SeriesOrders.{aligned_rows-permutation}
use Rattle.kept_exchanges.specs.Apart.{other_rows}

-- a test that implies another one
narrow : {A : Type 0} (wide few : A → Bool) → ((x : A) → few x ≡ true → wide x ≡ true) → (xs : List A)
    → filter few (filter wide xs) ≡ filter few xs
narrow wide few so xs =
    filter_twice wide few xs ∙ filter_agree (λ x. few x && wide x) few (λ x. and_implied (few x) (wide x) (so x)) xs

flat_if : {A B : Type 0} (h g : A → List B) (b : Bool) (x : A) (xs : List A) → (b ≡ true → h x ≡ g x)
    → flat_map h xs ≡ flat_map g xs → flat_map h (cond b (x ∷ xs) xs) ≡ flat_map g (cond b (x ∷ xs) xs)
flat_if h g true x xs here rest =
    let first : h x ≡ g x = here refl in
    λ i. first i ++ rest i
flat_if h g false x xs here rest = rest

flat_passing : {A B : Type 0} (h g : A → List B) (test : A → Bool) → ((x : A) → test x ≡ true → h x ≡ g x)
    → (xs : List A) → flat_map h (filter test xs) ≡ flat_map g (filter test xs)
flat_passing h g test so [] = refl
flat_passing h g test so (x ∷ xs) = flat_if h g (test x) x (filter test xs) (so x) (flat_passing h g test so xs)

module _ (test : SeriesKey → Bool) where
  abbrev passes : Row → Bool
  passes row = test row.key

  abbrev others : SeriesKey → List SeriesKey → List SeriesKey
  others key keys = filter (λ other. not (same_series key other)) keys

  apart_by : (own key : SeriesKey) (b : Bool) → same_series own key ≡ b → test own ≡ false → test key ≡ true
      → not b ≡ true
  apart_by own key true e fails holds =
      let alike : own ≡ key = (same_series-Decides own key).0 e in
      absurd (not_both (test own) fails (ap test alike ∙ holds))
  apart_by own key false e fails holds = refl

  keys_if : (row : Row) (rows : List Row) (b : Bool) → test row.key ≡ b
      → series_of (filter passes rows) ≡ filter test (series_of rows)
      → series_of (cond b (row ∷ filter passes rows) (filter passes rows))
      ≡ cond b (row.key ∷ filter test (others row.key (series_of rows))) (filter test (others row.key (series_of rows)))
  keys_if row rows true e rest =
      ap (λ keys. row.key ∷ others row.key keys) rest
      ∙ ap (λ keys. row.key ∷ keys) (filter_swap (λ other. not (same_series row.key other)) test (series_of rows))
  keys_if row rows false e rest =
      rest
      ∙ sym (narrow (λ other. not (same_series row.key other)) test
      (λ key holds. apart_by row.key key (same_series row.key key) refl e holds) (series_of rows))

  keys_passing : (rows : List Row) → series_of (filter passes rows) ≡ filter test (series_of rows)
  keys_passing [] = refl
  keys_passing (row ∷ rows) = keys_if row rows (test row.key) refl (keys_passing rows)

  own_passes : (key : SeriesKey) → test key ≡ true → (row : Row) → same_series key row.key ≡ true
      → test row.key ≡ true
  own_passes key holds row e = ap test (sym ((same_series-Decides key row.key).0 e)) ∙ holds

  rows_passing : (key : SeriesKey) → test key ≡ true → (rows : List Row)
      → rows_of key (filter passes rows) ≡ rows_of key rows
  rows_passing key holds rows =
      narrow passes (λ (row : Row). same_series key row.key) (own_passes key holds) rows

  module _ (grid : Grid) (by : Aligner) (input : NodeTree) where
    abbrev made : List Row → SeriesKey → List TimedRow
    made some key = series_rows grid by input (key, points_of key some)

    by_keys : (some : List Row)
        → flat_map (series_rows grid by input) (points_by_series some) ≡ flat_map (made some) (series_of some)
    by_keys some = flat_map-map (series_rows grid by input) (λ key. (key, points_of key some)) (series_of some)

    made_passing : (rows : List Row) (key : SeriesKey) → test key ≡ true → made rows key ≡ made (filter passes rows) key
    made_passing rows key holds =
        ap (λ (own : List Row). series_rows grid by input (key, map (λ (row : Row). row.point) own))
        (sym (rows_passing key holds rows))

    -- the rows of the series that pass are those of an alignment of their rows alone
    pub passing_rows : (rows : List Row)
        → flat_map (made rows) (filter test (series_of rows))
        ≡ flat_map (series_rows grid by input) (points_by_series (filter passes rows))
    passing_rows rows =
        flat_passing (made rows) (made (filter passes rows)) test (made_passing rows) (series_of rows)
        ∙ ap (flat_map (made (filter passes rows))) (sym (keys_passing rows))
        ∙ sym (by_keys (filter passes rows))

module _ (key : SeriesKey) where
  abbrev own : SeriesKey → Bool
  own other = same_series key other

  abbrev another : SeriesKey → Bool
  another other = not (same_series key other)

  module _ (grid : Grid) (by : Aligner) (input : NodeTree) (rows : List Row) where
    abbrev whole : List Row → List TimedRow
    whole some = aligned_rows by grid (points_meant input some)

    abbrev by_series : List Row → List TimedRow
    by_series some = flat_map (series_rows grid by input) (points_by_series some)

    abbrev of_key : SeriesKey → List TimedRow
    of_key other = series_rows grid by input (other, points_of other rows)

    keys_apart : IsPermutation (series_of rows) (filter own (series_of rows) ++ filter another (series_of rows))
    keys_apart = IsPermutation-filter_both own another (λ other. refl) (series_of rows)

    both : flat_map of_key (filter own (series_of rows) ++ filter another (series_of rows))
        ≡ by_series (rows_of key rows) ++ by_series (other_rows key rows)
    both =
        let first = passing_rows own grid by input rows in
        let second = passing_rows another grid by input rows in
        flat_map-append of_key (filter own (series_of rows)) (filter another (series_of rows))
        ∙ (λ i. first i ++ second i)

    series_apart : IsPermutation (by_series rows) (by_series (rows_of key rows) ++ by_series (other_rows key rows))
    series_apart =
        let over = flat_map-permutation of_key (series_of rows) (filter own (series_of rows) ++ filter another (series_of rows))
        keys_apart in
        subst (λ made. IsPermutation (by_series rows) made) both
        (subst (λ made. IsPermutation made (flat_map of_key (filter own (series_of rows) ++ filter another
        (series_of rows)))) (sym (by_keys own grid by input rows)) over)

    pub rows_apart : IsPermutation (whole rows) (whole (rows_of key rows) ++ whole (other_rows key rows))
    rows_apart =
        IsPermutation-trans _ _ _ (aligned_rows-permutation grid by input rows)
        (IsPermutation-trans _ _ _ series_apart
        (IsPermutation-append _ _ _ _
        (IsPermutation-sym _ _ (aligned_rows-permutation grid by input (rows_of key rows)))
        (IsPermutation-sym _ _ (aligned_rows-permutation grid by input (other_rows key rows)))))

    abbrev reached : Row → Bool
    reached row = is_reached grid by row && meets input row.key

    split : IsPermutation rows (rows_of key rows ++ other_rows key rows)
    split =
        IsPermutation-filter_both (λ (row : Row). same_series key row.key) (λ (row : Row). not (same_series key row.key))
        (λ row. refl) rows

    reach_apart : length (points_reached grid by input rows)
        ≡ length (points_reached grid by input (rows_of key rows))
        + length (points_reached grid by input (other_rows key rows))
    reach_apart =
        let same = length_permutation _ _ (filter-permutation reached rows (rows_of key rows ++ other_rows key rows) split) in
        sym same
        ∙ ap length (filter-append reached (rows_of key rows) (other_rows key rows))
        ∙ length-append (filter reached (rows_of key rows)) (filter reached (other_rows key rows))

    pub load_apart : (info : NodeInfo)
        → load_of grid (node.Align info by input) rows
        ≡ load_of grid (node.Align info by input) (rows_of key rows)
        + load_of grid (node.Align info by input) (other_rows key rows)
    load_apart info =
        let made = length_permutation _ _ rows_apart in
        let parts = length-append (whole (rows_of key rows)) (whole (other_rows key rows)) in
        omega (arith, reach_apart, made, parts)
