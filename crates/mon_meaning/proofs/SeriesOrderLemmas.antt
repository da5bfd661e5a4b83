-- Rows that have for each series the same points in order: the same series with their points, in another order.
use Rattle.std.proofs.Common.{◌≡◌, ◌<◌, Bool, true, false, ◌||◌, not, cond, List, [], ◌∷◌, map, length, refl, sym, ap}
use Rattle.std.proofs.Common.{subst, ◌∙◌, arith}
use Rattle.std.specs.Prelude.{IsPermutation}
use Rattle.std.specs.List.{filter}
use Rattle.std.proofs.lemmas.List.Sorted.{IsPermutation-cons, IsPermutation-map, IsPermutation-refl, IsPermutation-sym}
use Rattle.std.proofs.lemmas.List.Sorted.{IsPermutation-trans}
use Rattle.std.proofs.lemmas.Map.Views.{any-filter_same}
use Rattle.mon_value.proofs.KeyedLemmas as keyed
use Rattle.mon_value.proofs.PermutationLemmas.{front_exchanged}
use Rattle.mon_value.proofs.SameLemmas.{same_series-Decides}
use Rattle.mon_value.proofs.SourceLemmas.{has_series}
use Rattle.mon_value.proofs.PlainLemmas.{map_same}
use Rattle.mon_value.specs.Same.{same_series}
use Rattle.mon_value.specs.LeafHistories.{key_of_row, points_by_series, points_of, rows_of, series_of}
use Rattle.mon_value.specs.declared.rows.Point.{Point}
use Rattle.mon_value.specs.declared.rows.Row.{Row}
use Rattle.mon_value.specs.declared.rows.SeriesKey.{SeriesKey}

-- ---- keys that are apart

abbrev AreDistinct : List SeriesKey → Type 0
AreDistinct = keyed.Distinct same_series same_series-Decides key_of_row

-- keys without one of them
abbrev others_of : SeriesKey → List SeriesKey → List SeriesKey
others_of key keys = filter (λ other. not (same_series key other)) keys

past : (key first : SeriesKey) (keys : List SeriesKey) (b : Bool) → same_series key first ≡ b
    → others_of key (first ∷ keys) ≡ cond b (others_of key keys) (first ∷ others_of key keys)
past key first keys b e = ap (λ c. cond (not c) (first ∷ others_of key keys) (others_of key keys)) e ∙ turned b
  where
    turned : (c : Bool) → cond (not c) (first ∷ others_of key keys) (others_of key keys)
        ≡ cond c (others_of key keys) (first ∷ others_of key keys)
    turned true = refl
    turned false = refl

itself : (key : SeriesKey) → same_series key key ≡ true
itself = keyed.same_itself same_series same_series-Decides key_of_row

back : (key other : SeriesKey) → same_series key other ≡ false → same_series other key ≡ false
back = keyed.same_back same_series same_series-Decides key_of_row

has_first : (key first : SeriesKey) (keys : List SeriesKey) (b : Bool) → same_series key first ≡ b
    → has_series key (first ∷ keys) ≡ (b || has_series key keys)
has_first = keyed.has_cons same_series same_series-Decides key_of_row

others_have : (key other : SeriesKey) (keys : List SeriesKey) → same_series other key ≡ false
    → has_series key (others_of other keys) ≡ has_series key keys
others_have = keyed.has-others same_series same_series-Decides key_of_row

others_lack : (key : SeriesKey) (keys : List SeriesKey) → has_series key (others_of key keys) ≡ false
others_lack key keys =
    any-filter_same (same_series key) (λ other. not (same_series key other)) false (λ other e. ap not e) keys

all_others : (key : SeriesKey) (keys : List SeriesKey) → has_series key keys ≡ false → others_of key keys ≡ keys
all_others key [] none = refl
all_others key (first ∷ keys) none =
    let parts = keyed.or_false same_series same_series-Decides key_of_row (same_series key first) (has_series key keys)
    none in
    past key first keys false parts.0 ∙ ap (λ rest. first ∷ rest) (all_others key keys parts.1)

lack_by : (key other : SeriesKey) (keys : List SeriesKey) (b : Bool) → same_series other key ≡ b
    → has_series key keys ≡ false → has_series key (others_of other keys) ≡ false
lack_by key other keys true e none =
    subst (λ (k : SeriesKey). has_series k (others_of other keys) ≡ false) ((same_series-Decides other key).0 e)
    (others_lack other keys)
lack_by key other keys false e none = others_have key other keys e ∙ none

distinct_by : (key first : SeriesKey) (keys : List SeriesKey) (b : Bool) → same_series key first ≡ b
    → has_series first keys ≡ false → AreDistinct (others_of key keys) → AreDistinct (others_of key (first ∷ keys))
distinct_by key first keys true e none rest = subst AreDistinct (sym (past key first keys true e)) rest
distinct_by key first keys false e none rest =
    subst AreDistinct (sym (past key first keys false e))
    (lack_by first key keys (same_series key first) refl none, rest)

others_distinct : (key : SeriesKey) (keys : List SeriesKey) → AreDistinct keys → AreDistinct (others_of key keys)
others_distinct key [] distinct = tt
others_distinct key (first ∷ keys) distinct =
    distinct_by key first keys (same_series key first) refl distinct.0 (others_distinct key keys distinct.1)

-- ---- keys in another order

to_front_by : (key first : SeriesKey) (keys : List SeriesKey) (b : Bool) → same_series key first ≡ b
    → has_series key (first ∷ keys) ≡ true → has_series first keys ≡ false
    → (has_series key keys ≡ true → IsPermutation keys (key ∷ others_of key keys))
    → IsPermutation (first ∷ keys) (key ∷ others_of key (first ∷ keys))
to_front_by key first keys true e there apart rest =
    let alike : first ≡ key = sym ((same_series-Decides key first).0 e) in
    let none : has_series key keys ≡ false = subst (λ (k : SeriesKey). has_series k keys ≡ false) alike apart in
    let left : keys ≡ others_of key (first ∷ keys) = sym (past key first keys true e ∙ all_others key keys none) in
    let whole : first ∷ keys ≡ key ∷ others_of key (first ∷ keys) = λ i. alike i ∷ left i in
    subst (IsPermutation (first ∷ keys)) whole (IsPermutation-refl (first ∷ keys))
to_front_by key first keys false e there apart rest =
    let inside : has_series key keys ≡ true = sym (has_first key first keys false e) ∙ there in
    subst (λ left. IsPermutation (first ∷ keys) (key ∷ left)) (sym (past key first keys false e))
    (IsPermutation-trans _ _ _ (IsPermutation-cons first keys (key ∷ others_of key keys) (rest inside))
    (front_exchanged (first ∷ []) (key ∷ []) (others_of key keys)))

to_front : (key : SeriesKey) (keys : List SeriesKey) → AreDistinct keys → has_series key keys ≡ true
    → IsPermutation keys (key ∷ others_of key keys)
to_front key [] distinct there = absurd cc
to_front key (first ∷ keys) distinct there =
    to_front_by key first keys (same_series key first) refl there distinct.0
    (λ inside. to_front key keys distinct.1 inside)

rest_alike_by : (key other : SeriesKey) (some keys : List SeriesKey) (b : Bool) → same_series key other ≡ b
    → has_series key some ≡ false → has_series other (key ∷ some) ≡ has_series other keys
    → has_series other some ≡ has_series other (others_of key keys)
rest_alike_by key other some keys true e apart alike =
    subst (λ (k : SeriesKey). has_series k some ≡ has_series k (others_of key keys)) ((same_series-Decides key other).0
    e)
    (apart ∙ sym (others_lack key keys))
rest_alike_by key other some keys false e apart alike =
    sym (has_first other key some false (back key other e)) ∙ alike ∙ sym (others_have other key keys e)

-- keys that are apart, and the same ones
keys_in_order : (some others : List SeriesKey) → AreDistinct some → AreDistinct others
    → ((key : SeriesKey) → has_series key some ≡ has_series key others) → IsPermutation some others
keys_in_order [] [] one two alike = IsPermutation-refl []
keys_in_order [] (key ∷ others) one two alike =
    let there : has_series key (key ∷ others) ≡ true = has_first key key others true (itself key) in
    let none = alike key in
    absurd cc
keys_in_order (key ∷ some) others one two alike =
    let there : has_series key others ≡ true = sym (alike key) ∙ has_first key key some true (itself key) in
    let rest : IsPermutation some (others_of key others) =
    keys_in_order some (others_of key others) one.1 (others_distinct key others two)
    (λ other. rest_alike_by key other some others (same_series key other) refl one.0 (alike other)) in
    IsPermutation-trans _ _ _ (IsPermutation-cons key some (others_of key others) rest)
    (IsPermutation-sym others (key ∷ others_of key others) (to_front key others two there))

-- ---- series that have points

abbrev is_some : List Point → Bool
is_some [] = false
is_some (point ∷ points) = true

some_points : (rows : List Row) → 0 < length rows → true ≡ is_some (map (λ (row : Row). row.point) rows)
some_points [] more = absurd (omega (arith, more))
some_points (row ∷ rows) more = refl

has_points_by : (key : SeriesKey) (rows : List Row) (b : Bool) → has_series key (series_of rows) ≡ b
    → b ≡ is_some (points_of key rows)
has_points_by key rows true e =
    some_points (rows_of key rows) (keyed.items_some same_series same_series-Decides key_of_row key rows e)
has_points_by key rows false e =
    sym (ap (λ own. is_some (map (λ (row : Row). row.point) own))
    (keyed.items_none same_series same_series-Decides key_of_row key rows e))

-- a series occurs where it has points
has_points : (key : SeriesKey) (rows : List Row) → has_series key (series_of rows) ≡ is_some (points_of key rows)
has_points key rows = has_points_by key rows (has_series key (series_of rows)) refl

-- rows with the same points of each series
pub series_in_order : (some others : List Row) → ((key : SeriesKey) → points_of key some ≡ points_of key others)
    → IsPermutation (points_by_series some) (points_by_series others)
series_in_order some others alike =
    let keys : IsPermutation (series_of some) (series_of others) =
    keys_in_order (series_of some) (series_of others)
    (keyed.keys_distinct same_series same_series-Decides key_of_row some)
    (keyed.keys_distinct same_series same_series-Decides key_of_row others)
    (λ key. has_points key some ∙ ap is_some (alike key) ∙ sym (has_points key others)) in
    subst (IsPermutation (points_by_series some))
    (map_same (λ key. (key, points_of key some)) (λ key. (key, points_of key others))
    (λ key. ap (λ points. (key, points)) (alike key)) (series_of others))
    (IsPermutation-map (λ key. (key, points_of key some)) (series_of some) (series_of others) keys)
