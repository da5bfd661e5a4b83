-- Series in the order of their rows, with the points that are kept: the series of the kept rows in another order.
use Rattle.std.proofs.Common.{◌≡◌, Bool, true, false, ◌||◌, not, cond, List, [], ◌∷◌, ◌++◌, map, refl, sym, ap, subst}
use Rattle.std.proofs.Common.{◌∙◌, ◌<◌, length, arith, append-nil}
use Rattle.std.specs.Prelude.{IsPermutation}
use Rattle.std.specs.List.{AllByRecursion, filter, flat_map}
use Rattle.std.proofs.lemmas.List.{length-map}
use Rattle.std.proofs.lemmas.List.Elements.{filter-append}
use Rattle.mon_value.proofs.KeyedLemmas as keyed
use Rattle.mon_value.proofs.PlainLemmas.{or_true}
use Rattle.mon_value.proofs.SameLemmas.{same_series-Decides}
use Rattle.mon_value.proofs.SourceLemmas.{has_series}
use Rattle.mon_value.specs.Same.{same_series}
use Rattle.mon_value.specs.LeafHistories.{key_of_row, points_by_series, points_of, rows_of, series_of}
use Rattle.mon_value.specs.declared.rows.Point.{Point}
use Rattle.mon_value.specs.declared.rows.Row.{Row}
use Rattle.mon_value.specs.declared.rows.SeriesKey.{SeriesKey}
use Rattle.mon_meaning.proofs.ApartSeries.{series-apart}
use Rattle.mon_meaning.proofs.SeriesOrderLemmas.{series_in_order}
use Rattle.mon_series.specs.HeldSeries.{held_series, own_series, rows_in_order, with_some}

abbrev AreDistinct : List SeriesKey → Type 0
AreDistinct = keyed.Distinct same_series same_series-Decides key_of_row

-- ---- the rows of one series

module _ (key : SeriesKey) where
  abbrev Own : Row → Type 0
  Own row = key ≡ row.key

  own_rows_by : (b : Bool) (row : Row) (rows : List Row) → same_series key row.key ≡ b
      → AllByRecursion Own (rows_of key rows) → AllByRecursion Own (cond b (row ∷ rows_of key rows) (rows_of key rows))
  own_rows_by true row rows e rest = ((same_series-Decides key row.key).0 e, rest)
  own_rows_by false row rows e rest = rest

  own_rows : (rows : List Row) → AllByRecursion Own (rows_of key rows)
  own_rows [] = tt
  own_rows (row ∷ rows) = own_rows_by (same_series key row.key) row rows refl (own_rows rows)

  no_others : filter (λ other. not (same_series key other)) (key ∷ []) ≡ []
  no_others =
      ap (λ b. cond (not b) (key ∷ []) []) (keyed.same_itself same_series same_series-Decides key_of_row key)

  one_key : (row : Row) (rows : List Row) → Own row → AllByRecursion Own rows → series_of (row ∷ rows) ≡ key ∷ []
  one_key row [] own all = ap (λ (k : SeriesKey). k ∷ []) (sym own)
  one_key row (next ∷ rows) own all =
      ap (λ keys. row.key ∷ filter (λ other. not (same_series row.key other)) keys) (one_key next rows all.0 all.1)
      ∙ ap (λ (k : SeriesKey). k ∷ filter (λ other. not (same_series k other)) (key ∷ [])) (sym own)
      ∙ ap (λ rest. key ∷ rest) no_others

  all_own : (rows : List Row) → AllByRecursion Own rows → rows_of key rows ≡ rows
  all_own [] all = refl
  all_own (row ∷ rows) all =
      ap (λ b. cond b (row ∷ rows_of key rows) (rows_of key rows)) ((same_series-Decides key row.key).1 all.0)
      ∙ ap (λ rest. row ∷ rest) (all_own rows all.1)

  alone_in : (rows : List Row) → AllByRecursion Own rows
      → points_by_series rows ≡ with_some key (map (λ (row : Row). row.point) rows)
  alone_in [] all = refl
  alone_in (row ∷ rows) all =
      ap (map (λ k. (k, points_of k (row ∷ rows)))) (one_key row rows all.0 all.1)
      ∙ ap (λ own. (key, map (λ (r : Row). r.point) own) ∷ []) (all_own (row ∷ rows) all)

  alone : (kept : List Row) → points_by_series (rows_of key kept) ≡ own_series kept key
  alone kept = alone_in (rows_of key kept) (own_rows kept)

-- ---- series apart

abbrev IsOther : SeriesKey → SeriesKey → Type 0
IsOther key other = same_series key other ≡ false

apart_rows : (key other : SeriesKey) → same_series key other ≡ false → (rows : List Row)
    → AllByRecursion (Own other) rows → AllByRecursion (λ (row : Row). IsOther key row.key) rows
apart_rows key other e [] all = tt
apart_rows key other e (row ∷ rows) all = (subst (IsOther key) all.0 e, apart_rows key other e rows all.1)

all_both : (P : Row → Type 0) (xs ys : List Row) → AllByRecursion P xs → AllByRecursion P ys
    → AllByRecursion P (xs ++ ys)
all_both P [] ys one two = two
all_both P (x ∷ xs) ys one two = (one.0, all_both P xs ys one.1 two)

others_apart : (key : SeriesKey) (keys : List SeriesKey) (kept : List Row) → has_series key keys ≡ false
    → AllByRecursion (λ (row : Row). IsOther key row.key) (rows_in_order keys kept)
others_apart key [] kept none = tt
others_apart key (other ∷ keys) kept none =
    let parts = keyed.or_false same_series same_series-Decides key_of_row (same_series key other) (has_series key keys)
    none in
    all_both (λ (row : Row). IsOther key row.key) (rows_of other kept) (rows_in_order keys kept)
    (apart_rows key other parts.0 (rows_of other kept) (own_rows other kept)) (others_apart key keys kept parts.1)

no_both : (key other : SeriesKey) → key ≡ other → IsOther key other → ⊥
no_both key other alike apart = let there = (same_series-Decides key other).1 alike in absurd cc

in_order : (keys : List SeriesKey) (kept : List Row) → AreDistinct keys
    → points_by_series (rows_in_order keys kept) ≡ flat_map (own_series kept) keys
in_order [] kept distinct = refl
in_order (key ∷ keys) kept distinct =
    let first = alone key kept in
    let rest = in_order keys kept distinct.1 in
    series-apart (λ other. key ≡ other) (IsOther key) (no_both key) (rows_of key kept) (rows_in_order keys kept)
    (own_rows key kept) (others_apart key keys kept distinct.0)
    ∙ (λ i. first i ++ rest i)

-- ---- the same points

none_of : (key : SeriesKey) (rows : List Row) → AllByRecursion (λ (row : Row). IsOther key row.key) rows
    → rows_of key rows ≡ []
none_of key [] all = refl
none_of key (row ∷ rows) all =
    ap (λ b. cond b (row ∷ rows_of key rows) (rows_of key rows)) all.0 ∙ none_of key rows all.1

rows_within : (key other : SeriesKey) (keys : List SeriesKey) (kept : List Row) (b : Bool) → same_series key other ≡ b
    → has_series other keys ≡ false
    → rows_of key (rows_in_order keys kept) ≡ cond (has_series key keys) (rows_of key kept) []
    → rows_of key (rows_in_order (other ∷ keys) kept) ≡ cond (b || has_series key keys) (rows_of key kept) []
rows_within key other keys kept true e apart rest =
    let alike : other ≡ key = sym ((same_series-Decides key other).0 e) in
    let none : has_series key keys ≡ false = subst (λ (k : SeriesKey). has_series k keys ≡ false) alike apart in
    let first : rows_of key (rows_of other kept) ≡ rows_of key kept =
    ap (λ (k : SeriesKey). rows_of key (rows_of k kept)) alike
    ∙ all_own key (rows_of key kept) (own_rows key kept) in
    filter-append (λ (row : Row). same_series key row.key) (rows_of other kept) (rows_in_order keys kept)
    ∙ (λ i. first i ++ (none_of key (rows_in_order keys kept) (others_apart key keys kept none)) i)
    ∙ append-nil (rows_of key kept)
rows_within key other keys kept false e apart rest =
    let first = none_of key (rows_of other kept) (apart_rows key other e (rows_of other kept) (own_rows other kept)) in
    filter-append (λ (row : Row). same_series key row.key) (rows_of other kept) (rows_in_order keys kept)
    ∙ (λ i. first i ++ rest i)

rows_in : (key : SeriesKey) (keys : List SeriesKey) (kept : List Row) → AreDistinct keys
    → rows_of key (rows_in_order keys kept) ≡ cond (has_series key keys) (rows_of key kept) []
rows_in key [] kept distinct = refl
rows_in key (other ∷ keys) kept distinct =
    rows_within key other keys kept (same_series key other) refl distinct.0 (rows_in key keys kept distinct.1)

same_rows_by : (key : SeriesKey) (keys : List SeriesKey) (kept : List Row) (b c : Bool)
    → has_series key (series_of kept) ≡ b → (b ≡ true → c ≡ true)
    → rows_of key kept ≡ cond c (rows_of key kept) []
same_rows_by key keys kept b true e covers = refl
same_rows_by key keys kept true false e covers = let no = covers refl in absurd cc
same_rows_by key keys kept false false e covers =
    keyed.items_none same_series same_series-Decides key_of_row key kept e

abbrev pub Covers : List SeriesKey → List Row → Type 0
Covers keys kept = (key : SeriesKey) → has_series key (series_of kept) ≡ true → has_series key keys ≡ true

same_points : (keys : List SeriesKey) (kept : List Row) → AreDistinct keys → Covers keys kept → (key : SeriesKey)
    → points_of key kept ≡ points_of key (rows_in_order keys kept)
same_points keys kept distinct covers key =
    ap (map (λ (row : Row). row.point))
    (same_rows_by key keys kept (has_series key (series_of kept)) (has_series key keys) refl (covers key)
    ∙ sym (rows_in key keys kept distinct))

-- ---- held series

-- the rows that are kept, series by series in the order of all rows: their series are those held, which are those of the
-- kept rows in another order
pub held_in_order : (rows kept : List Row) → Covers (series_of rows) kept
    → (points_by_series (rows_in_order (series_of rows) kept) ≡ held_series rows kept)
    × IsPermutation (points_by_series kept) (points_by_series (rows_in_order (series_of rows) kept))
held_in_order rows kept covers =
    let keys = series_of rows in
    let distinct = keyed.keys_distinct same_series same_series-Decides key_of_row rows in (
      in_order keys kept distinct,
      series_in_order kept (rows_in_order keys kept) (same_points keys kept distinct covers),
    )

-- ---- where no row is hidden

has_next : (key first : SeriesKey) (keys : List SeriesKey) → has_series key keys ≡ true
    → has_series key (first ∷ keys) ≡ true
has_next key first keys has =
    keyed.has_cons same_series same_series-Decides key_of_row key first keys (same_series key first) refl
    ∙ ap (λ b. same_series key first || b) has ∙ or_true (same_series key first)

own_keys : (keys : List SeriesKey) → AllByRecursion (λ key. has_series key keys ≡ true) keys
own_keys [] = tt
own_keys (first ∷ keys) = (
  keyed.has_cons same_series same_series-Decides key_of_row first first keys true
      (keyed.same_itself same_series same_series-Decides key_of_row first),
  weaker keys (own_keys keys),
)
  where
    weaker : (some : List SeriesKey) → AllByRecursion (λ key. has_series key keys ≡ true) some
        → AllByRecursion (λ key. has_series key (first ∷ keys) ≡ true) some
    weaker [] all = tt
    weaker (key ∷ some) all = (has_next key first keys all.0, weaker some all.1)

has_some : (key : SeriesKey) (points : List Point) → 0 < length points → with_some key points ≡ (key, points) ∷ []
has_some key [] some = absurd (omega (arith, some))
has_some key (point ∷ points) some = refl

whole_of : (rows : List Row) (keys : List SeriesKey)
    → AllByRecursion (λ key. has_series key (series_of rows) ≡ true) keys
    → flat_map (own_series rows) keys ≡ map (λ key. (key, points_of key rows)) keys
whole_of rows [] all = refl
whole_of rows (key ∷ keys) all =
    let count = length-map (rows_of key rows) (λ (row : Row). row.point) in
    let some = keyed.items_some same_series same_series-Decides key_of_row key rows all.0 in
    let own = has_some key (points_of key rows) (omega (arith, count, some)) in
    (λ i. own i ++ whole_of rows keys all.1 i)

-- all series are held
pub held_whole : (rows : List Row) → held_series rows rows ≡ points_by_series rows
held_whole rows = whole_of rows (series_of rows) (own_keys (series_of rows))
