-- Groups by number and by key.
use Rattle.std.proofs.Common.{◌≡◌, ◌∙◌, ℕ, zero, suc, Bool, true, false, cond, Some, None, List, [], ◌∷◌, ◌++◌, map}
use Rattle.std.proofs.Common.{refl, sym, ap, subst, slice_get}
use Rattle.std.specs.Map.{lookup}
use Rattle.mon_value.proofs.KeyedLemmas as keyed
use Rattle.mon_value.proofs.SameLemmas.{same_series-Decides}
use Rattle.mon_value.proofs.SourceLemmas.{has_series, with_point}
use Rattle.mon_value.specs.Same.{same_series}
use Rattle.mon_value.specs.LeafHistories.{key_of_row, points_by_series, points_of, series_of}
use Rattle.mon_value.specs.declared.rows.Point.{Point}
use Rattle.mon_value.specs.declared.rows.Row.{Row}
use Rattle.mon_value.specs.declared.rows.SeriesKey.{SeriesKey}
use Rattle.mon_series.specs.within.Places.{Group, with_point_at}
use Rattle.mon_series.proofs.PlaceLemmas.{keys_in}
use Rattle.mon_series.proofs.MetricLemmas.{series_keys}

-- a group is the first of a key
abbrev pub IsFirst : SeriesKey → List Group → ℕ → Type 0
IsFirst key [] at = ⊥
IsFirst key (g ∷ groups) zero = same_series key g.0 ≡ true
IsFirst key (g ∷ groups) (suc at) = (same_series key g.0 ≡ false) × IsFirst key groups at

-- a point more by its number and by its key
pub grown_first : (key : SeriesKey) (groups : List Group) (at : ℕ) (point : Point) → IsFirst key groups at
    → with_point_at groups at point ≡ with_point groups key point
grown_first key [] at point first = absurd first
grown_first key (g ∷ groups) zero point first =
    ap (λ b. cond b ((g.0, g.1 ++ point ∷ []) ∷ groups) (g ∷ with_point groups key point)) (sym first)
grown_first key (g ∷ groups) (suc at) point first =
    ap (λ (more : List Group). g ∷ more) (grown_first key groups at point first.1)
    ∙ ap (λ b. cond b ((g.0, g.1 ++ point ∷ []) ∷ groups) (g ∷ with_point groups key point)) (sym first.0)

pub found_first : (key : SeriesKey) (groups : List Group) (at : ℕ) (other : SeriesKey) (points : List Point)
    → IsFirst key groups at
    → slice_get groups at ≡ Some (other, points) → (key ≡ other) × (lookup (same_series key) groups ≡ Some points)
found_first key [] at other points first there = absurd first
found_first key (g ∷ groups) zero other points first there =
    let same : g ≡ (other, points) = cc in (
      (same_series-Decides key g.0).0 first ∙ ap (λ (h : Group). h.0) same,
      ap (λ b. cond b (Some g.1) (lookup (same_series key) groups)) first ∙ ap (λ (h : Group). Some h.1) same,
    )
found_first key (g ∷ groups) (suc at) other points first there =
    let rest = found_first key groups at other points first.1 there in
    (rest.0, ap (λ b. cond b (Some g.1) (lookup (same_series key) groups)) first.0 ∙ rest.1)

last_by : (key : SeriesKey) (g : Group) (groups : List Group) (point : Point) (b : Bool) → same_series key g.0 ≡ b
    → cond b (Some g.1) (lookup (same_series key) groups) ≡ None
    → (lookup (same_series key) groups ≡ None → groups ++ (key, point ∷ []) ∷ [] ≡ with_point groups key point)
    → g ∷ (groups ++ (key, point ∷ []) ∷ []) ≡ cond b ((g.0, g.1 ++ point ∷ []) ∷ groups)
    (g ∷ with_point groups key point)
last_by key g groups point true is none rest = absurd cc
last_by key g groups point false is none rest = ap (λ (more : List Group). g ∷ more) (rest none)

-- a point of a key that has no group
pub grown_last : (key : SeriesKey) (groups : List Group) (point : Point) → lookup (same_series key) groups ≡ None
    → groups ++ (key, point ∷ []) ∷ [] ≡ with_point groups key point
grown_last key [] point none = refl
grown_last key (g ∷ groups) point none = last_by key g groups point (same_series key g.0) refl none
    (grown_last key groups point)

-- ---- keys that differ

abbrev Distinct : List SeriesKey → Type 0
Distinct = keyed.Distinct same_series same_series-Decides key_of_row

-- a key among others is like none from which they differ
apart : (first key : SeriesKey) (keys : List SeriesKey) (at : ℕ) → has_series first keys ≡ false → slice_get keys at
    ≡ Some key → same_series key first ≡ false
apart first key [] at none there = absurd cc
apart first key (k ∷ keys) zero none there =
    let same : k ≡ key = cc in
    let parts = keyed.or_false same_series same_series-Decides key_of_row (same_series first k) (has_series first keys)
    none in
    subst (λ (other : SeriesKey). same_series other first ≡ false) same
    (keyed.same_back same_series same_series-Decides key_of_row first k parts.0)
apart first key (k ∷ keys) (suc at) none there =
    let parts = keyed.or_false same_series same_series-Decides key_of_row (same_series first k) (has_series first keys)
    none in
    apart first key keys at parts.1 there

first_at : (key : SeriesKey) (groups : List Group) (at : ℕ) → Distinct (keys_in groups) → slice_get (keys_in groups) at
    ≡ Some key → IsFirst key groups at
first_at key [] at distinct there = absurd cc
first_at key (g ∷ groups) zero distinct there =
    let same : g.0 ≡ key = cc in (same_series-Decides key g.0).1 (sym same)
first_at key (g ∷ groups) (suc at) distinct there =
    (apart g.0 key (keys_in groups) at distinct.0 there, first_at key groups at distinct.1 there)

-- ---- the groups of rows

pub group_of : (of : SeriesKey → List Point) (keys : List SeriesKey) (at : ℕ) (key : SeriesKey) → slice_get keys at
    ≡ Some key
    → slice_get {X = Group} (map (λ (key : SeriesKey). (key, of key)) keys) at ≡ Some (key, of key)
group_of of [] at key there = absurd cc
group_of of (k ∷ keys) zero key there = let same : k ≡ key = cc in ap (λ (k : SeriesKey). Some (k, of k)) same
group_of of (k ∷ keys) (suc at) key there = group_of of keys at key there

-- the group of a series' number has its points
pub group_by_series : (rows : List Row) (at : ℕ) (key : SeriesKey) → slice_get (series_of rows) at ≡ Some key
    → slice_get (points_by_series rows) at ≡ Some (key, points_of key rows)
group_by_series rows at key there = group_of (λ key. points_of key rows) (series_of rows) at key there

-- the series of a number is the first of its key
pub first_by_series : (rows : List Row) (at : ℕ) (key : SeriesKey) → slice_get (series_of rows) at ≡ Some key
    → IsFirst key (points_by_series rows) at
first_by_series rows at key there =
    let keys = sym (series_keys rows) in
    first_at key (points_by_series rows) at
    (subst Distinct keys (keyed.keys_distinct same_series same_series-Decides key_of_row rows))
    (ap (λ (ks : List SeriesKey). slice_get ks at) (sym keys) ∙ there)

-- the key of a group is the series of its number
pub series_number : (groups : List Group) (rows : List Row) (at : ℕ) (key : SeriesKey) (points : List Point) → groups
    ≡ points_by_series rows
    → slice_get groups at ≡ Some (key, points) → slice_get (series_of rows) at ≡ Some key
series_number groups rows at key points same there =
    ap (λ (ks : List SeriesKey). slice_get ks at) (sym (series_keys rows) ∙ ap keys_in (sym same))
    ∙ key_there groups at there
  where
    key_there : (groups : List Group) (at : ℕ) → slice_get groups at ≡ Some (key, points) → slice_get (keys_in groups)
        at ≡ Some key
    key_there [] at there = absurd cc
    key_there (g ∷ groups) zero there = let same : g ≡ (key, points) = cc in ap (λ (h : Group). Some h.0) same
    key_there (g ∷ groups) (suc at) there = key_there groups at there
