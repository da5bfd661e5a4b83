-- Points that end before a bound come first, and the first ones of those behind.
use Rattle.std.proofs.Common.{◌≡◌, ◌∙◌, inl, inr, ℕ, zero, suc, ◌+◌, ◌<◌, ◌≤◌, ℤ, List, [], ◌∷◌, ◌++◌, length}
use Rattle.std.proofs.Common.{take, drop, map, Some, refl, sym, ap, arith, slice_get, ◌-◌}
use Rattle.indexmap.specs.Layout.{set_value_at}
use Rattle.std.proofs.Math.Seq.{take-nil, drop-nil}
use Rattle.std.proofs.lemmas.List.{length-drop, take_all}
use Rattle.std.specs.Prelude.{int_lt}
use Rattle.std.specs.List.Sorted.{IsPartitionedBy}
use Rattle.std.proofs.lemmas.Bool.{cases_eq}
use Rattle.std.proofs.lemmas.Int.{ints}
use Rattle.mon_value.specs.Grids.{EndsRise}
use Rattle.mon_value.specs.declared.rows.Point.{Point}
use Rattle.mon_series.proofs.EndsRiseLemmas.{rising_at}

pub before_first : (ps : List Point) (bound : ℤ) → EndsRise ps → IsPartitionedBy (λ p. int_lt p.end bound) ps
before_first ps bound h i j d l k e =
    elim (cases_eq i j) [
      | inl same ↦ rw same e
      | inr other ↦ let later = rising_at ps i j d h (omega arith) k in grind (arith, ints)
    ]

pub rises_behind : (n : ℕ) (ps : List Point) → EndsRise ps → EndsRise (drop n ps)
rises_behind zero ps h = h
rises_behind (suc n) [] h = h
rises_behind (suc n) (p ∷ ps) h = rises_behind n ps h.1

pub take_more : {X : Type 0} (n m : ℕ) (xs : List X) → take (n + m) xs ≡ take n xs ++ take m (drop n xs)
take_more zero m xs = let same : 0 + m ≡ m = omega arith in ap (λ k. take k xs) same
take_more (suc n) m [] = take-nil (suc n + m) ∙ sym (take-nil m)
take_more (suc n) m (x ∷ xs) =
    let same : suc n + m ≡ suc (n + m) = omega arith in
    ap (λ k. take k (x ∷ xs)) same ∙ ap (λ ys. x ∷ ys) (take_more n m xs)

pub drop_more_of : {X : Type 0} (n m : ℕ) (xs : List X) → drop (n + m) xs ≡ drop m (drop n xs)
drop_more_of zero m xs = let same : 0 + m ≡ m = omega arith in ap (λ k. drop k xs) same
drop_more_of (suc n) m [] = drop-nil (suc n + m) ∙ sym (drop-nil m)
drop_more_of (suc n) m (x ∷ xs) =
    let same : suc n + m ≡ suc (n + m) = omega arith in
    ap (λ k. drop k (x ∷ xs)) same ∙ drop_more_of n m xs

pub rest_of : {X : Type 0} (n : ℕ) (xs : List X) → take (length xs - n) (drop n xs) ≡ drop n xs
rest_of n xs = take_all (length xs - n) (drop n xs) (omega (arith, length-drop n xs))

-- a point more at the end
pub take_within : {X : Type 0} (n : ℕ) (xs : List X) (x : X) (more : List X) → more ≡ xs ++ x ∷ [] → n ≤ length xs
    → take n more ≡ take n xs
take_within {X} n xs x more is l = ap (take n) is ∙ by n xs l
  where
    by : (n : ℕ) (xs : List X) → n ≤ length xs → take n (xs ++ x ∷ []) ≡ take n xs
    by zero xs l = refl
    by (suc n) [] l = absurd (omega (arith, l))
    by (suc n) (y ∷ xs) l = ap (λ ys. y ∷ ys) (by n xs (omega (arith, l)))

pub drop_within : {X : Type 0} (n : ℕ) (xs : List X) (x : X) (more : List X) → more ≡ xs ++ x ∷ [] → n ≤ length xs
    → drop n more ≡ drop n xs ++ x ∷ []
drop_within {X} n xs x more is l = ap (drop n) is ∙ by n xs l
  where
    by : (n : ℕ) (xs : List X) → n ≤ length xs → drop n (xs ++ x ∷ []) ≡ drop n xs ++ x ∷ []
    by zero xs l = refl
    by (suc n) [] l = absurd (omega (arith, l))
    by (suc n) (y ∷ xs) l = by n xs (omega (arith, l))

-- a list whose first so many items were changed, one changed more
pub changed_more : {K V : Type 0} (f : K × V → K × V) (entries : List (K × V)) (n : ℕ) (entry : K × V)
    → ((one : K × V) → (f one).0 ≡ one.0) → slice_get entries n ≡ Some entry
    → set_value_at (map f (take n entries) ++ drop n entries) n (f entry).1
    ≡ map f (take (n + 1) entries) ++ drop (n + 1) entries
changed_more f [] n entry keeps there = absurd cc
changed_more {K} {V} f (first ∷ entries) zero entry keeps there =
    let same : first ≡ entry = cc in
    let own : ◌≡◌ {A = K × V} (first.0, (f entry).1) (f first) =
    λ i. (sym (keeps first) i, (f (sym same i)).1) in
    ap (λ (e : K × V). e ∷ entries) own
changed_more f (first ∷ entries) (suc n) entry keeps there =
    let same : suc n + 1 ≡ suc (n + 1) = omega arith in
    ap (λ more. f first ∷ more) (changed_more f entries n entry keeps there)
    ∙ sym (ap (λ k. map f (take k (first ∷ entries)) ++ drop k (first ∷ entries)) same)

pub next_unchanged : {K V : Type 0} (f : K × V → K × V) (entries : List (K × V)) (n : ℕ) (entry : K × V)
    → slice_get entries n ≡ Some entry → slice_get (map f (take n entries) ++ drop n entries) n ≡ Some entry
next_unchanged f [] n entry there = absurd cc
next_unchanged f (first ∷ entries) zero entry there = there
next_unchanged f (first ∷ entries) (suc n) entry there = next_unchanged f entries n entry there

pub changed_count : {K V : Type 0} (f : K × V → K × V) (entries : List (K × V)) (n : ℕ)
    → length (map f (take n entries) ++ drop n entries) ≡ length entries
changed_count f [] zero = refl
changed_count f [] (suc n) = refl
changed_count f (first ∷ entries) zero = refl
changed_count f (first ∷ entries) (suc n) = ap suc (changed_count f entries n)

pub changed_all : {K V : Type 0} (f : K × V → K × V) (entries : List (K × V)) (n : ℕ) → length entries ≤ n
    → map f (take n entries) ++ drop n entries ≡ map f entries
changed_all f [] zero l = refl
changed_all f [] (suc n) l = refl
changed_all f (first ∷ entries) zero l = absurd (omega (arith, l))
changed_all f (first ∷ entries) (suc n) l = ap (λ more. f first ∷ more) (changed_all f entries n (omega (arith, l)))

pub entry_there : {X : Type 0} (xs : List X) (n : ℕ) → n < length xs → (x : X) × (slice_get xs n ≡ Some x)
entry_there [] n l = absurd (omega (arith, l))
entry_there (x ∷ xs) zero l = (x, refl)
entry_there (x ∷ xs) (suc n) l = entry_there xs n (omega (arith, l))
