-- Lists: what holds of all that a list makes holds of what a part of it makes.
use Rattle.std.proofs.Common.{◌≡◌, ℕ, zero, suc, ◌≤◌, Bool, true, false, cond, List, [], ◌∷◌, ◌++◌}
use Rattle.std.proofs.Common.{filter, take, slice_get, Some, refl, subst, arith, ◌||◌}
use Rattle.std.specs.List.{AllByRecursion, flat_map, list_any}
use Rattle.std.proofs.lemmas.Bool.{false≢true}
use Rattle.run_theory.specs.Parts.{between}

pub or_either : (a b : Bool) (C : Type 0) → (a || b) ≡ true → (a ≡ true → C) → (b ≡ true → C) → C
or_either true b C is here there = here refl
or_either false b C is here there = there is

module _ {X : Type 0} where
  pub both_all : (P : X → Type 0) (xs ys : List X) → AllByRecursion P xs → AllByRecursion P ys
      → AllByRecursion P (xs ++ ys)
  both_all P [] ys p q = q
  both_all P (x ∷ xs) ys p q = (p.0, both_all P xs ys p.1 q)

  pub first_all : (P : X → Type 0) (xs ys : List X) → AllByRecursion P (xs ++ ys) → AllByRecursion P xs
  first_all P [] ys p = tt
  first_all P (x ∷ xs) ys p = (p.0, first_all P xs ys p.1)

  pub last_all : (P : X → Type 0) (xs ys : List X) → AllByRecursion P (xs ++ ys) → AllByRecursion P ys
  last_all P [] ys p = p
  last_all P (x ∷ xs) ys p = last_all P xs ys p.1

  pub all_as : (P Q : X → Type 0) → ((x : X) → P x → Q x) → (xs : List X) → AllByRecursion P xs → AllByRecursion Q xs
  all_as P Q f [] p = tt
  all_as P Q f (x ∷ xs) p = (f x p.0, all_as P Q f xs p.1)

  -- where a claim holds of all, it holds of what stands at a place
  pub all_at : (P : X → Type 0) (xs : List X) (k : ℕ) (x : X) → AllByRecursion P xs → slice_get xs k ≡ Some x → P x
  all_at P [] k x all there = absurd cc
  all_at P (y ∷ xs) zero x all there = let same : y ≡ x = cc in subst P same all.0
  all_at P (y ∷ xs) (suc k) x all there = all_at P xs k x all.1 there

module _ {X Y : Type 0} (P : Y → Type 0) (f : X → List Y) where
  -- of what lies between two lengths
  pub made_between : (from to : ℕ) (xs : List X) (most : ℕ) → to ≤ most → AllByRecursion P (flat_map f (take most xs))
      → AllByRecursion P (flat_map f (between from to xs))
  made_between zero zero xs most le all = tt
  made_between (suc from) zero xs most le all = tt
  made_between from (suc to) xs zero le all = absurd (omega arith)
  made_between zero (suc to) [] (suc most) le all = tt
  made_between (suc from) (suc to) [] (suc most) le all = tt
  made_between zero (suc to) (x ∷ xs) (suc most) le all =
      both_all P (f x) (flat_map f (between 0 to xs)) (first_all P (f x) (flat_map f (take most xs)) all)
      (made_between 0 to xs most (omega arith) (last_all P (f x) (flat_map f (take most xs)) all))
  made_between (suc from) (suc to) (x ∷ xs) (suc most) le all =
      made_between from to xs most (omega arith) (last_all P (f x) (flat_map f (take most xs)) all)

  kept_by : (p : X → Bool) (x : X) (xs : List X) (b : Bool) → AllByRecursion P (f x)
      → AllByRecursion P (flat_map f (filter p xs))
      → AllByRecursion P (flat_map f (cond b (x ∷ filter p xs) (filter p xs)))
  kept_by p x xs true here rest = both_all P (f x) (flat_map f (filter p xs)) here rest
  kept_by p x xs false here rest = rest

  -- of what passes a test
  pub made_kept : (p : X → Bool) (xs : List X) → AllByRecursion P (flat_map f xs)
      → AllByRecursion P (flat_map f (filter p xs))
  made_kept p [] all = tt
  made_kept p (x ∷ xs) all =
      kept_by p x xs (p x) (first_all P (f x) (flat_map f xs) all)
      (made_kept p xs (last_all P (f x) (flat_map f xs) all))

module _ {X : Type 0} (P : X → Type 0) where
  first_kept : (p : X → Bool) (x : X) (xs : List X) (b : Bool) → b ≡ true
      → AllByRecursion P (cond b (x ∷ filter p xs) (filter p xs)) → P x
  first_kept p x xs true is all = all.0
  first_kept p x xs false is all = absurd (false≢true is)

  rest_kept : (p : X → Bool) (x : X) (xs : List X) (b : Bool)
      → AllByRecursion P (cond b (x ∷ filter p xs) (filter p xs)) → AllByRecursion P (filter p xs)
  rest_kept p x xs true all = all.1
  rest_kept p x xs false all = all

  kept_as : (Q : X → Type 0) (p : X → Bool) → ((x : X) → p x ≡ true → P x → Q x) → (x : X) (xs : List X) (b : Bool)
      → p x ≡ b → (AllByRecursion P (filter p xs) → AllByRecursion Q (filter p xs))
      → AllByRecursion P (cond b (x ∷ filter p xs) (filter p xs))
      → AllByRecursion Q (cond b (x ∷ filter p xs) (filter p xs))
  kept_as Q p f x xs true is rest all = (f x is all.0, rest all.1)
  kept_as Q p f x xs false is rest all = rest all

  -- what is so of all that passes a test, and what follows of it where something passes
  pub all_kept_as : (Q : X → Type 0) (p : X → Bool) → ((x : X) → p x ≡ true → P x → Q x) → (xs : List X)
      → AllByRecursion P (filter p xs) → AllByRecursion Q (filter p xs)
  all_kept_as Q p f [] all = tt
  all_kept_as Q p f (x ∷ xs) all = kept_as Q p f x xs (p x) refl (all_kept_as Q p f xs) all

  -- where each item passes some of many tests, and of each of these all that pass are so, all are so
  pub all_by_tests : {T : Type 0} (passes : T → X → Bool) (may : T → Type 0) (xs : List X)
      → AllByRecursion (λ x. (t : T) × may t × (passes t x ≡ true)) xs
      → ((t : T) → may t → AllByRecursion P (filter (passes t) xs)) → AllByRecursion P xs
  all_by_tests passes may [] each all = tt
  all_by_tests passes may (x ∷ xs) each all = (
    first_kept (passes each.0.0) x xs (passes each.0.0 x) each.0.2 (all each.0.0 each.0.1),
    all_by_tests passes may xs each.1 (λ t m. rest_kept (passes t) x xs (passes t x) (all t m)),
  )

abbrev nothing : (X : Type 0) → List X
nothing X = []

module _ {X : Type 0} where
  -- nothing stands in no list
  pub no_item : (k : ℕ) (x : X) → slice_get (nothing X) k ≡ Some x → ⊥
  no_item zero x there = absurd cc
  no_item (suc k) x there = absurd cc

  -- something stands in a list that passes, where some item does
  pub any_at : (test : X → Bool) (xs : List X) (C : Type 0) → list_any test xs ≡ true
      → ((k : ℕ) (x : X) → slice_get xs k ≡ Some x → test x ≡ true → C) → C
  any_at test [] C is use_it = absurd (false≢true is)
  any_at test (x ∷ xs) C is use_it = or_either (test x) (list_any test xs) C is (use_it 0 x refl)
      (λ rest. any_at test xs C rest (λ k y there passes. use_it (suc k) y there passes))
