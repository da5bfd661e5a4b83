-- Parts of sums, numbers of items, and least and greatest numbers.
use Rattle.std.proofs.Common.{◌≡◌, ℕ, ◌≤◌, ◌↔◌, ℤ, pos, ◌+ℤ◌, int_lt, cond, List, [], ◌∷◌, ◌++◌, length, fold, sum_by}
use Rattle.std.proofs.Common.{unsigned_abs, Option, Some, None, IfSome, IsNone, IsPermutation, refl, sym, ap}
use Rattle.std.proofs.Common.{append-nil, length-append, arith}
use Rattle.std.specs.Int.{int_min, int_max}
use Rattle.std.proofs.lemmas.Int.{ints}
use Rattle.std.proofs.lemmas.List.Sorted.{sum_by-IsPermutation, length_permutation}
use Rattle.std.proofs.lemmas.List.Sums.{fold-append, sum_by-append}
use Rattle.mon_value.specs.Groups.{where_any, sum_of, item_count, least_of, greatest_of}
use Rattle.mon_value.proofs.AggregateLemmas.{fold_first, int_min-assoc, int_max-assoc, sum_of-append, sum_of-magnitude}
use Rattle.mon_value.specs.Values.{greatest_sum}
use Rattle.mon_value.specs.Parts.{IsWithin, combined_numbers}

-- ---- numbers of which one or both may be absent

pub combined_numbers-comm : (f : ℤ → ℤ → ℤ) → ((x y : ℤ) → f x y ≡ f y x) → (a b : Option ℤ) → combined_numbers f a b
    ≡ combined_numbers f b a
combined_numbers-comm f comm None None = refl
combined_numbers-comm f comm None (Some y) = refl
combined_numbers-comm f comm (Some x) None = refl
combined_numbers-comm f comm (Some x) (Some y) = ap Some (comm x y)

module _ (f : ℤ → ℤ → ℤ) (assoc : (x y z : ℤ) → f (f x y) z ≡ f x (f y z)) where
  pub combined_numbers-assoc : (a b c : Option ℤ) → combined_numbers f (combined_numbers f a b) c ≡ combined_numbers f
      a (combined_numbers f b c)
  combined_numbers-assoc None b c = refl
  combined_numbers-assoc (Some x) None c = refl
  combined_numbers-assoc (Some x) (Some y) None = refl
  combined_numbers-assoc (Some x) (Some y) (Some z) = ap Some (assoc x y z)

  -- the best of two lists together, where the operation says which of two numbers is
  best-append : (best : List ℤ → Option ℤ) → best [] ≡ None → ((x : ℤ) (xs : List ℤ) → best (x ∷ xs)
      ≡ Some (fold f x xs))
      → (xs ys : List ℤ) → combined_numbers f (best xs) (best ys) ≡ best (xs ++ ys)
  best-append best none some [] ys = rw none
  best-append best none some (x ∷ xs) [] = rw (none, append-nil xs, some x xs)
  best-append best none some (x ∷ xs) (y ∷ ys) =
      rw (
        some x xs,
        some y ys,
        some x (xs ++ y ∷ ys),
        fold-append f x xs (y ∷ ys),
        fold_first f assoc (fold f x xs) y
            ys,
      )

pub least_of-append : (xs ys : List ℤ) → combined_numbers int_min (least_of xs) (least_of ys) ≡ least_of (xs ++ ys)
least_of-append = best-append int_min int_min-assoc least_of refl (λ _ _. refl)

pub greatest_of-append : (xs ys : List ℤ) → combined_numbers int_max (greatest_of xs) (greatest_of ys) ≡ greatest_of
    (xs ++ ys)
greatest_of-append = best-append int_max int_max-assoc greatest_of refl (λ _ _. refl)

pub sums-append : (xs ys : List ℤ) → combined_numbers ◌+ℤ◌ (where_any xs (sum_of xs)) (where_any ys (sum_of ys))
    ≡ where_any (xs ++ ys) (sum_of (xs ++ ys))
sums-append [] ys = refl
sums-append (x ∷ xs) [] = ap (λ all. Some (x +ℤ sum_of all)) (sym (append-nil xs))
sums-append (x ∷ xs) (y ∷ ys) = ap Some (sym (sum_of-append (x ∷ xs) (y ∷ ys)))

-- ---- none exactly where there is no item

pub none_where_nothing : {A B : Type 0} (items : List A) (value : B) → IsNone (where_any items value) ↔ (items ≡ [])
none_where_nothing [] value = (λ _. refl, λ _. refl)
none_where_nothing (item ∷ items) value = (λ h. cc, λ h. cc)

pub no_least_where_nothing : (items : List ℤ) → IsNone (least_of items) ↔ (items ≡ [])
no_least_where_nothing [] = (λ _. refl, λ _. refl)
no_least_where_nothing (x ∷ xs) = (λ h. cc, λ h. cc)

pub no_greatest_where_nothing : (items : List ℤ) → IsNone (greatest_of items) ↔ (items ≡ [])
no_greatest_where_nothing [] = (λ _. refl, λ _. refl)
no_greatest_where_nothing (x ∷ xs) = (λ h. cc, λ h. cc)

-- there is an item exactly where the number is above 0
pub where_counted : {A B : Type 0} (items : List A) (value : B) → cond (int_lt (pos 0) (item_count items)) (Some value)
    None ≡ where_any items value
where_counted [] value = refl
where_counted (item ∷ items) value = grind (arith, ints)

-- ---- within bounds

pub sum_by-chosen : {A : Type 0} (f : A → ℕ) (xs ys zs : List A) (most : ℕ) → IsPermutation (xs ++ ys) zs → sum_by f zs
    ≤ most → sum_by f xs ≤ most
sum_by-chosen f xs ys zs most same fits =
    omega (arith, sum_by-IsPermutation f (xs ++ ys) zs same, sum_by-append f xs ys)

pub length-chosen : {A : Type 0} (xs ys zs : List A) (most : ℕ) → IsPermutation (xs ++ ys) zs → length zs ≤ most
    → length xs ≤ most
length-chosen xs ys zs most same fits = omega (arith, length_permutation (xs ++ ys) zs same, length-append xs ys)

pub total_within : (xs ys : List ℤ) → sum_by unsigned_abs (xs ++ ys) ≤ greatest_sum → IsWithin (sum_of xs +ℤ sum_of ys)
total_within xs ys fits = rw (← sum_of-append xs ys) (omega (arith, sum_of-magnitude (xs ++ ys)))

sum_within : (xs : List ℤ) → sum_by unsigned_abs xs ≤ greatest_sum → IfSome (where_any xs (sum_of xs)) IsWithin
sum_within [] fits = tt
sum_within (x ∷ xs) fits = omega (arith, sum_of-magnitude (x ∷ xs))

pub sums_within : (xs ys : List ℤ) → sum_by unsigned_abs (xs ++ ys) ≤ greatest_sum
    → IfSome (combined_numbers ◌+ℤ◌ (where_any xs (sum_of xs)) (where_any ys (sum_of ys))) IsWithin
sums_within xs ys fits = rw (sums-append xs ys) (sum_within (xs ++ ys) fits)

pub number_within : {A : Type 0} (xs ys : List A) → length (xs ++ ys) ≤ greatest_sum
    → IsWithin (item_count xs +ℤ item_count ys)
number_within xs ys fits = omega (arith, length-append xs ys)
