-- Sums, numbers of items, extremes and means: of two lists together, and in another order.
use Rattle.std.proofs.Common.{◌≡◌, ◌+◌, ◌≤◌, ℤ, pos, ◌+ℤ◌, List, [], ◌∷◌, ◌++◌, fold, sum_by, unsigned_abs, Option}
use Rattle.std.proofs.Common.{Some, None, IsPermutation, refl, sym, ap, ◌∙◌, length-append, arith}
use Rattle.std.specs.Int.{int_min, int_max, int_div_euclid}
use Rattle.std.proofs.lemmas.Int.{ints, clamps}
use Rattle.std.proofs.lemmas.List.Sorted.{length_permutation}
use Rattle.std.proofs.lemmas.List.Sums.{sum_by-cons}
use Rattle.mon_value.specs.Groups.{where_any, sum_of, item_count, least_of, greatest_of, mean_of}
use Rattle.mon_value.proofs.PermutationLemmas.{along_permutation}

-- ---- operations on two numbers

pub add-comm : (x y : ℤ) → x +ℤ y ≡ y +ℤ x
add-comm x y = omega (arith, ints)

pub add-assoc : (x y z : ℤ) → (x +ℤ y) +ℤ z ≡ x +ℤ (y +ℤ z)
add-assoc x y z = omega (arith, ints)

pub int_min-comm : (x y : ℤ) → int_min x y ≡ int_min y x
int_min-comm x y = omega (arith, ints, clamps)

pub int_min-assoc : (x y z : ℤ) → int_min (int_min x y) z ≡ int_min x (int_min y z)
int_min-assoc x y z = omega (arith, ints, clamps)

pub int_max-comm : (x y : ℤ) → int_max x y ≡ int_max y x
int_max-comm x y = omega (arith, ints, clamps)

pub int_max-assoc : (x y z : ℤ) → int_max (int_max x y) z ≡ int_max x (int_max y z)
int_max-assoc x y z = omega (arith, ints, clamps)

-- ---- sums and numbers of items

pub sum_of-append : (xs ys : List ℤ) → sum_of (xs ++ ys) ≡ sum_of xs +ℤ sum_of ys
sum_of-append [] ys = omega (arith, ints)
sum_of-append (x ∷ xs) ys = omega (arith, ints, sum_of-append xs ys)

pub sum_of-permutation : (xs ys : List ℤ) → IsPermutation xs ys → sum_of xs ≡ sum_of ys
sum_of-permutation =
    along_permutation (λ xs ys. sum_of xs ≡ sum_of ys) (λ xs. refl) (λ x xs ys h. ap (λ n. x +ℤ n) h)
    (λ x y xs. omega (arith, ints)) (λ xs ys zs p q. p ∙ q)

-- a sum is no larger than the magnitudes together
pub sum_of-magnitude : (xs : List ℤ) → unsigned_abs (sum_of xs) ≤ sum_by unsigned_abs xs
sum_of-magnitude [] = omega arith
sum_of-magnitude (x ∷ xs) =
    let rest = sum_of-magnitude xs in
    let both : unsigned_abs (x +ℤ sum_of xs) ≤ unsigned_abs x + unsigned_abs (sum_of xs) = grind (arith, ints) in
    omega (arith, sum_by-cons unsigned_abs x xs)

pub item_count-append : {A : Type 0} (xs ys : List A) → item_count (xs ++ ys) ≡ item_count xs +ℤ item_count ys
item_count-append xs ys = ap pos (length-append xs ys)

pub item_count-permutation : {A : Type 0} (xs ys : List A) → IsPermutation xs ys → item_count xs ≡ item_count ys
item_count-permutation xs ys same = ap pos (sym (length_permutation xs ys same))

pub where_any-permutation : {A B : Type 0} (xs ys : List A) (value other : B) → IsPermutation xs ys → value ≡ other
    → where_any xs value ≡ where_any ys other
where_any-permutation [] [] value other same e = refl
where_any-permutation [] (y ∷ ys) value other same e = absurd (omega (arith, length_permutation [] (y ∷ ys) same))
where_any-permutation (x ∷ xs) [] value other same e = absurd (omega (arith, length_permutation (x ∷ xs) [] same))
where_any-permutation (x ∷ xs) (y ∷ ys) value other same e = ap Some e

pub mean_of-permutation : (xs ys : List ℤ) → IsPermutation xs ys → mean_of xs ≡ mean_of ys
mean_of-permutation xs ys same =
    where_any-permutation xs ys (int_div_euclid (sum_of xs) (item_count xs))
    (int_div_euclid (sum_of ys) (item_count ys)) same
    (rw (sum_of-permutation xs ys same, item_count-permutation xs ys same))

-- ---- extremes

module _ (f : ℤ → ℤ → ℤ) (assoc : (x y z : ℤ) → f (f x y) z ≡ f x (f y z)) where
  pub fold_first : (a x : ℤ) (xs : List ℤ) → fold f (f a x) xs ≡ f a (fold f x xs)
  fold_first a x [] = refl
  fold_first a x (y ∷ ys) = ap (λ b. fold f b ys) (assoc a x y) ∙ fold_first a (f x y) ys

-- The best among numbers, where an operation says which of two is.
module _ (f : ℤ → ℤ → ℤ) (assoc : (x y z : ℤ) → f (f x y) z ≡ f x (f y z)) (comm : (x y : ℤ) → f x y ≡ f y x)
    (best : List ℤ → Option ℤ) (none : best [] ≡ None) (some : (x : ℤ) (xs : List ℤ) → best (x ∷ xs)
    ≡ Some (fold f x xs)) where
  best_with : ℤ → Option ℤ → Option ℤ
  best_with x None = Some x
  best_with x (Some y) = Some (f x y)

  best-cons : (x : ℤ) (xs : List ℤ) → best (x ∷ xs) ≡ best_with x (best xs)
  unfolding best_with
  best-cons x [] = rw (some x [], none)
  best-cons x (y ∷ ys) = rw (some x (y ∷ ys), some y ys) (ap Some (fold_first f assoc x y ys))

  pub best-permutation : (xs ys : List ℤ) → IsPermutation xs ys → best xs ≡ best ys
  best-permutation =
      along_permutation (λ xs ys. best xs ≡ best ys) (λ xs. refl)
      (λ x xs ys h. best-cons x xs ∙ ap (best_with x) h ∙ sym (best-cons x ys))
      (λ x y xs. some x (y ∷ xs) ∙ ap (λ a. Some (fold f a xs)) (comm x y) ∙ sym (some y (x ∷ xs))) (λ xs ys zs p q. p
      ∙ q)

pub least_of-permutation : (xs ys : List ℤ) → IsPermutation xs ys → least_of xs ≡ least_of ys
least_of-permutation = best-permutation int_min int_min-assoc int_min-comm least_of refl (λ _ _. refl)

pub greatest_of-permutation : (xs ys : List ℤ) → IsPermutation xs ys → greatest_of xs ≡ greatest_of ys
greatest_of-permutation = best-permutation int_max int_max-assoc int_max-comm greatest_of refl (λ _ _. refl)
