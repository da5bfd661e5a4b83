-- The least and the greatest of numbers, by how often each comes.
use Rattle.std.proofs.Common.{◌≡◌, ◌∙◌, ◌+◌, ◌<◌, ◌⊎◌, inl, inr, ℕ, ℤ, ◌<ℤ◌, ◌≤ℤ◌, Bool, true, false, cond, Some, List, []}
use Rattle.std.proofs.Common.{◌∷◌, fold, refl, sym, ap, subst, arith}
use Rattle.std.specs.Prelude.{int_lt}
use Rattle.std.specs.Int.{int_max, int_min}
use Rattle.std.specs.List.{AllByRecursion, count_by}
use Rattle.std.specs.Ordering.{MatchOrdering, int_cmp, is_eq}
use Rattle.std.specs.declared.cmp.Ordering.{Ordering}
use Rattle.std.specs.declared.cmp.Ordering.TheVariants.{Less, Equal, Greater}
use Rattle.std.proofs.lemmas.Cmp.{int_ranked}
use Rattle.std.proofs.lemmas.Int.{ints, clamps}
use Rattle.std.proofs.lemmas.List.Sums.{sum_by-cons}
use Rattle.mon_value.specs.Groups.{greatest_of, least_of}
use Rattle.kept_numbers.specs.HowOften.{IsGreatest, IsLeast, how_often, is_number}

self_by : (x : ℤ) (r : Ordering) → MatchOrdering r (x <ℤ x) (x ≡ x) (x <ℤ x) → is_eq r ≡ true
self_by x Less m = absurd (omega (arith, ints, m))
self_by x Equal m = refl
self_by x Greater m = absurd (omega (arith, ints, m))

pub itself : (x : ℤ) → is_number x x ≡ true
itself x = self_by x (int_cmp x x) (int_ranked x x (int_cmp x x) refl)

same_by : (x y : ℤ) (r : Ordering) → MatchOrdering r (x <ℤ y) (x ≡ y) (y <ℤ x) → is_eq r ≡ true → x ≡ y
same_by x y Less m e = absurd cc
same_by x y Equal m e = m
same_by x y Greater m e = absurd cc

pub number_is : (x y : ℤ) → is_number x y ≡ true → x ≡ y
number_is x y e = same_by x y (int_cmp x y) (int_ranked x y (int_cmp x y) refl) e

abbrev pub count : ℤ → List ℤ → ℕ
count y xs = count_by (λ x. is_number x y) xs

pub count_cons : (y x : ℤ) (xs : List ℤ) → count y (x ∷ xs) ≡ cond (is_number x y) 1 0 + count y xs
count_cons y x xs = sum_by-cons (λ n. cond (is_number n y) 1 0) x xs

first_least : (z x : ℤ) (xs : List ℤ) → ((y : ℤ) → y <ℤ z → count y (x ∷ xs) ≡ 0) → (b : Bool) → int_lt x z ≡ b
    → z ≤ℤ x
first_least z x xs none true e =
    let below : x <ℤ z = grind (arith, ints) in
    let one : ◌≡◌ {A = ℕ} (cond (is_number x x) 1 0) 1 = ap (λ b. cond b 1 0) (itself x) in
    absurd (omega (arith, count_cons x x xs, none x below, one))
first_least z x xs none false e = grind (arith, ints)

all_least : (z : ℤ) (xs : List ℤ) → ((y : ℤ) → y <ℤ z → count y xs ≡ 0) → AllByRecursion (λ x. z ≤ℤ x) xs
all_least z [] none = tt
all_least z (x ∷ xs) none = (
  first_least z x xs none (int_lt x z) refl,
  all_least z xs (λ y below. omega (arith, count_cons y x xs, none y below)),
)

comes_by : (z a x : ℤ) (xs : List ℤ) (b : Bool) → is_number x z ≡ b → z ≤ℤ a → z ≤ℤ x
    → (a ≡ z) ⊎ (0 < cond b 1 0 + count z xs) → (int_min a x ≡ z) ⊎ (0 < count z xs)
comes_by z a x xs b e low other (inl is) = inl (omega (arith, ints, clamps))
comes_by z a x xs true e low other (inr comes) = let same = number_is x z e in inl (omega (arith, ints, clamps))
comes_by z a x xs false e low other (inr comes) = inr (omega (arith, comes))

least_fold : (z a : ℤ) (xs : List ℤ) → z ≤ℤ a → AllByRecursion (λ x. z ≤ℤ x) xs → (a ≡ z) ⊎ (0 < count z xs)
    → fold int_min a xs ≡ z
least_fold z a [] low all (inl is) = is
least_fold z a [] low all (inr comes) = absurd (omega (arith, comes))
least_fold z a (x ∷ xs) low all comes =
    let more = count_cons z x xs in
    let here : (a ≡ z) ⊎ (0 < cond (is_number x z) 1 0 + count z xs) = subst (λ n. (a ≡ z) ⊎ (0 < n)) more comes in
    let low_first : z ≤ℤ x = all.0 in
    least_fold z (int_min a x) xs (omega (arith, ints, clamps)) all.1
    (comes_by z a x xs (is_number x z) refl low low_first here)

first_by : (z x : ℤ) (xs : List ℤ) (b : Bool) → is_number x z ≡ b → 0 < cond b 1 0 + count z xs
    → (x ≡ z) ⊎ (0 < count z xs)
first_by z x xs true e comes = inl (number_is x z e)
first_by z x xs false e comes = inr (omega (arith, comes))

pub least_is : (numbers : List ℤ) (entries : List (ℤ × ℕ)) (z : ℤ)
    → ((y : ℤ) → count y numbers ≡ how_often y entries) → IsLeast entries z → least_of numbers ≡ Some z
least_is [] entries z same least = absurd (let comes = least.comes in omega (arith, same z, comes))
least_is (x ∷ xs) entries z same least =
    let none : (y : ℤ) → y <ℤ z → count y (x ∷ xs) ≡ 0 = λ y below. same y ∙ least.none_below y below in
    let all = all_least z (x ∷ xs) none in
    let comes : 0 < count z (x ∷ xs) = subst (λ n. 0 < n) (sym (same z)) least.comes in
    let here = subst (λ n. 0 < n) (count_cons z x xs) comes in
    ap Some (least_fold z x xs all.0 all.1 (first_by z x xs (is_number x z) refl here))

-- ---- the greatest

first_greatest : (z x : ℤ) (xs : List ℤ) → ((y : ℤ) → z <ℤ y → count y (x ∷ xs) ≡ 0) → (b : Bool) → int_lt z x ≡ b
    → x ≤ℤ z
first_greatest z x xs none true e =
    let below : z <ℤ x = grind (arith, ints) in
    let one : ◌≡◌ {A = ℕ} (cond (is_number x x) 1 0) 1 = ap (λ b. cond b 1 0) (itself x) in
    absurd (omega (arith, count_cons x x xs, none x below, one))
first_greatest z x xs none false e = grind (arith, ints)

all_greatest : (z : ℤ) (xs : List ℤ) → ((y : ℤ) → z <ℤ y → count y xs ≡ 0) → AllByRecursion (λ x. x ≤ℤ z) xs
all_greatest z [] none = tt
all_greatest z (x ∷ xs) none = (
  first_greatest z x xs none (int_lt z x) refl,
  all_greatest z xs (λ y below. omega (arith, count_cons y x xs, none y below)),
)

comes_above : (z a x : ℤ) (xs : List ℤ) (b : Bool) → is_number x z ≡ b → a ≤ℤ z → x ≤ℤ z
    → (a ≡ z) ⊎ (0 < cond b 1 0 + count z xs) → (int_max a x ≡ z) ⊎ (0 < count z xs)
comes_above z a x xs b e low other (inl is) = inl (omega (arith, ints, clamps))
comes_above z a x xs true e low other (inr comes) = let same = number_is x z e in inl (omega (arith, ints, clamps))
comes_above z a x xs false e low other (inr comes) = inr (omega (arith, comes))

greatest_fold : (z a : ℤ) (xs : List ℤ) → a ≤ℤ z → AllByRecursion (λ x. x ≤ℤ z) xs → (a ≡ z) ⊎ (0 < count z xs)
    → fold int_max a xs ≡ z
greatest_fold z a [] low all (inl is) = is
greatest_fold z a [] low all (inr comes) = absurd (omega (arith, comes))
greatest_fold z a (x ∷ xs) low all comes =
    let more = count_cons z x xs in
    let here : (a ≡ z) ⊎ (0 < cond (is_number x z) 1 0 + count z xs) = subst (λ n. (a ≡ z) ⊎ (0 < n)) more comes in
    let low_first : x ≤ℤ z = all.0 in
    greatest_fold z (int_max a x) xs (omega (arith, ints, clamps)) all.1
    (comes_above z a x xs (is_number x z) refl low low_first here)

pub greatest_is : (numbers : List ℤ) (entries : List (ℤ × ℕ)) (z : ℤ)
    → ((y : ℤ) → count y numbers ≡ how_often y entries) → IsGreatest entries z → greatest_of numbers ≡ Some z
greatest_is [] entries z same greatest = absurd (let comes = greatest.comes in omega (arith, same z, comes))
greatest_is (x ∷ xs) entries z same greatest =
    let none : (y : ℤ) → z <ℤ y → count y (x ∷ xs) ≡ 0 = λ y below. same y ∙ greatest.none_above y below in
    let all = all_greatest z (x ∷ xs) none in
    let comes : 0 < count z (x ∷ xs) = subst (λ n. 0 < n) (sym (same z)) greatest.comes in
    let here = subst (λ n. 0 < n) (count_cons z x xs) comes in
    ap Some (greatest_fold z x xs all.0 all.1 (first_by z x xs (is_number x z) refl here))
