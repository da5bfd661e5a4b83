-- What the values of a group come to: of their type, and no larger than they are.
use Rattle.std.proofs.Common.{◌≡◌, ◌≤◌, ◌<◌, ℕ, ℤ, pos, negsuc, suc, ◌+◌, ◌*◌, ◌/◌, Option, Some, List, [], ◌∷◌}
use Rattle.std.proofs.Common.{length, fold, subst, refl, arith, unsigned_abs}
use Rattle.std.specs.Prelude.{option_map}
use Rattle.std.specs.Int.{int_div_euclid, int_max, int_min}
use Rattle.std.specs.List.{AllByRecursion, sum_by}
use Rattle.std.proofs.Math.Nat.{div-le_of_le-mul, div-le_self, div-lt_iff_lt-mul, suc-mul, mul_comm}
use Rattle.std.proofs.lemmas.Int.{clamps, ints}
use Rattle.std.proofs.lemmas.List.Sums.{sum_by-cons}
use Rattle.mon_value.specs.Groups.{counts_of, greatest_of, item_count, least_of, mean_of, sum_of, distributions_in}
use Rattle.mon_value.specs.Groups.{merge_in, number_in, numbers_in, sum_in}
use Rattle.mon_value.specs.Tables.{HasType}
use Rattle.mon_value.specs.Values.{magnitude}
use Rattle.mon_value.specs.declared.values.Value.{Value}
use Rattle.mon_value.specs.declared.values.Value.TheVariants as value
use Rattle.mon_value.specs.declared.values.ValueType.{ValueType}
use Rattle.mon_value.specs.declared.values.ValueType.TheVariants as type
use Rattle.mon_value.proofs.AggregateLemmas.{sum_of-magnitude}
use Rattle.mon_value.proofs.CountsLemmas.{length-counts_added, sum-counts_of}
use Rattle.typed_rows.proofs.MadeCells.{all-filter_map}
use Rattle.mon_value.proofs.GroupLemmas.{numbers-magnitude, distributions-magnitude}

-- a value of a type, within a most for a cell and within a whole
pub record Folded (of : ValueType) (most whole : ℕ) (o : Option Value) : Type 0 where
  pub value : Value
  pub is : o ≡ Some value
  pub typed : HasType of value
  pub within : magnitude value ≤ most
  pub less : magnitude value ≤ whole

pub folded_more : (of : ValueType) (most whole more all : ℕ) (o : Option Value) → Folded of most whole o
    → most ≤ more → whole ≤ all
    → Folded of more all o
folded_more of most whole more all o made wide long = record {
  value = made.value;
  is = made.is;
  typed = made.typed;
  within = omega (arith, made.within, wide);
  less = omega (arith, made.less, long);
}

-- ---- sums and merged distributions

pub sum_folded : (values : List Value) → 0 < length values → AllByRecursion (HasType type.Int) values
    → Folded type.Int (sum_by magnitude values) (sum_by magnitude values) (sum_in values)
sum_folded [] some all = absurd (omega (arith, some))
sum_folded (value.Int z ∷ values) some all =
    let whole = numbers-magnitude (value.Int z ∷ values) in
    let total = sum_of-magnitude (numbers_in (value.Int z ∷ values)) in
    record {
      value = value.Int (sum_of (numbers_in (value.Int z ∷ values)));
      is = refl;
      typed = tt;
      within = omega (arith, total, whole);
      less = omega (arith, total, whole);
    }
sum_folded (value.Bool p ∷ values) some all = absurd all.0
sum_folded (value.Text s ∷ values) some all = absurd all.0
sum_folded (value.Dist counts ∷ values) some all = absurd all.0

long_counts : (bounds : List ℤ) (values : List Value) → AllByRecursion (HasType (type.Dist bounds)) values
    → length (counts_of (distributions_in values)) ≤ length bounds + 1
long_counts bounds [] all = omega arith
long_counts bounds (value.Int z ∷ values) all = absurd all.0
long_counts bounds (value.Bool p ∷ values) all = absurd all.0
long_counts bounds (value.Text s ∷ values) all = absurd all.0
long_counts bounds (value.Dist counts ∷ values) all =
    omega (
      arith,
      length-counts_added counts (counts_of (distributions_in values)),
      all.0,
      long_counts bounds values
          all.1,
    )

pub merge_folded : (bounds : List ℤ) (values : List Value) → 0 < length values
    → AllByRecursion (HasType (type.Dist bounds)) values
    → Folded (type.Dist bounds) (sum_by magnitude values) (sum_by magnitude values) (merge_in values)
merge_folded bounds [] some all = absurd (omega (arith, some))
merge_folded bounds (value.Int z ∷ values) some all = absurd all.0
merge_folded bounds (value.Bool p ∷ values) some all = absurd all.0
merge_folded bounds (value.Text s ∷ values) some all = absurd all.0
merge_folded bounds (value.Dist counts ∷ values) some all =
    let whole = distributions-magnitude (value.Dist counts ∷ values) in
    let total = sum-counts_of (distributions_in (value.Dist counts ∷ values)) in
    record {
      value = value.Dist (counts_of (distributions_in (value.Dist counts ∷ values)));
      is = refl;
      typed = omega (
        arith,
        length-counts_added counts (counts_of (distributions_in values)),
        all.0,
        long_counts
            bounds values all.1,
      );
      within = omega (arith, total, whole);
      less = omega (arith, total, whole);
    }

-- ---- extremes

least_within : (x y : ℤ) (most : ℕ) → unsigned_abs x ≤ most → unsigned_abs y ≤ most
    → unsigned_abs (int_min x y) ≤ most
least_within x y most h k = omega (arith, ints, clamps, h, k)

greatest_within : (x y : ℤ) (most : ℕ) → unsigned_abs x ≤ most → unsigned_abs y ≤ most
    → unsigned_abs (int_max x y) ≤ most
greatest_within x y most h k = omega (arith, ints, clamps, h, k)

least_less : (x y : ℤ) → unsigned_abs (int_min x y) ≤ unsigned_abs x + unsigned_abs y
least_less x y = omega (arith, ints, clamps)

greatest_less : (x y : ℤ) → unsigned_abs (int_max x y) ≤ unsigned_abs x + unsigned_abs y
greatest_less x y = omega (arith, ints, clamps)

module _ (best : ℤ → ℤ → ℤ)
    (within : (x y : ℤ) (most : ℕ) → unsigned_abs x ≤ most → unsigned_abs y ≤ most → unsigned_abs (best x y) ≤ most)
    (less : (x y : ℤ) → unsigned_abs (best x y) ≤ unsigned_abs x + unsigned_abs y) where
  best_within : (most : ℕ) (x : ℤ) (xs : List ℤ) → unsigned_abs x ≤ most
      → AllByRecursion (λ y. unsigned_abs y ≤ most) xs
      → unsigned_abs (fold best x xs) ≤ most
  best_within most x [] h all = h
  best_within most x (y ∷ ys) h all = best_within most (best x y) ys (within x y most h all.0) all.1

  best_less : (x : ℤ) (xs : List ℤ) → unsigned_abs (fold best x xs) ≤ unsigned_abs x + sum_by unsigned_abs xs
  best_less x [] = omega arith
  best_less x (y ∷ ys) = omega (arith, best_less (best x y) ys, less x y, sum_by-cons unsigned_abs y ys)

number_within : (most : ℕ) (v : Value) (z : ℤ) → magnitude v ≤ most → number_in v ≡ Some z → unsigned_abs z ≤ most
number_within most (value.Int y) z h e =
    let same : y ≡ z = cc in
    let P : ℤ → Type 0 = λ x. unsigned_abs x ≤ most in
    subst P same h
number_within most (value.Bool p) z h e = absurd cc
number_within most (value.Text s) z h e = absurd cc
number_within most (value.Dist counts) z h e = absurd cc

numbers_within : (most : ℕ) (values : List Value) → AllByRecursion (λ v. magnitude v ≤ most) values
    → AllByRecursion (λ z. unsigned_abs z ≤ most) (numbers_in values)
numbers_within most values all =
    all-filter_map (λ v. magnitude v ≤ most) (λ z. unsigned_abs z ≤ most) number_in values (number_within most) all

pub least_folded : (most : ℕ) (values : List Value) → 0 < length values → AllByRecursion (HasType type.Int) values
    → AllByRecursion (λ v. magnitude v ≤ most) values
    → Folded type.Int most (sum_by magnitude values) (option_map value.Int (least_of (numbers_in values)))
least_folded most [] some all fit = absurd (omega (arith, some))
least_folded most (value.Int z ∷ values) some all fit = record {
  value = value.Int (fold int_min z (numbers_in values));
  is = refl;
  typed = tt;
  within = best_within int_min least_within least_less most z (numbers_in values) fit.0
      (numbers_within most values fit.1);
  less = omega (
    arith,
    best_less int_min least_within least_less z (numbers_in values),
    numbers-magnitude values,
    sum_by-cons magnitude (value.Int z) values,
  );
}
least_folded most (value.Bool p ∷ values) some all fit = absurd all.0
least_folded most (value.Text s ∷ values) some all fit = absurd all.0
least_folded most (value.Dist counts ∷ values) some all fit = absurd all.0

pub greatest_folded : (most : ℕ) (values : List Value) → 0 < length values → AllByRecursion (HasType type.Int) values
    → AllByRecursion (λ v. magnitude v ≤ most) values
    → Folded type.Int most (sum_by magnitude values) (option_map value.Int (greatest_of (numbers_in values)))
greatest_folded most [] some all fit = absurd (omega (arith, some))
greatest_folded most (value.Int z ∷ values) some all fit = record {
  value = value.Int (fold int_max z (numbers_in values));
  is = refl;
  typed = tt;
  within = best_within int_max greatest_within greatest_less most z (numbers_in values) fit.0
      (numbers_within most values fit.1);
  less = omega (
    arith,
    best_less int_max greatest_within greatest_less z (numbers_in values),
    numbers-magnitude values,
    sum_by-cons magnitude (value.Int z) values,
  );
}
greatest_folded most (value.Bool p ∷ values) some all fit = absurd all.0
greatest_folded most (value.Text s ∷ values) some all fit = absurd all.0
greatest_folded most (value.Dist counts ∷ values) some all fit = absurd all.0

-- ---- means

divided_within : (z : ℤ) (n most : ℕ) → unsigned_abs z ≤ suc n * most
    → unsigned_abs (int_div_euclid z (pos (suc n))) ≤ most
divided_within (pos a) n most h = div-le_of_le-mul (suc n) h
divided_within (negsuc a) n most h =
    let below : a / suc n < most = (div-lt_iff_lt-mul {k = suc n} {x = a} {y = most} (omega arith)).1
    (omega (arith, h, mul_comm (suc n) most)) in
    omega (arith, below)

divided_less : (z : ℤ) (n : ℕ) → unsigned_abs (int_div_euclid z (pos (suc n))) ≤ unsigned_abs z
divided_less (pos a) n = div-le_self a (suc n)
divided_less (negsuc a) n =
    let below = div-le_self a (suc n) in
    omega (arith, below)

sum_most : (most : ℕ) (xs : List ℤ) → AllByRecursion (λ z. unsigned_abs z ≤ most) xs
    → sum_by unsigned_abs xs ≤ length xs * most
sum_most most [] all = omega arith
sum_most most (x ∷ xs) all = omega
    (arith, all.0, sum_most most xs all.1, sum_by-cons unsigned_abs x xs, suc-mul (length xs) most)

pub mean_folded : (most : ℕ) (values : List Value) → 0 < length values → AllByRecursion (HasType type.Int) values
    → AllByRecursion (λ v. magnitude v ≤ most) values
    → Folded type.Int most (sum_by magnitude values) (option_map value.Int (mean_of (numbers_in values)))
mean_folded most [] some all fit = absurd (omega (arith, some))
mean_folded most (value.Int z ∷ values) some all fit =
    let xs = numbers_in (value.Int z ∷ values) in
    let total = sum_of-magnitude xs in
    let whole = numbers-magnitude (value.Int z ∷ values) in
    let each = sum_most most xs (numbers_within most (value.Int z ∷ values) fit) in
    record {
      value = value.Int (int_div_euclid (sum_of xs) (item_count xs));
      is = refl;
      typed = tt;
      within = divided_within (sum_of xs) (length (numbers_in values)) most (omega (arith, total, each));
      less = omega (arith, divided_less (sum_of xs) (length (numbers_in values)), total, whole);
    }
mean_folded most (value.Bool p ∷ values) some all fit = absurd all.0
mean_folded most (value.Text s ∷ values) some all fit = absurd all.0
mean_folded most (value.Dist counts ∷ values) some all fit = absurd all.0
