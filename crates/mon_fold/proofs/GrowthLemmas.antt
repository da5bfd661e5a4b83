-- How much totals grow between two places of a series.
use Rattle.std.proofs.Common.{◌≡◌, ◌∙◌, ℕ, zero, suc, ◌+◌, ◌-◌, ◌*◌, ◌^◌, ◌<◌, ◌≤◌, ℤ, pos, ◌+ℤ◌, ◌-ℤ◌, Bool, true, false}
use Rattle.std.proofs.Common.{cond, Option, Some, None, List, [], ◌∷◌, ◌++◌, length, take, drop, get_or, slice_get, sum_by}
use Rattle.std.proofs.Common.{unsigned_abs, refl, sym, ap, subst, arith}
use Rattle.std.specs.Prelude.{int_le, nat_lt}
use Rattle.std.specs.List.{AllByRecursion}
use Rattle.std.specs.Option.{option_or, option_to_list}
use Rattle.std.specs.Ordering.{int_eq}
use Rattle.std.proofs.lemmas.Bool.Decides.{nat_tests}
use Rattle.std.proofs.lemmas.Int.{ints}
use Rattle.std.proofs.lemmas.List.{drop_more}
use Rattle.std.proofs.Math.Seq.{drop-nil}
use Rattle.mon_series.specs.Splits.{points_until}
use Rattle.mon_value.specs.Grids.{CanAdd, EndsRise, IsDuration, IsNumber, SumFits, ended_by, most_aligned, newest_or}
use Rattle.mon_value.specs.Grids.{newest_point, value_at, values_of, window_of, window_with_earlier}
use Rattle.mon_value.specs.Groups.{numbers_in, sum_of, total_of}
use Rattle.mon_value.specs.Increases.{increase, increases, less}
use Rattle.mon_value.specs.Values.{magnitude}
use Rattle.mon_value.specs.declared.aligners.Aligner.TheVariants.{Increase}
use Rattle.mon_value.specs.declared.rows.Point.{Point}
use Rattle.mon_value.specs.declared.values.Value.{Value}
use Rattle.mon_value.specs.declared.values.Value.TheVariants as value
use Rattle.mon_value.proofs.IncreaseLemmas.{after_all, increases_sum, increases_window, newest_cons}
use Rattle.mon_value.proofs.IncreaseLemmas.{none_ended}
use Rattle.mon_fold.specs.GrowingTotals.{IsGrown, growth_between, increases_between, most_grown, told_growth}
use Rattle.mon_fold.specs.declared.growth.Growth.{Growth}
use Rattle.mon_fold.specs.SlidingWindows.{points_between}
use Rattle.mon_fold.proofs.AlignmentLemmas.{slice_get-newest}
use Rattle.mon_fold.proofs.SlidingLemmas.{all_among, between_both, between_long, magnitude_joined, numbers_of_both}
use Rattle.mon_fold.proofs.SlidingLemmas.{sum-magnitude, total-numbers}

-- ---- increases by places

increases-drop : (before : Option Point) (n : ℕ) (points : List Point)
    → drop n (increases before points) ≡ increases (newest_or before (take n points)) (drop n points)
increases-drop before zero [] = refl
increases-drop before zero (p ∷ points) = refl
increases-drop before (suc n) [] = refl
increases-drop before (suc n) (p ∷ points) =
    increases-drop (Some p) n points
    ∙ ap (λ first. increases first (drop n points)) (sym (newest_cons before p (take n points)))

increases-take : (before : Option Point) (n : ℕ) (points : List Point)
    → take n (increases before points) ≡ increases before (take n points)
increases-take before zero [] = refl
increases-take before zero (p ∷ points) = refl
increases-take before (suc n) [] = refl
increases-take before (suc n) (p ∷ points) =
    ap (λ rest. record p { value = increase before p } ∷ rest) (increases-take (Some p) n points)

-- the points between two places add to the newest of those before them
between_increases : (start end : ℕ) (points : List Point)
    → increases_between start end points
    ≡ increases (newest_or None (take start points)) (points_between start end points)
between_increases start end points =
    ap (take (end - start)) (increases-drop None start points)
    ∙ increases-take (newest_or None (take start points)) (end - start) (drop start points)

pub length-increases : (before : Option Point) (points : List Point) → length (increases before points) ≡ length points
length-increases before [] = refl
length-increases before (p ∷ points) = ap suc (length-increases (Some p) points)

-- ---- one point

or_none : {A : Type 0} (o : Option A) → option_or o None ≡ o
or_none None = refl
or_none (Some x) = refl

take_one : {A : Type 0} (x : A) (xs : List A) (n : ℕ) → n ≡ 1 → take n (x ∷ xs) ≡ x ∷ []
take_one x [] n one = rw one refl
take_one x (y ∷ xs) n one = rw one refl

between_one : (place : ℕ) (points : List Point) (p : Point) → p ≡ get_or points place p → place < length points
    → points_between place (place + 1) points ≡ p ∷ []
between_one place points p is below =
    ap (take ((place + 1) - place)) (drop_more points place p below)
    ∙ take_one (get_or points place p) (drop (place + 1) points) ((place + 1) - place) (omega arith)
    ∙ ap (λ q. q ∷ []) (sym is)

-- a point adds its increase over the newest of those before it
pub one_increase : (place : ℕ) (points : List Point) (p : Point) → p ≡ get_or points place p → place < length points
    → (before : Option Point) → before ≡ slice_get (take place points) (length (take place points) - 1)
    → values_of (increases_between place (place + 1) points) ≡ increase before p ∷ []
one_increase place points p is below before newest =
    let first : newest_or None (take place points) ≡ before =
    or_none (newest_point (take place points)) ∙ sym (slice_get-newest (take place points)) ∙ sym newest in
    ap values_of (between_increases place (place + 1) points)
    ∙ ap (λ ps. values_of (increases (newest_or None (take place points)) ps)) (between_one place points p is below)
    ∙ ap (λ o. increase o p ∷ []) first

-- ---- two points

-- where both count from one start, and else
module _ (before point : Point) (number : IsNumber point.value) where
  more_by : (v w : Value) → IsNumber v
      → sum_of (numbers_in (less v w ∷ [])) ≡ sum_of (numbers_in (v ∷ [])) -ℤ sum_of (numbers_in (w ∷ []))
  more_by (value.Int x) (value.Int y) is = omega (arith, ints)
  more_by (value.Int x) (value.Bool y) is = omega (arith, ints)
  more_by (value.Int x) (value.Text y) is = omega (arith, ints)
  more_by (value.Int x) (value.Dist y) is = omega (arith, ints)
  more_by (value.Bool x) w is = absurd is
  more_by (value.Text x) w is = absurd is
  more_by (value.Dist x) w is = absurd is

  pub on_one_start : int_eq before.start point.start ≡ true
      → sum_of (numbers_in (increase (Some before) point ∷ []))
      ≡ sum_of (numbers_in (point.value ∷ [])) -ℤ sum_of (numbers_in (before.value ∷ []))
  on_one_start same =
      ap (λ b. sum_of (numbers_in (cond b (less point.value before.value) point.value ∷ []))) same
      ∙ more_by point.value before.value number

  pub on_another_start : int_eq before.start point.start ≡ false
      → sum_of (numbers_in (increase (Some before) point ∷ [])) ≡ sum_of (numbers_in (point.value ∷ []))
  on_another_start other =
      ap (λ b. sum_of (numbers_in (cond b (less point.value before.value) point.value ∷ []))) other

-- a value that is one number is as large as it
pub single-magnitude : (v : Value) → unsigned_abs (sum_of (numbers_in (v ∷ []))) ≤ magnitude v
single-magnitude (value.Int x) = omega (arith, ints)
single-magnitude (value.Bool x) = omega (arith, ints)
single-magnitude (value.Text x) = omega (arith, ints)
single-magnitude (value.Dist x) = omega (arith, ints)

-- ---- several windows

module _ (points : List Point) where
  abbrev grown : List Point
  grown = increases None points

  abbrev large : ℕ → ℕ → ℕ
  large start end = sum_by magnitude (values_of (increases_between start end points))

  -- the growth between two places is that up to a third one and from there on
  pub growth_both : (start middle end : ℕ) → start ≤ middle → middle ≤ end
      → growth_between start end points ≡ growth_between start middle points +ℤ growth_between middle end points
  growth_both start middle end h k =
      ap (λ ps. sum_of (numbers_in (values_of ps))) (between_both start middle end grown h k)
      ∙ numbers_of_both (points_between start middle grown) (points_between middle end grown)

  pub large_both : (start middle end : ℕ) → start ≤ middle → middle ≤ end
      → large start end ≡ large start middle + large middle end
  large_both start middle end h k =
      ap (λ ps. sum_by magnitude (values_of ps)) (between_both start middle end grown h k)
      ∙ magnitude_joined (points_between start middle grown) (points_between middle end grown)

  pub growth_bound : (start end : ℕ) → unsigned_abs (growth_between start end points) ≤ large start end
  growth_bound start end = sum-magnitude (increases_between start end points)

  pub growth_none : (start end : ℕ) → start ≡ end → growth_between start end points ≡ pos 0
  growth_none start end same =
      let none : end - start ≡ 0 = omega arith in
      ap (λ n. sum_of (numbers_in (values_of (take n (drop start grown))))) none ∙ by_rest (drop start grown)
    where
      by_rest : (ps : List Point) → sum_of (numbers_in (values_of (take 0 ps))) ≡ pos 0
      by_rest [] = refl
      by_rest (p ∷ ps) = refl

  pub large_none : (start end : ℕ) → start ≡ end → large start end ≡ 0
  large_none start end same =
      let none : end - start ≡ 0 = omega arith in
      ap (λ n. sum_by magnitude (values_of (take n (drop start grown)))) none ∙ by_rest (drop start grown)
    where
      by_rest : (ps : List Point) → sum_by magnitude (values_of (take 0 ps)) ≡ 0
      by_rest [] = refl
      by_rest (p ∷ ps) = refl

-- the window behind all points, which has none
pub behind_grown : (window : Growth) (points : List Point) → window.start ≡ length points → window.end ≡ length points
    → window.sum ≡ pos 0 → IsGrown window points
behind_grown window points first last none =
    let same : window.start ≡ window.end = omega arith in
    let bound = large_none points window.start window.end same in
    record {
      ordered = omega arith;
      within = omega arith;
      sum = none ∙ sym (growth_none points window.start window.end same);
      fits = omega (arith, bound);
    }

-- ---- what is told of a time

number_less : (v w : Value) → IsNumber v → IsNumber (less v w)
number_less (value.Int x) (value.Int y) is = tt
number_less (value.Int x) (value.Bool y) is = tt
number_less (value.Int x) (value.Text y) is = tt
number_less (value.Int x) (value.Dist y) is = tt
number_less (value.Bool x) w is = absurd is
number_less (value.Text x) w is = absurd is
number_less (value.Dist x) w is = absurd is

number_if : (b : Bool) (v w : Value) → IsNumber v → IsNumber w → IsNumber (cond b v w)
number_if true v w is also = is
number_if false v w is also = also

number_increased : (before : Option Point) (p : Point) → IsNumber p.value → IsNumber (increase before p)
number_increased None p is = is
number_increased (Some q) p is =
    number_if (int_eq q.start p.start) (less p.value q.value) p.value (number_less p.value q.value is) is

addable : (v : Value) → IsNumber v → CanAdd (value.Int (pos 0)) v
addable (value.Int x) is = tt
addable (value.Bool x) is = absurd is
addable (value.Text x) is = absurd is
addable (value.Dist x) is = absurd is

numbers_increased : (before : Option Point) (points : List Point) → AllByRecursion IsNumber (values_of points)
    → AllByRecursion (CanAdd (value.Int (pos 0))) (values_of (increases before points))
numbers_increased before [] all = tt
numbers_increased before (p ∷ points) all =
    (addable (increase before p) (number_increased before p all.0), numbers_increased (Some p) points all.1)

pub number_at : (points : List Point) (place : ℕ) (d : Point) → AllByRecursion IsNumber (values_of points)
    → place < length points → IsNumber (get_or points place d).value
number_at [] place d all below = absurd (omega arith)
number_at (p ∷ points) zero d all below = all.0
number_at (p ∷ points) (suc place) d all below = number_at points place d all.1 (omega arith)

until_by : (time : ℤ) (p : Point) (points : List Point) (b : Bool) → int_le p.end time ≡ b → EndsRise (p ∷ points)
    → take (length (points_until time points)) points ≡ points_until time points
    → take (length (cond b (p ∷ points_until time points) (points_until time points))) (p ∷ points)
    ≡ cond b (p ∷ points_until time points) (points_until time points)
until_by time p points true e rise rest = ap (λ ps. p ∷ ps) rest
until_by time p points false e rise rest =
    let later = after_all time p.end points rise.0 (grind (arith, ints)) in
    let none : points_until time points ≡ [] = none_ended time points later in
    (λ i. take (length (none i)) (p ∷ points)) ∙ sym none

-- the points that end by a time come first
until_first : (time : ℤ) (points : List Point) → EndsRise points
    → take (length (points_until time points)) points ≡ points_until time points
until_first time [] rise = refl
until_first time (p ∷ points) rise =
    until_by time p points (int_le p.end time) refl rise (until_first time points rise.1)

module _ (points : List Point) (time seconds : ℤ) (start end : ℕ) (long : IsDuration seconds) (rise : EndsRise points)
    (first : start ≡ length (points_until (time -ℤ seconds) points))
    (window : points_between start end points ≡ window_of time seconds points) where
  abbrev earlier : Option Point
  earlier = newest_or None (ended_by (time -ℤ seconds) points)

  seen : increases_between start end points ≡ increases earlier (window_of time seconds points)
  seen =
      between_increases start end points
      ∙ (λ i. increases (newest_or None (before i)) (window i))
    where
      before : take start points ≡ ended_by (time -ℤ seconds) points
      before = ap (λ n. take n points) first ∙ until_first (time -ℤ seconds) points rise

  -- what totals grow by for a time is no more than twice what the points for it are
  pub fits_twice : SumFits (Increase seconds) points time
      → sum_by magnitude (values_of (increases_between start end points)) ≤ most_grown
  fits_twice fits =
      let sum = increases_sum earlier (window_of time seconds points) in
      let with_first = ap (λ o. sum_by magnitude (values_of (option_to_list o ++ window_of time seconds points)))
      (or_none (newest_point (ended_by (time -ℤ seconds) points))) in
      omega (arith, sum, with_first, fits, ap (λ ps. sum_by magnitude (values_of ps)) seen)

  pub told_at : start ≤ end → end ≤ length points → AllByRecursion IsNumber (values_of points) → (sum : ℤ)
      → sum ≡ growth_between start end points
      → told_growth start end sum ≡ value_at (Increase seconds) points time
  told_at ordered within numbers sum is =
      by_places (nat_lt start end) refl
      ∙ ap (λ ps. total_of (values_of ps)) (seen ∙ sym (increases_window time seconds long None points rise))
    where
      by_places : (b : Bool) → nat_lt start end ≡ b
          → cond b (Some (value.Int sum)) None ≡ total_of (values_of (increases_between start end points))
      by_places true below =
          let long_enough : end ≤ length (increases None points) = omega (arith, length-increases None points, within) in
          let apart : start < end = grind (arith, nat_tests) in
          let some : 0 < length (increases_between start end points) =
          omega (arith, between_long start end (increases None points) long_enough, apart) in
          ap (λ z. Some (value.Int z)) is
          ∙ sym (total-numbers (pos 0) (increases_between start end points) some
          (all_among (CanAdd (value.Int (pos 0))) start end (increases None points) (numbers_increased None points numbers)))
      by_places false above =
          let none : end - start ≡ 0 = grind (arith, nat_tests) in
          sym (ap (λ n. total_of (values_of (take n (drop start (increases None points))))) none
          ∙ by_rest (drop start (increases None points)))
        where
          by_rest : (ps : List Point) → total_of (values_of (take 0 ps)) ≡ None
          by_rest [] = refl
          by_rest (p ∷ ps) = refl
