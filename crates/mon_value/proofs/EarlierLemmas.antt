-- The one earlier point that the increases of later points want, and what they sum to.
use Rattle.std.proofs.Common.{◌≡◌, ◌∙◌, ℕ, suc, ◌+◌, ◌*◌, ◌^◌, ◌≤◌, ℤ, ◌-ℤ◌, ◌<ℤ◌, ◌≤ℤ◌, Bool, true, false, ◌&&◌}
use Rattle.std.proofs.Common.{cond, Option, Some, None, IfSome, List, [], ◌∷◌, ◌++◌, length, sum_by, refl, sym, ap, arith}
use Rattle.std.specs.Prelude.{int_le, int_lt}
use Rattle.std.specs.List.{AllByRecursion, filter}
use Rattle.std.specs.Option.{option_or, option_to_list}
use Rattle.std.proofs.lemmas.Int.{ints}
use Rattle.std.proofs.lemmas.List.Elements.{filter-append}
use Rattle.std.proofs.lemmas.List.Sums.{sum_by-cons}
use Rattle.mon_value.specs.Grids.{EndsRise, ended_by, ends_within, newest_or, newest_point, values_of, window_of}
use Rattle.mon_value.specs.Grids.{with_earlier}
use Rattle.mon_value.specs.Increases.{increase, increases}
use Rattle.mon_value.specs.Values.{magnitude}
use Rattle.mon_value.specs.declared.rows.Point.{Point}
use Rattle.mon_value.proofs.PlainLemmas.{same_item}
use Rattle.mon_value.proofs.IncreaseLemmas.{newest_cons, none_ended, after_all, increases_large}

abbrev late : ℤ → Point → Bool
late start point = int_lt start point.end

abbrev EndBy : ℤ → List Point → Type 0
EndBy start points = AllByRecursion (λ (p : Point). p.end ≤ℤ start) points

-- ---- early points come first

all_late : (start : ℤ) (points : List Point) → AllByRecursion (λ (p : Point). start <ℤ p.end) points
    → filter (late start) points ≡ points
all_late start [] all = refl
all_late start (p ∷ points) all =
    let here : late start p ≡ true = grind (arith, ints, all.0) in
    ap (λ c. cond c (p ∷ filter (late start) points) (filter (late start) points)) here
    ∙ ap (λ rest. p ∷ rest) (all_late start points all.1)

split_by : (start : ℤ) (p : Point) (points : List Point) (b c : Bool) → int_le p.end start ≡ b
    → int_lt start p.end ≡ c → AllByRecursion (λ (later : Point). p.end <ℤ later.end) points
    → points ≡ ended_by start points ++ filter (late start) points
    → p ∷ points ≡ cond b (p ∷ ended_by start points) (ended_by start points)
    ++ cond c (p ∷ filter (late start) points) (filter (late start) points)
split_by start p points true true e f rise rest = absurd (grind (arith, ints))
split_by start p points false false e f rise rest = absurd (grind (arith, ints))
split_by start p points true false e f rise rest = ap (λ all. p ∷ all) rest
split_by start p points false true e f rise rest =
    let above = after_all start p.end points rise (grind (arith, ints)) in
    let none = none_ended start points above in
    ap (λ all. p ∷ all) (sym (all_late start points above))
    ∙ ap (λ first. first ++ (p ∷ filter (late start) points)) (sym none)

split : (start : ℤ) (points : List Point) → EndsRise points
    → points ≡ ended_by start points ++ filter (late start) points
split start [] rise = refl
split start (p ∷ points) rise =
    split_by start p points (int_le p.end start) (int_lt start p.end) refl refl rise.0 (split start points rise.1)

early_by : (start : ℤ) (p : Point) (points : List Point) (b : Bool) → int_le p.end start ≡ b → EndBy start points
    → EndBy start (cond b (p ∷ points) points)
early_by start p points true e all = (grind (arith, ints), all)
early_by start p points false e all = all

all_early : (start : ℤ) (points : List Point) → EndBy start (ended_by start points)
all_early start [] = tt
all_early start (p ∷ points) =
    early_by start p (ended_by start points) (int_le p.end start) refl (all_early start points)

-- ---- increases one after another

increases-append : (before : Option Point) (xs ys : List Point)
    → increases before (xs ++ ys) ≡ increases before xs ++ increases (newest_or before xs) ys
increases-append before [] ys = refl
increases-append before (x ∷ xs) ys =
    ap (λ rest. record x { value = increase before x } ∷ rest)
    (increases-append (Some x) xs ys
    ∙ ap (λ first. increases (Some x) xs ++ increases first ys) (sym (newest_cons before x xs)))

module _ (time seconds start : ℤ) (order : start ≤ℤ (time -ℤ seconds)) where
  unseen : (end : ℤ) (b : Bool) (p : Point) (rest : List Point) → int_lt (time -ℤ seconds) end ≡ b → end ≤ℤ start
      → (c : Bool) → cond (b && c) (p ∷ rest) rest ≡ rest
  unseen end true p rest e early c = absurd (grind (arith, ints))
  unseen end false p rest e early c = refl

  none_seen : (before : Option Point) (points : List Point) → EndBy start points
      → window_of time seconds (increases before points) ≡ []
  none_seen before [] all = refl
  none_seen before (p ∷ points) all =
      unseen p.end (int_lt (time -ℤ seconds) p.end) (record p { value = increase before p })
      (window_of time seconds (increases (Some p) points)) refl all.0 (int_le p.end time)
      ∙ none_seen (Some p) points all.1

  newest_early : (points : List Point) (p : Point) → EndBy start points → newest_point points ≡ Some p
      → p.end ≤ℤ start
  newest_early [] p all e = absurd cc
  newest_early (q ∷ []) p all e =
      let same : q ≡ p = same_item q p e in
      let ends : q.end ≡ p.end = ap (λ (r : Point). r.end) same in
      let early = all.0 in
      omega (arith, ints)
  newest_early (q ∷ r ∷ points) p all e = newest_early (r ∷ points) p all.1 e

  by_newest : (o : Option Point) (later : List Point) → IfSome o (λ (p : Point). p.end ≤ℤ start)
      → window_of time seconds (increases None (option_to_list o ++ later))
      ≡ window_of time seconds (increases (option_or o None) later)
  by_newest None later early = refl
  by_newest (Some p) later early =
      unseen p.end (int_lt (time -ℤ seconds) p.end) (record p { value = p.value })
      (window_of time seconds (increases (Some p) later)) refl early (int_le p.end time)

  early_newest : (points : List Point) (o : Option Point) → EndBy start points → newest_point points ≡ o
      → IfSome o (λ (p : Point). p.end ≤ℤ start)
  early_newest points None all e = tt
  early_newest points (Some p) all e = newest_early points p all e

  pub enough : (points : List Point) → EndsRise points
      → window_of time seconds (increases None (with_earlier start points))
      ≡ window_of time seconds (increases None points)
  enough points rise =
      let early = ended_by start points in
      let later = filter (late start) points in
      by_newest (newest_point early) later (early_newest early (newest_point early) (all_early start points) refl)
      ∙ sym (ap (λ all. window_of time seconds (increases None all)) (split start points rise)
      ∙ ap (window_of time seconds) (increases-append None early later)
      ∙ filter-append (ends_within time seconds) (increases None early) (increases (newest_or None early) later)
      ∙ ap (λ first. first ++ window_of time seconds (increases (newest_or None early) later))
      (none_seen None early (all_early start points)))

-- ---- sums

more_times : (n p : ℕ) → suc n * p ≡ n * p + p
more_times n p = omega arith

pub sum_within : (most : ℕ) (points : List Point)
    → AllByRecursion (λ (point : Point). magnitude point.value ≤ most) points
    → sum_by magnitude (values_of points) ≤ length points * most
sum_within most [] all = omega arith
sum_within most (p ∷ points) all =
    let more = more_times (length points) most in
    let here = all.0 in
    let one : length (p ∷ points) ≡ suc (length points) = omega arith in
    rw one (omega (arith, sum_by-cons magnitude p.value (values_of points), sum_within most points all.1))

same_length : (before : Option Point) (points : List Point) → length (increases before points) ≡ length points
same_length before [] = refl
same_length before (p ∷ points) = ap suc (same_length (Some p) points)

fewer_times : (n m p : ℕ) → n ≤ m → n * p ≤ m * p
fewer_times n m p h = grind arith

pub sums_fit : (before : Option Point) (points : List Point)
    → IfSome before (λ (point : Point). magnitude point.value ≤ 2 ^ 63)
    → AllByRecursion (λ (point : Point). magnitude point.value ≤ 2 ^ 63) points → length points ≤ 2 ^ 24
    → sum_by magnitude (values_of (increases before points)) ≤ 2 ^ 88
sums_fit before points some all few =
    let large = increases_large (2 ^ 63) before points some all in
    let within = sum_within (2 ^ 63 + 2 ^ 63) (increases before points) large in
    let long = same_length before points in
    let most = fewer_times (length (increases before points)) (2 ^ 24) (2 ^ 63 + 2 ^ 63) (omega arith) in
    omega arith
