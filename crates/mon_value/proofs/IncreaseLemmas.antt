-- Increases of points: those of a window, and how large they are.
use Rattle.std.proofs.Common.{◌≡◌, ◌∙◌, ℕ, ◌+◌, ◌*◌, ◌≤◌, ◌++◌, sum_by, ℤ, ◌-ℤ◌, ◌<ℤ◌, ◌≤ℤ◌, Bool, true, false, ◌&&◌, cond, Option, Some}
use Rattle.std.proofs.Common.{None, IfSome, List, [], ◌∷◌, refl, sym, ap, arith}
use Rattle.std.specs.Prelude.{int_le, int_lt}
use Rattle.std.specs.Ordering.{int_eq}
use Rattle.std.specs.List.{AllByRecursion}
use Rattle.std.specs.Option.{option_to_list}
use Rattle.std.proofs.lemmas.Int.{ints}
use Rattle.std.proofs.lemmas.List.Sums.{sum_by-cons}
use Rattle.mon_value.specs.Grids.{EndsRise, IsDuration, ended_by, newest_or, values_of, window_of}
use Rattle.mon_value.specs.Increases.{increase, increases, less}
use Rattle.mon_value.specs.Values.{magnitude}
use Rattle.mon_value.specs.declared.rows.Point.{Point}
use Rattle.mon_value.specs.declared.values.Value.{Value}
use Rattle.mon_value.specs.declared.values.Value.TheVariants as value

-- ---- the point before

some_newest : (q : Point) (points : List Point) (a b : Option Point) → newest_or a (q ∷ points) ≡ newest_or b (q ∷ points)
some_newest q [] a b = refl
some_newest q (r ∷ points) a b = some_newest r points a b

pub newest_cons : (before : Option Point) (p : Point) (points : List Point)
    → newest_or before (p ∷ points) ≡ newest_or (Some p) points
newest_cons before p [] = refl
newest_cons before p (q ∷ points) = some_newest q points before (Some p)

-- ---- windows

abbrev EndAfter : ℤ → List Point → Type 0
EndAfter end points = AllByRecursion (λ (later : Point). end <ℤ later.end) points

none_by : (time : ℤ) (p : Point) (rest : List Point) (b : Bool) → int_le p.end time ≡ b → time <ℤ p.end → rest ≡ []
    → cond b (p ∷ rest) rest ≡ []
none_by time p rest true e past none = absurd (grind (arith, ints))
none_by time p rest false e past none = none

pub none_ended : (time : ℤ) (points : List Point) → EndAfter time points → ended_by time points ≡ []
none_ended time [] all = refl
none_ended time (p ∷ points) all =
    none_by time p (ended_by time points) (int_le p.end time) refl all.0 (none_ended time points all.1)

pub after_all : (low end : ℤ) (points : List Point) → EndAfter end points → low ≤ℤ end → EndAfter low points
after_all low end [] all below = tt
after_all low end (p ∷ points) all below = (omega (arith, ints, all.0), after_all low end points all.1 below)

unseen_by : (time seconds : ℤ) (p : Point) (rest : List Point) (a b : Bool) → int_le p.end time ≡ b → time <ℤ p.end
    → rest ≡ [] → cond (a && b) (p ∷ rest) rest ≡ []
unseen_by time seconds p rest a true e past none = absurd (grind (arith, ints))
unseen_by time seconds p rest true false e past none = none
unseen_by time seconds p rest false false e past none = none

none_seen : (time seconds : ℤ) (points : List Point) → EndAfter time points → window_of time seconds points ≡ []
none_seen time seconds [] all = refl
none_seen time seconds (p ∷ points) all =
    unseen_by time seconds p (window_of time seconds points) (int_lt (time -ℤ seconds) p.end) (int_le p.end time) refl
    all.0 (none_seen time seconds points all.1)

module _ (time seconds : ℤ) (long : IsDuration seconds) where
  abbrev Within : Option Point → List Point → Type 0
  Within before points = window_of time seconds (increases before points)
      ≡ increases (newest_or before (ended_by (time -ℤ seconds) points)) (window_of time seconds points)

  abbrev raised : Option Point → Point → Point
  raised before p = record p { value = increase before p }

  step : (before : Option Point) (p : Point) (points : List Point) (a b c : Bool)
      → int_lt (time -ℤ seconds) p.end ≡ a → int_le p.end time ≡ b → int_le p.end (time -ℤ seconds) ≡ c
      → EndsRise (p ∷ points) → Within (Some p) points
      → cond (a && b) (raised before p ∷ window_of time seconds (increases (Some p) points))
      (window_of time seconds (increases (Some p) points))
      ≡ increases (newest_or before (cond c (p ∷ ended_by (time -ℤ seconds) points)
      (ended_by (time -ℤ seconds) points)))
      (cond (a && b) (p ∷ window_of time seconds points) (window_of time seconds points))
  step before p points true b true e f g rise rest = absurd (grind (arith, ints))
  step before p points false b false e f g rise rest = absurd (grind (arith, ints))
  step before p points false b true e f g rise rest =
      rest
      ∙ ap (λ first. increases first (window_of time seconds points))
      (sym (newest_cons before p (ended_by (time -ℤ seconds) points)))
  step before p points true true false e f g rise rest =
      let later = after_all (time -ℤ seconds) p.end points rise.0 (grind (arith, ints)) in
      let none = none_ended (time -ℤ seconds) points later in
      ap (λ more. raised before p ∷ more)
      (rest ∙ ap (λ some. increases (newest_or (Some p) some) (window_of time seconds points)) none)
      ∙ ap (λ some. increases (newest_or before some) (p ∷ window_of time seconds points)) (sym none)
  step before p points true false false e f g rise rest =
      let later = after_all time p.end points rise.0 (grind (arith, ints)) in
      let none = none_seen time seconds points later in
      rest
      ∙ ap (increases (newest_or (Some p) (ended_by (time -ℤ seconds) points))) none
      ∙ sym (ap (increases (newest_or before (ended_by (time -ℤ seconds) points))) none)

  pub increases_window : (before : Option Point) (points : List Point) → EndsRise points → Within before points
  increases_window before [] rise = refl
  increases_window before (p ∷ points) rise =
      step before p points (int_lt (time -ℤ seconds) p.end) (int_le p.end time) (int_le p.end (time -ℤ seconds)) refl
      refl refl rise (increases_window (Some p) points rise.1)

-- ---- how large they are

less_large : (x y : Value) (most : ℕ) → magnitude x ≤ most → magnitude y ≤ most → magnitude (less x y) ≤ most + most
less_large (value.Int x) (value.Int y) most h g = grind (arith, ints)
less_large (value.Int x) (value.Bool y) most h g = omega (arith, h)
less_large (value.Int x) (value.Text y) most h g = omega (arith, h)
less_large (value.Int x) (value.Dist y) most h g = omega (arith, h)
less_large (value.Bool x) y most h g = omega arith
less_large (value.Text x) y most h g = omega arith
less_large (value.Dist x) y most h g = omega (arith, h)

large_by : (b : Bool) (x y : Value) (most : ℕ) → magnitude x ≤ most + most → magnitude y ≤ most + most
    → magnitude (cond b x y) ≤ most + most
large_by true x y most h g = h
large_by false x y most h g = g

increase_large : (before : Option Point) (p : Point) (most : ℕ)
    → IfSome before (λ (q : Point). magnitude q.value ≤ most) → magnitude p.value ≤ most
    → magnitude (increase before p) ≤ most + most
increase_large None p most h g = omega (arith, g)
increase_large (Some q) p most h g =
    large_by (int_eq q.start p.start) (less p.value q.value) p.value most (less_large p.value q.value most g h)
    (omega (arith, g))

pub increases_large : (most : ℕ) (before : Option Point) (points : List Point)
    → IfSome before (λ (q : Point). magnitude q.value ≤ most)
    → AllByRecursion (λ (q : Point). magnitude q.value ≤ most) points
    → AllByRecursion (λ (q : Point). magnitude q.value ≤ most + most) (increases before points)
increases_large most before [] h all = tt
increases_large most before (p ∷ points) h all =
    (increase_large before p most h all.0, increases_large most (Some p) points all.0 all.1)

-- ---- what they sum to

abbrev weight : Option Point → ℕ
weight None = 0
weight (Some q) = magnitude q.value

less_within : (x y : Value) → magnitude (less x y) ≤ magnitude x + magnitude y
less_within (value.Int x) (value.Int y) = grind (arith, ints)
less_within (value.Int x) (value.Bool y) = omega arith
less_within (value.Int x) (value.Text y) = omega arith
less_within (value.Int x) (value.Dist y) = omega arith
less_within (value.Bool x) y = omega arith
less_within (value.Text x) y = omega arith
less_within (value.Dist x) y = omega arith

within_by : (b : Bool) (x y : Value) (most : ℕ) → magnitude x ≤ most → magnitude y ≤ most → magnitude (cond b x y) ≤ most
within_by true x y most h g = h
within_by false x y most h g = g

increase_within : (before : Option Point) (p : Point) → magnitude (increase before p) ≤ weight before + magnitude p.value
increase_within None p = omega arith
increase_within (Some q) p =
    within_by (int_eq q.start p.start) (less p.value q.value) p.value (magnitude q.value + magnitude p.value)
    (omega (arith, less_within p.value q.value)) (omega arith)

summed : (before : Option Point) (points : List Point)
    → sum_by magnitude (values_of (increases before points)) ≤ weight before + 2 * sum_by magnitude (values_of points)
summed before [] = omega arith
summed before (p ∷ points) =
    let here = increase_within before p in
    let rest = summed (Some p) points in
    let made = sum_by-cons magnitude (increase before p) (values_of (increases (Some p) points)) in
    let all = sum_by-cons magnitude p.value (values_of points) in
    omega arith

pub increases_sum : (before : Option Point) (points : List Point)
    → sum_by magnitude (values_of (increases before points))
    ≤ 2 * sum_by magnitude (values_of (option_to_list before ++ points))
increases_sum None points = let rest = summed None points in omega arith
increases_sum (Some q) points =
    let all = sum_by-cons magnitude q.value (values_of points) in
    let rest = summed (Some q) points in
    omega arith
