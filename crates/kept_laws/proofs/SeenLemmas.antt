-- What an aligner sees of a point behind the others of its series, and what that changes.
use Rattle.std.proofs.Common.{◌≡◌, ◌∙◌, ℤ, ◌<ℤ◌, Bool, true, false, cond, Option, Some, None, List, [], ◌∷◌, ◌++◌, refl, sym}
use Rattle.std.proofs.Common.{append-nil, ap, subst}
use Rattle.std.specs.Prelude.{int_lt}
use Rattle.std.specs.List.{AllByRecursion, filter, flat_map}
use Rattle.std.specs.Option.{option_or}
use Rattle.std.specs.Ordering.{int_eq}
use Rattle.std.proofs.lemmas.List.{map-append}
use Rattle.mon_value.specs.Grids.{CanAdd, CanAddAll, CanAddUnder, EndsRise, IsDuration, IsLawfulGrid, IsNumber}
use Rattle.mon_value.specs.Grids.{aligned_values, grid_times, newest_or, newest_point, seconds_of, seen_as, timed_values}
use Rattle.mon_value.specs.Grids.{value_at, value_made, values_of, window_of, ends_within}
use Rattle.mon_value.specs.Increases.{increase, increases, less}
use Rattle.mon_value.specs.declared.aligners.Aligner.{Aligner}
use Rattle.mon_value.specs.declared.aligners.Aligner.TheVariants.{Delta, Increase, NextOlder}
use Rattle.mon_value.specs.declared.grids.Grid.{Grid}
use Rattle.mon_value.specs.declared.grids.TimedValue.{TimedValue}
use Rattle.mon_value.specs.declared.rows.Point.{Point}
use Rattle.mon_value.specs.declared.values.Value.{Value}
use Rattle.mon_value.specs.declared.values.Value.TheVariants as value
use Rattle.mon_value.proofs.IncreaseLemmas.{newest_cons}
use Rattle.std.proofs.lemmas.List.Elements.{filter-append}
use Rattle.kept_laws.specs.Touching.{seen_value, touches, value_with}
use Rattle.kept_laws.proofs.TouchedLemmas.{touched}

-- ---- a total more, as what it adds

increases_last : (before : Option Point) (points : List Point) (point : Point)
    → increases before (points ++ point ∷ [])
    ≡ increases before points ++ record point { value = increase (newest_or before points) point } ∷ []
increases_last before [] point = refl
increases_last before (p ∷ points) point =
    ap (λ (rest : List Point). record p { value = increase before p } ∷ rest)
    (increases_last (Some p) points point
    ∙ ap (λ (newest : Option Point). increases (Some p) points ++ record point { value = increase newest point } ∷ [])
    (sym (newest_cons before p points)))

or_none : (o : Option Point) → option_or o None ≡ o
or_none None = refl
or_none (Some p) = refl

abbrev pub seen_point : Aligner → List Point → Point → Point
seen_point by points point = record point { value = seen_value by points point }

seen_last : (seconds : ℤ) (points : List Point) (point : Point)
    → increases None (points ++ point ∷ []) ≡ increases None points ++ seen_point (Increase seconds) points point ∷ []
seen_last seconds points point =
    increases_last None points point
    ∙ ap (λ (newest : Option Point). increases None points ++ record point { value = increase newest point } ∷ [])
    (or_none (newest_point points))

-- ---- ends and numbers stay

ends_after : (end : ℤ) (before : Option Point) (points : List Point)
    → AllByRecursion (λ (later : Point). end <ℤ later.end) points
    → AllByRecursion (λ (later : Point). end <ℤ later.end) (increases before points)
ends_after end before [] all = tt
ends_after end before (p ∷ points) all = (all.0, ends_after end (Some p) points all.1)

rise_still : (before : Option Point) (points : List Point) → EndsRise points → EndsRise (increases before points)
rise_still before [] rise = tt
rise_still before (p ∷ points) rise =
    (ends_after p.end (Some p) points rise.0, rise_still (Some p) points rise.1)

less_number : (v before : Value) → IsNumber v → IsNumber (less v before)
less_number (value.Int x) (value.Int y) is = tt
less_number (value.Int x) (value.Bool p) is = tt
less_number (value.Int x) (value.Text s) is = tt
less_number (value.Int x) (value.Dist counts) is = tt
less_number (value.Bool p) before is = absurd is
less_number (value.Text s) before is = absurd is
less_number (value.Dist counts) before is = absurd is

one_of : (b : Bool) (v w : Value) → IsNumber v → IsNumber w → IsNumber (cond b v w)
one_of true v w is other = is
one_of false v w is other = other

increase_number : (before : Option Point) (point : Point) → IsNumber point.value → IsNumber (increase before point)
increase_number None point is = is
increase_number (Some before) point is =
    one_of (int_eq before.start point.start) (less point.value before.value) point.value
    (less_number point.value before.value is) is

numbers_still : (before : Option Point) (points : List Point) → AllByRecursion IsNumber (values_of points)
    → AllByRecursion IsNumber (values_of (increases before points))
numbers_still before [] all = tt
numbers_still before (p ∷ points) all = (increase_number before p all.0, numbers_still (Some p) points all.1)

add_to : (y : ℤ) (values : List Value) → AllByRecursion IsNumber values → AllByRecursion (CanAdd (value.Int y)) values
add_to y [] all = tt
add_to y (value.Int z ∷ values) all = (tt, add_to y values all.1)
add_to y (value.Bool p ∷ values) all = absurd all.0
add_to y (value.Text s ∷ values) all = absurd all.0
add_to y (value.Dist counts ∷ values) all = absurd all.0

numbers_add : (values : List Value) → AllByRecursion IsNumber values → CanAddAll values
numbers_add [] all = tt
numbers_add (value.Int z ∷ values) all = (tt, add_to z values all.1)
numbers_add (value.Bool p ∷ values) all = absurd all.0
numbers_add (value.Text s ∷ values) all = absurd all.0
numbers_add (value.Dist counts ∷ values) all = absurd all.0

-- ---- the times that see a point

pub touched_times : (grid : Grid) (by : Aligner) (points : List Point) (point : Point) → IsLawfulGrid grid
    → IsDuration (seconds_of by) → EndsRise (points ++ point ∷ []) → CanAddUnder by (points ++ point ∷ [])
    → aligned_values by grid (points ++ point ∷ [])
    ≡ flat_map (λ time. timed_values time (Some (value_with by (value_at by points time) (seen_value by points point))))
    (filter (touches by point) (grid_times grid))
    ++ filter (λ (one : TimedValue). int_lt one.time point.end) (aligned_values by grid points)
touched_times grid (Delta seconds) points point lawful long rise can =
    touched (Delta seconds) points point long rise can grid lawful
touched_times grid (NextOlder seconds) points point lawful long rise can =
    touched (NextOlder seconds) points point long rise tt grid lawful
touched_times grid (Increase seconds) points point lawful long rise can =
    let by = Increase seconds in
    let same = seen_last seconds points point in
    let seen : List Point = increases None points in
    let last : Point = seen_point by points point in
    ap (λ (all : List Point). flat_map (λ time. timed_values time (value_made by (window_of time seconds all)))
    (grid_times grid)) same
    ∙ touched by seen last long
    (subst EndsRise same (rise_still None (points ++ point ∷ []) rise))
    (subst (λ (all : List Point). CanAddAll (values_of all)) same
    (numbers_add (values_of (increases None (points ++ point ∷ []))) (numbers_still None (points ++ point ∷ []) can)))
    grid lawful

unseen_window : (time seconds : ℤ) (seen : List Point) (point : Point) → ends_within time seconds point ≡ false
    → window_of time seconds (seen ++ point ∷ []) ≡ window_of time seconds seen
unseen_window time seconds seen point e =
    filter-append (ends_within time seconds) seen (point ∷ [])
    ∙ ap (λ b. window_of time seconds seen ++ cond b (point ∷ []) []) e
    ∙ append-nil (window_of time seconds seen)

pub untouched_times : (by : Aligner) (points : List Point) (point : Point) (time : ℤ) → touches by point time ≡ false
    → value_at by (points ++ point ∷ []) time ≡ value_at by points time
untouched_times (Delta seconds) points point time e =
    ap (value_made (Delta seconds)) (unseen_window time seconds points point e)
untouched_times (NextOlder seconds) points point time e =
    ap (value_made (NextOlder seconds)) (unseen_window time seconds points point e)
untouched_times (Increase seconds) points point time e =
    let by = Increase seconds in
    ap (λ (all : List Point). value_made by (window_of time seconds all)) (seen_last seconds points point)
    ∙ ap (value_made by) (unseen_window time seconds (increases None points) (seen_point by points point) e)
