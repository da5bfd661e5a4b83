-- What a series comes to once it is aligned: of the metric's type, and no larger than its points in reach together.
use Rattle.std.proofs.Common.{◌≡◌, ◌∙◌, ◌≤◌, ℕ, ℤ, pos, zero, suc, ◌+◌, ◌-◌, ◌*◌, ◌^◌, ◌-ℤ◌, ◌≤ℤ◌, ◌<ℤ◌, Bool, true}
use Rattle.std.proofs.Common.{false, ◌&&◌, cond, int_le, int_lt, Option, Some, None, List, [], ◌∷◌, ◌++◌, subst, refl}
use Rattle.std.proofs.Common.{ap, sym, arith, unsigned_abs}
use Rattle.std.specs.Prelude.{option_map}
use Rattle.std.specs.List.{AllByRecursion, flat_map, sum_by}
use Rattle.std.specs.Option.{IfSome, option_or, option_to_list}
use Rattle.std.specs.Ordering.{int_eq}
use Rattle.std.proofs.Math.Nat.{suc-mul}
use Rattle.std.proofs.lemmas.Bool.Decides.{Decides-int_eq}
use Rattle.std.proofs.lemmas.Int.{ints}
use Rattle.std.proofs.lemmas.List.Sums.{sum_by-append, sum_by-cons}
use Rattle.mon_value.specs.Groups.{sum_of, where_any, merge_in, numbers_in, sum_in, total_of}
use Rattle.mon_value.specs.Grids.{CanAdd, CanAddAll, aligned_values, ended_by, seconds_of, timed_values, value_at}
use Rattle.mon_value.specs.Grids.{value_made, values_of, IsLawfulGrid, grid_times, least_time, time_count, times_back}
use Rattle.mon_value.specs.Grids.{IsNumber, ends_within, newest_point, seen_as, window_of, window_with_earlier}
use Rattle.mon_value.specs.Increases.{increase, increases, less}
use Rattle.mon_value.proofs.IncreaseLemmas.{increases_large}
use Rattle.mon_value.specs.Tables.{HasType}
use Rattle.mon_value.specs.Values.{magnitude}
use Rattle.mon_value.specs.declared.aligners.Aligner.{Aligner}
use Rattle.mon_value.specs.declared.aligners.Aligner.TheVariants as aligner
use Rattle.mon_value.specs.declared.grids.Grid.{Grid}
use Rattle.mon_value.specs.declared.grids.TimedValue.{TimedValue}
use Rattle.mon_value.specs.declared.rows.Point.{Point}
use Rattle.mon_value.specs.declared.schemas.Kind.TheVariants as kind
use Rattle.mon_value.specs.declared.values.Value.{Value}
use Rattle.mon_value.specs.declared.values.Value.TheVariants as value
use Rattle.mon_value.specs.declared.values.ValueType.{ValueType}
use Rattle.mon_value.specs.declared.values.ValueType.TheVariants as type
use Rattle.mon_value.proofs.SameLemmas.{join}
use Rattle.mon_schema.specs.Faults.{is_kind_met}
use Rattle.typed_rows.proofs.FoldedValues.{Folded, merge_folded, sum_folded}
use Rattle.typed_rows.proofs.JoinedRows.{all-map, all-made}
use Rattle.typed_rows.proofs.KeptRows.{all-filter}
use Rattle.typed_rows.proofs.SumBounds.{amount}
use Rattle.mon_value.proofs.PlainLemmas.{nothing_is, and_both, all_append, all_both, same_item}

-- ---- what an aligner makes of points

-- the values of points are of a type, and of 63 bits
abbrev pub PointFits : ValueType → Point → Type 0
PointFits of point = HasType of point.value × (magnitude point.value ≤ 2 ^ 63)

-- the most that a point counts as an aligner sees it: an increase is a difference of two values
abbrev pub heaviest : Aligner → ℕ
heaviest (aligner.Delta seconds) = 2 ^ 63
heaviest (aligner.Increase seconds) = 2 ^ 64
heaviest (aligner.NextOlder seconds) = 2 ^ 63

-- the same of a point as an aligner sees it
abbrev pub SeenFits : Aligner → ValueType → Point → Type 0
SeenFits by of point = HasType of point.value × (magnitude point.value ≤ heaviest by)

-- a value of a type, within a whole
abbrev pub ValueWithin : ValueType → ℕ → Option Value → Type 0
ValueWithin of whole None = Unit {0}
ValueWithin of whole (Some v) = HasType of v × (magnitude v ≤ whole)

abbrev pub weight : Point → ℕ
weight point = magnitude point.value

point_within : (of : ValueType) (whole more : ℕ) (o : Option Value) → ValueWithin of whole o → whole ≤ more
    → ValueWithin of more o
point_within of whole more None fit less = tt
point_within of whole more (Some v) fit less = (fit.0, omega (arith, fit.1, less))

newest_within : (of : ValueType) (points : List Point) → AllByRecursion (PointFits of) points
    → ValueWithin of (sum_by weight points) (option_map (λ (point : Point). point.value) (newest_point points))
newest_within of [] all = tt
newest_within of (point ∷ []) all = (all.0.0, omega (arith, sum_by-cons weight point []))
newest_within of (point ∷ next ∷ points) all =
    point_within of (sum_by weight (next ∷ points)) (sum_by weight (point ∷ next ∷ points)) _
    (newest_within of (next ∷ points) all.1)
    (omega (arith, sum_by-cons weight point (next ∷ points)))

newest_small : (of : ValueType) (points : List Point) → AllByRecursion (PointFits of) points
    → amount (option_map (λ (point : Point). point.value) (newest_point points)) ≤ 2 ^ 63
newest_small of [] all = omega arith
newest_small of (point ∷ []) all = all.0.1
newest_small of (point ∷ next ∷ points) all = newest_small of (next ∷ points) all.1

folded_within : (of : ValueType) (most whole : ℕ) (o p : Option Value) → Folded of most whole o
    → ValueWithin of whole (option_or o p)
folded_within of most whole o p folded =
    let P : Option Value → Type 0 = λ q. ValueWithin of whole (option_or q p) in
    subst P (sym folded.is) (folded.typed, folded.less)

folded_alone : (of : ValueType) (most whole : ℕ) (o p : Option Value) → o ≡ None → Folded of most whole p
    → ValueWithin of whole (option_or o p)
folded_alone of most whole o p none folded =
    let P : Option Value → Type 0 = λ q. ValueWithin of whole (option_or q p) in
    let Q : Option Value → Type 0 = λ q. ValueWithin of whole q in
    subst P (sym none) (subst Q (sym folded.is) (folded.typed, folded.less))

no_numbers : (bounds : List ℤ) (values : List Value) → AllByRecursion (HasType (type.Dist bounds)) values
    → numbers_in values ≡ []
no_numbers bounds [] all = refl
no_numbers bounds (value.Int z ∷ values) all = absurd all.0
no_numbers bounds (value.Bool b ∷ values) all = absurd all.0
no_numbers bounds (value.Text s ∷ values) all = absurd all.0
no_numbers bounds (value.Dist counts ∷ values) all = no_numbers bounds values all.1

no_sum : (bounds : List ℤ) (values : List Value) → AllByRecursion (HasType (type.Dist bounds)) values
    → sum_in values ≡ None
no_sum bounds values all =
    ap (λ (numbers : List ℤ). option_map value.Int (where_any numbers (sum_of numbers)))
    (no_numbers bounds values all)

total_within : (of : ValueType) → is_kind_met kind.Delta of ≡ true → (values : List Value)
    → AllByRecursion (HasType of) values
    → ValueWithin of (sum_by magnitude values) (total_of values)
total_within type.Int met [] all = tt
total_within type.Int met (v ∷ values) all =
    folded_within type.Int _ (sum_by magnitude (v ∷ values)) (sum_in (v ∷ values)) (merge_in (v ∷ values))
    (sum_folded (v ∷ values) (omega arith) all)
total_within (type.Dist bounds) met [] all = tt
total_within (type.Dist bounds) met (v ∷ values) all =
    folded_alone (type.Dist bounds) _ (sum_by magnitude (v ∷ values)) (sum_in (v ∷ values)) (merge_in (v ∷ values))
    (no_sum bounds (v ∷ values) all) (merge_folded bounds (v ∷ values) (omega arith) all)
total_within type.Bool met values all = absurd cc
total_within type.Text met values all = absurd cc

pub sum_of_values : (points : List Point) → sum_by magnitude (values_of points) ≡ sum_by weight points
sum_of_values [] = refl
sum_of_values (point ∷ points) =
    sum_by-cons magnitude point.value (values_of points) ∙ ap (λ n. magnitude point.value + n) (sum_of_values points)
    ∙ sym (sum_by-cons weight point points)

-- an aligner that adds takes what can be added, and totals are numbers
abbrev pub Takes : Aligner → ValueType → Type 0
Takes (aligner.Delta seconds) of = is_kind_met kind.Delta of ≡ true
Takes (aligner.Increase seconds) of = is_kind_met kind.Cumulative of ≡ true
Takes (aligner.NextOlder seconds) of = Unit {0}

-- what a point counts as an aligner sees it: its value's magnitude, or as much as any increase may
abbrev pub weighed : Aligner → Point → ℕ
weighed (aligner.Delta seconds) point = weight point
weighed (aligner.Increase seconds) point = 2 ^ 64
weighed (aligner.NextOlder seconds) point = weight point

weight_less : (by : Aligner) (of : ValueType) (point : Point) → SeenFits by of point → weight point ≤ weighed by point
weight_less (aligner.Delta seconds) of point fit = omega arith
weight_less (aligner.Increase seconds) of point fit = fit.1
weight_less (aligner.NextOlder seconds) of point fit = omega arith

weights_less : (by : Aligner) (of : ValueType) (points : List Point) → AllByRecursion (SeenFits by of) points
    → sum_by weight points ≤ sum_by (weighed by) points
weights_less by of [] all = omega arith
weights_less by of (point ∷ points) all =
    omega (
      arith,
      sum_by-cons weight point points,
      sum_by-cons (weighed by) point points,
      weight_less by of point all.0,
      weights_less by of points all.1,
    )

total_within_of : (by : Aligner) (of : ValueType) → is_kind_met kind.Delta of ≡ true → (points : List Point)
    → AllByRecursion (SeenFits by of) points
    → ValueWithin of (sum_by (weighed by) points) (total_of (values_of points))
total_within_of by of met points all =
    point_within of (sum_by magnitude (values_of points)) (sum_by (weighed by) points) (total_of (values_of points))
    (total_within of met (values_of points)
    (all-made (SeenFits by of) (HasType of) (λ (point : Point). point.value) points (λ point p. p.0) all))
    (omega (arith, sum_of_values points, weights_less by of points all))

-- totals are numbers, which can be added
numbers_add : (of : ValueType) → is_kind_met kind.Cumulative of ≡ true → is_kind_met kind.Delta of ≡ true
numbers_add type.Int met = refl
numbers_add type.Bool met = absurd cc
numbers_add type.Text met = absurd cc
numbers_add (type.Dist bounds) met = absurd cc

made_within : (by : Aligner) (of : ValueType) → Takes by of → (points : List Point)
    → AllByRecursion (SeenFits by of) points
    → ValueWithin of (sum_by (weighed by) points) (value_made by points)
made_within (aligner.NextOlder seconds) of takes points all = newest_within of points all
made_within (aligner.Delta seconds) of takes points all = total_within_of (aligner.Delta seconds) of takes points all
made_within (aligner.Increase seconds) of takes points all =
    total_within_of (aligner.Increase seconds) of (numbers_add of takes) points all

-- ---- the reach of a grid

-- whether a point ends where an alignment may see it
abbrev pub is_in_reach : Grid → Aligner → Point → Bool
is_in_reach grid by point = int_lt (least_time grid -ℤ seconds_of by) point.end && int_le point.end grid.moment

-- what a point weighs, if it is in reach
abbrev pub reached : Grid → Aligner → Point → ℕ
reached grid by point = cond (is_in_reach grid by point) (weighed by point) 0

times_between : (low high e : ℤ) (p : ℕ) → e ≡ pos p → (n : ℕ) (t : ℤ) → low ≤ℤ (t -ℤ pos ((n - 1) * p)) → t ≤ℤ high
    → AllByRecursion (λ time. (low ≤ℤ time) × (time ≤ℤ high)) (times_back n t e)
times_between low high e p step zero t from to = tt
times_between low high e p step (suc zero) t from to =
    let none : (1 - 1) * p ≡ 0 = omega arith in
    ((omega (arith, ints, from, none), to), tt)
times_between low high e p step (suc (suc n)) t from to =
    let one : suc (suc n) - 1 ≡ suc n = omega arith in
    let less : suc n - 1 ≡ n = omega arith in
    let more : (suc (suc n) - 1) * p ≡ n * p + p = ap (λ k. k * p) one ∙ suc-mul n p in
    let rest : (suc n - 1) * p ≡ n * p = ap (λ k. k * p) less in (
      (omega (arith, ints, from, more), to),
      times_between low high e p step (suc n) (t -ℤ e) (omega (arith, ints, from, more, rest, step))
          (omega (arith, ints, step, to)),
    )

abbrev pub IsBetween : Grid → ℤ → Type 0
IsBetween grid time = (least_time grid ≤ℤ time) × (time ≤ℤ grid.moment)

pub grid_reach : (grid : Grid) → IsLawfulGrid grid → AllByRecursion (IsBetween grid) (grid_times grid)
grid_reach grid lawful =
    let every = lawful.every in
    times_between (least_time grid) grid.moment grid.every (unsigned_abs grid.every) (omega (arith, ints, every.0))
    (time_count grid) grid.moment
    (omega (arith, ints)) (omega (arith, ints))

reach_by : (low t s end high : ℤ) → low ≤ℤ t → t ≤ℤ high → int_lt (t -ℤ s) end ≡ true → int_le end t ≡ true
    → (int_lt (low -ℤ s) end && int_le end high) ≡ true
reach_by low t s end high from to after before =
    join (int_lt (low -ℤ s) end) (int_le end high) (grind (arith, ints)) (grind (arith, ints))

window_reached : (grid : Grid) (by : Aligner) (time : ℤ) → IsBetween grid time → (point : Point)
    → ends_within time (seconds_of by) point ≡ true
    → is_in_reach grid by point ≡ true
window_reached grid by time between point e =
    let parts = and_both (int_lt (time -ℤ seconds_of by) point.end) (int_le point.end time) e in
    reach_by (least_time grid) time (seconds_of by) point.end grid.moment between.0 between.1 parts.0 parts.1

window_step : (by : Aligner) (b c : Bool) (point : Point) (some : List Point) (rest : ℕ) → (b ≡ true → c ≡ true)
    → sum_by (weighed by) some ≤ rest
    → sum_by (weighed by) (cond b (point ∷ some) some) ≤ cond c (weighed by point) 0 + rest
window_step by true true point some rest h less = omega (arith, sum_by-cons (weighed by) point some, less)
window_step by true false point some rest h less = let no : false ≡ true = h refl in absurd cc
window_step by false c point some rest h less = omega (arith, less)

-- the points in a window of the grid are in reach
pub window_weight : (grid : Grid) (by : Aligner) (time : ℤ) → IsBetween grid time → (points : List Point)
    → sum_by (weighed by) (window_of time (seconds_of by) points) ≤ sum_by (reached grid by) points
window_weight grid by time between [] = omega arith
window_weight grid by time between (point ∷ points) =
    omega (
      arith,
      window_step by (ends_within time (seconds_of by) point) (is_in_reach grid by point) point
          (window_of time (seconds_of by) points)
          (sum_by (reached grid by) points) (window_reached grid by time between point)
          (window_weight grid by time between points),
      sum_by-cons (reached grid by) point points,
    )

-- ---- a series as an aligner sees it

-- increases end where their points do, and each weighs the same
increases_reached : (grid : Grid) (seconds : ℤ) (before : Option Point) (points : List Point)
    → sum_by (reached grid (aligner.Increase seconds)) (increases before points)
    ≡ sum_by (reached grid (aligner.Increase seconds)) points
increases_reached grid seconds before [] = refl
increases_reached grid seconds before (point ∷ points) =
    let by = aligner.Increase seconds in
    sum_by-cons (reached grid by) (record point { value = increase before point }) (increases (Some point) points)
    ∙ ap (λ n. reached grid by point + n) (increases_reached grid seconds (Some point) points)
    ∙ sym (sum_by-cons (reached grid by) point points)

seen_reached : (grid : Grid) (by : Aligner) (points : List Point)
    → sum_by (reached grid by) (seen_as by points) ≡ sum_by (reached grid by) points
seen_reached grid (aligner.Delta seconds) points = refl
seen_reached grid (aligner.Increase seconds) points = increases_reached grid seconds None points
seen_reached grid (aligner.NextOlder seconds) points = refl

less_number : (x y : Value) → HasType type.Int x → HasType type.Int y → HasType type.Int (less x y)
less_number (value.Int x) (value.Int y) h k = tt
less_number (value.Int x) (value.Bool b) h k = absurd k
less_number (value.Int x) (value.Text s) h k = absurd k
less_number (value.Int x) (value.Dist counts) h k = absurd k
less_number (value.Bool b) y h k = absurd h
less_number (value.Text s) y h k = absurd h
less_number (value.Dist counts) y h k = absurd h

number_by : (b : Bool) (x y : Value) → HasType type.Int x → HasType type.Int y → HasType type.Int (cond b x y)
number_by true x y h k = h
number_by false x y h k = k

increase_number : (before : Option Point) (point : Point)
    → IfSome before (λ (p : Point). HasType type.Int p.value) → HasType type.Int point.value
    → HasType type.Int (increase before point)
increase_number None point h k = k
increase_number (Some p) point h k =
    number_by (int_eq p.start point.start) (less point.value p.value) point.value
    (less_number point.value p.value k h) k

increases_numbers : (before : Option Point) (points : List Point)
    → IfSome before (λ (p : Point). HasType type.Int p.value)
    → AllByRecursion (λ (p : Point). HasType type.Int p.value) points
    → AllByRecursion (λ (p : Point). HasType type.Int p.value) (increases before points)
increases_numbers before [] h all = tt
increases_numbers before (p ∷ points) h all =
    (increase_number before p h all.0, increases_numbers (Some p) points all.0 all.1)

increases_fit : (seconds : ℤ) (of : ValueType) → is_kind_met kind.Cumulative of ≡ true → (points : List Point)
    → AllByRecursion (PointFits of) points
    → AllByRecursion (SeenFits (aligner.Increase seconds) of) (increases None points)
increases_fit seconds type.Int met points all =
    all_both (λ (p : Point). HasType type.Int p.value) (λ (p : Point). magnitude p.value ≤ 2 ^ 64)
    (increases None points)
    (increases_numbers None points tt
    (all-map (PointFits type.Int) (λ (p : Point). HasType type.Int p.value) points (λ p fit. fit.0) all))
    (all-map (λ (p : Point). magnitude p.value ≤ 2 ^ 63 + 2 ^ 63) (λ (p : Point). magnitude p.value ≤ 2 ^ 64)
    (increases None points) (λ p h. omega (arith, h))
    (increases_large (2 ^ 63) None points tt
    (all-map (PointFits type.Int) (λ (p : Point). magnitude p.value ≤ 2 ^ 63) points (λ p fit. fit.1) all)))
increases_fit seconds type.Bool met points all = absurd cc
increases_fit seconds type.Text met points all = absurd cc
increases_fit seconds (type.Dist bounds) met points all = absurd cc

seen_fit : (by : Aligner) (of : ValueType) → Takes by of → (points : List Point)
    → AllByRecursion (PointFits of) points → AllByRecursion (SeenFits by of) (seen_as by points)
seen_fit (aligner.Delta seconds) of takes points all = all
seen_fit (aligner.Increase seconds) of takes points all = increases_fit seconds of takes points all
seen_fit (aligner.NextOlder seconds) of takes points all = all

-- what a series has at each time of a grid
pub value_within : (grid : Grid) → IsLawfulGrid grid → (by : Aligner) (of : ValueType) → Takes by of
    → (points : List Point)
    → AllByRecursion (PointFits of) points
    → AllByRecursion (λ time. ValueWithin of (sum_by (reached grid by) points) (value_at by points time))
    (grid_times grid)
value_within grid lawful by of takes points all =
    all-map (IsBetween grid) (λ time. ValueWithin of (sum_by (reached grid by) points) (value_at by points time))
    (grid_times grid)
    (λ time between.
    let seen = seen_as by points in
    point_within of (sum_by (weighed by) (window_of time (seconds_of by) seen))
    (sum_by (reached grid by) points) (value_at by points time)
    (made_within by of takes (window_of time (seconds_of by) seen)
    (all-filter (SeenFits by of) (ends_within time (seconds_of by)) seen (seen_fit by of takes points all)))
    (omega (arith, window_weight grid by time between seen, seen_reached grid by points)))
    (grid_reach grid lawful)

-- ---- sums over the times of a grid

-- how much a value counts at a time
abbrev pub valued : ℤ → TimedValue → ℕ
valued time timed = cond (int_eq timed.time time) (magnitude timed.value) 0

abbrev values_back : Aligner → List Point → ℕ → ℤ → ℤ → List TimedValue
values_back by points n t e = flat_map (λ time. timed_values time (value_at by points time)) (times_back n t e)

other_time : (time t : ℤ) → t <ℤ time → int_eq t time ≡ false
other_time time t h = by_test (int_eq t time) (λ e. (Decides-int_eq t time).0 e)
  where
    by_test : (b : Bool) → (b ≡ true → t ≡ time) → b ≡ false
    by_test true same = let e : t ≡ time = same refl in absurd (omega (arith, ints, h, e))
    by_test false same = refl

none_valued : (time t : ℤ) (o : Option Value) → int_eq t time ≡ false → sum_by (valued time) (timed_values t o) ≡ 0
none_valued time t None e = refl
none_valued time t (Some v) e =
    let own : cond (int_eq t time) (magnitude v) 0 ≡ 0 = ap (λ b. cond b (magnitude v) 0) e in
    omega (arith, own, sum_by-cons (valued time) (record { time = t; value = v }) [])

one_valued : (b : Bool) (time t : ℤ) (o : Option Value) (most : ℕ) → int_eq t time ≡ b → amount o ≤ most
    → sum_by (valued time) (timed_values t o) ≤ most
one_valued b time t None most e within = omega arith
one_valued true time t (Some v) most e within =
    let own : cond (int_eq t time) (magnitude v) 0 ≡ magnitude v = ap (λ c. cond c (magnitude v) 0) e in
    omega (arith, own, within, sum_by-cons (valued time) (record { time = t; value = v }) [])
one_valued false time t (Some v) most e within =
    let own : cond (int_eq t time) (magnitude v) 0 ≡ 0 = ap (λ c. cond c (magnitude v) 0) e in
    omega (arith, own, sum_by-cons (valued time) (record { time = t; value = v }) [])

-- no earlier time counts
earlier_none : (by : Aligner) (points : List Point) (time e : ℤ) → pos 1 ≤ℤ e → (n : ℕ) (t : ℤ) → t <ℤ time
    → sum_by (valued time) (values_back by points n t e) ≡ 0
earlier_none by points time e step zero t h = refl
earlier_none by points time e step (suc n) t h =
    let first = none_valued time t (value_at by points t) (other_time time t h) in
    let rest = earlier_none by points time e step n (t -ℤ e) (omega (arith, ints, h, step)) in
    omega (
      arith,
      first,
      rest,
      sum_by-append (valued time) (timed_values t (value_at by points t))
          (values_back by points n (t -ℤ e) e),
    )

once_by : (b : Bool) (by : Aligner) (points : List Point) (time e : ℤ) (most : ℕ) → pos 1 ≤ℤ e → (n : ℕ) (t : ℤ)
    → int_eq t time ≡ b
    → amount (value_at by points t) ≤ most → sum_by (valued time) (values_back by points n (t -ℤ e) e) ≤ most
    → sum_by (valued time) (timed_values t (value_at by points t) ++ values_back by points n (t -ℤ e) e) ≤ most
once_by true by points time e most step n t is own rest =
    let same : t ≡ time = (Decides-int_eq t time).0 is in
    let first = one_valued true time t (value_at by points t) most is own in
    let none = earlier_none by points time e step n (t -ℤ e) (omega (arith, ints, same, step)) in
    omega (
      arith,
      first,
      none,
      sum_by-append (valued time) (timed_values t (value_at by points t))
          (values_back by points n (t -ℤ e) e),
    )
once_by false by points time e most step n t is own rest =
    let first = none_valued time t (value_at by points t) is in
    omega (
      arith,
      first,
      rest,
      sum_by-append (valued time) (timed_values t (value_at by points t))
          (values_back by points n (t -ℤ e) e),
    )

-- at most one of the times counts
counted_once : (by : Aligner) (points : List Point) (time e : ℤ) (most : ℕ) → pos 1 ≤ℤ e → (n : ℕ) (t : ℤ)
    → AllByRecursion (λ at. amount (value_at by points at) ≤ most) (times_back n t e)
    → sum_by (valued time) (values_back by points n t e) ≤ most
counted_once by points time e most step zero t all = omega arith
counted_once by points time e most step (suc n) t all =
    once_by (int_eq t time) by points time e most step n t refl all.0
    (counted_once by points time e most step n (t -ℤ e) all.1)

within_amount : (of : ValueType) (whole : ℕ) (o : Option Value) → ValueWithin of whole o → amount o ≤ whole
within_amount of whole None fit = omega arith
within_amount of whole (Some v) fit = fit.1

-- what a series counts at a time is no more than its points in reach
pub series_within : (grid : Grid) → IsLawfulGrid grid → (by : Aligner) (of : ValueType) → Takes by of
    → (points : List Point)
    → AllByRecursion (PointFits of) points → (time : ℤ)
    → sum_by (valued time) (aligned_values by grid points) ≤ sum_by (reached grid by) points
series_within grid lawful by of takes points all time =
    let most = sum_by (reached grid by) points in
    let every = lawful.every in
    counted_once by points time grid.every most every.0 (time_count grid) grid.moment
    (all-map (λ at. ValueWithin of most (value_at by points at)) (λ at. amount (value_at by points at) ≤ most)
    (grid_times grid)
    (λ at fit. within_amount of most (value_at by points at) fit)
    (value_within grid lawful by of takes points all))

all_timed : (P : Value → Type 0) (by : Aligner) (points : List Point) (n : ℕ) (t e : ℤ)
    → AllByRecursion (λ at. (v : Value) → value_at by points at ≡ Some v → P v) (times_back n t e)
    → AllByRecursion (λ (timed : TimedValue). P timed.value) (values_back by points n t e)
all_timed P by points zero t e all = tt
all_timed P by points (suc n) t e all =
    all_append (λ (timed : TimedValue). P timed.value) (timed_values t (value_at by points t))
    (values_back by points n (t -ℤ e) e)
    (by_value (value_at by points t) all.0) (all_timed P by points n (t -ℤ e) e all.1)
  where
    by_value : (o : Option Value) → ((v : Value) → o ≡ Some v → P v)
        → AllByRecursion (λ (timed : TimedValue). P timed.value) (timed_values t o)
    by_value None own = tt
    by_value (Some v) own = (own v refl, tt)

-- the most that a value has once it is aligned
abbrev pub most_of : Aligner → ℕ → ℕ
most_of (aligner.Delta seconds) whole = whole
most_of (aligner.Increase seconds) whole = whole
most_of (aligner.NextOlder seconds) whole = 2 ^ 63

made_small : (by : Aligner) (of : ValueType) (points : List Point) → AllByRecursion (SeenFits by of) points
    → (whole : ℕ) (o : Option Value) → o ≡ value_made by points
    → ValueWithin of whole o → ValueWithin of (most_of by whole) o
made_small (aligner.Delta seconds) of points all whole o is fit = fit
made_small (aligner.Increase seconds) of points all whole o is fit = fit
made_small (aligner.NextOlder seconds) of points all whole None is fit = tt
made_small (aligner.NextOlder seconds) of points all whole (Some v) is fit =
    let P : Option Value → Type 0 = λ p. amount p ≤ 2 ^ 63 in
    (fit.0, subst P (sym is) (newest_small of points all))

some_within : (of : ValueType) (whole : ℕ) (o : Option Value) → ValueWithin of whole o → (v : Value) → o ≡ Some v
    → HasType of v × (magnitude v ≤ whole)
some_within of whole None fit v e = absurd (nothing_is v e)
some_within of whole (Some x) fit v e =
    let P : Value → Type 0 = λ y. HasType of y × (magnitude y ≤ whole) in
    subst P (same_item x v e) fit

-- the values of an aligned series
pub aligned_fit : (grid : Grid) → IsLawfulGrid grid → (by : Aligner) (of : ValueType) → Takes by of
    → (points : List Point)
    → AllByRecursion (PointFits of) points
    → AllByRecursion (λ (timed : TimedValue). HasType of timed.value
    × (magnitude timed.value ≤ most_of by (sum_by (reached grid by) points)))
    (aligned_values by grid points)
aligned_fit grid lawful by of takes points all =
    let whole = sum_by (reached grid by) points in
    let seen = seen_as by points in
    all_timed (λ v. HasType of v × (magnitude v ≤ most_of by whole)) by points (time_count grid) grid.moment
    grid.every
    (all-map (λ at. ValueWithin of whole (value_at by points at))
    (λ at. (v : Value) → value_at by points at ≡ Some v → HasType of v × (magnitude v ≤ most_of by whole))
    (grid_times grid)
    (λ at fit. some_within of (most_of by whole) (value_at by points at)
    (made_small by of (window_of at (seconds_of by) seen)
    (all-filter (SeenFits by of) (ends_within at (seconds_of by)) seen (seen_fit by of takes points all)) whole
    (value_at by points at) refl fit))
    (value_within grid lawful by of takes points all))

-- ---- what alignment asks

can_add : (of : ValueType) → is_kind_met kind.Delta of ≡ true → (a b : Value) → HasType of a → HasType of b
    → CanAdd a b
can_add type.Int met (value.Int y) (value.Int z) h k = tt
can_add type.Int met (value.Int y) (value.Bool b) h k = absurd k
can_add type.Int met (value.Int y) (value.Text s) h k = absurd k
can_add type.Int met (value.Int y) (value.Dist counts) h k = absurd k
can_add type.Int met (value.Bool b) z h k = absurd h
can_add type.Int met (value.Text s) z h k = absurd h
can_add type.Int met (value.Dist counts) z h k = absurd h
can_add (type.Dist bounds) met (value.Dist counts) (value.Dist others) h k = k ∙ sym h
can_add (type.Dist bounds) met (value.Dist counts) (value.Int z) h k = absurd k
can_add (type.Dist bounds) met (value.Dist counts) (value.Bool b) h k = absurd k
can_add (type.Dist bounds) met (value.Dist counts) (value.Text s) h k = absurd k
can_add (type.Dist bounds) met (value.Int y) z h k = absurd h
can_add (type.Dist bounds) met (value.Bool b) z h k = absurd h
can_add (type.Dist bounds) met (value.Text s) z h k = absurd h
can_add type.Bool met a b h k = absurd cc
can_add type.Text met a b h k = absurd cc

pub can_add_all : (of : ValueType) → is_kind_met kind.Delta of ≡ true → (values : List Value)
    → AllByRecursion (HasType of) values → CanAddAll values
can_add_all of met [] all = tt
can_add_all of met (first ∷ values) all =
    all-map (HasType of) (CanAdd first) (first ∷ values) (λ v h. can_add of met first v all.0 h) all

-- totals are numbers
number_is : (of : ValueType) → is_kind_met kind.Cumulative of ≡ true → (v : Value) → HasType of v → IsNumber v
number_is type.Int met (value.Int z) h = tt
number_is type.Int met (value.Bool b) h = absurd h
number_is type.Int met (value.Text s) h = absurd h
number_is type.Int met (value.Dist counts) h = absurd h
number_is type.Bool met v h = absurd cc
number_is type.Text met v h = absurd cc
number_is (type.Dist bounds) met v h = absurd cc

pub are_numbers : (of : ValueType) → is_kind_met kind.Cumulative of ≡ true → (values : List Value)
    → AllByRecursion (HasType of) values → AllByRecursion IsNumber values
are_numbers of met values all = all-map (HasType of) IsNumber values (λ v h. number_is of met v h) all

newest_light : (of : ValueType) (points : List Point) → AllByRecursion (PointFits of) points
    → sum_by weight (option_to_list (newest_point points)) ≤ 2 ^ 63
newest_light of [] all = omega arith
newest_light of (point ∷ []) all = omega (arith, sum_by-cons weight point [], all.0.1)
newest_light of (point ∷ next ∷ points) all = newest_light of (next ∷ points) all.1

-- a window and the point before it weigh little more than the window's increases may
pub earlier_weight : (grid : Grid) (seconds time : ℤ) → IsBetween grid time → (of : ValueType) (points : List Point)
    → AllByRecursion (PointFits of) points
    → sum_by magnitude (values_of (window_with_earlier time seconds points))
    ≤ 2 ^ 63 + sum_by (reached grid (aligner.Increase seconds)) points
earlier_weight grid seconds time between of points all =
    let by = aligner.Increase seconds in
    let early = ended_by (time -ℤ seconds) points in
    let window = window_of time seconds points in
    let seen = all-map (PointFits of) (SeenFits by of) window (λ p fit. (fit.0, omega (arith, fit.1)))
    (all-filter (PointFits of) (ends_within time seconds) points all) in
    omega (
      arith,
      sum_of_values (window_with_earlier time seconds points),
      sum_by-append weight (option_to_list (newest_point early)) window,
      newest_light of early (all-filter (PointFits of) (λ (p : Point). int_le p.end (time -ℤ seconds)) points all),
      weights_less by of window seen,
      window_weight grid by time between points,
    )
