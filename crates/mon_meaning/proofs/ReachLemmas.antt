-- Points in reach: what an alignment sees of a series, it sees of those, and for increases of the newest point before
-- them too.
use Rattle.std.proofs.Common.{◌≡◌, ℕ, zero, suc, ◌-◌, ◌*◌, ℤ, pos, ◌-ℤ◌, ◌<ℤ◌, ◌≤ℤ◌, Bool, true, false, ◌&&◌, List}
use Rattle.std.proofs.Common.{[], ◌∷◌, ◌++◌, ◌≤◌, Option, Some, None, IfSome, cond, sum_by, unsigned_abs, refl, sym, ap}
use Rattle.std.proofs.Common.{subst, ◌∙◌, arith}
use Rattle.std.specs.Prelude.{int_le, int_lt}
use Rattle.std.specs.List.{AllByRecursion, filter, flat_map}
use Rattle.std.proofs.lemmas.Int.{ints}
use Rattle.std.specs.Option.{option_or, option_to_list}
use Rattle.std.proofs.lemmas.List.Elements.{filter_agree, filter-append}
use Rattle.mon_fold.proofs.AlignmentLemmas.{alike_filtered}
use Rattle.mon_value.specs.Grids.{CanAddUnder, CanAlign, SumFits, aligned_values, seconds_of, timed_values, value_at}
use Rattle.mon_value.specs.Grids.{value_made, IsLawfulGrid, grid_times, least_time, time_count, times_back, ends_within}
use Rattle.mon_value.specs.Grids.{EndsRise, IsDuration, IsNumber, ended_by, most_aligned, newest_or, newest_point, values_of}
use Rattle.mon_value.specs.Grids.{window_of}
use Rattle.mon_value.specs.Increases.{increase, increases}
use Rattle.mon_value.specs.Values.{magnitude}
use Rattle.mon_value.specs.declared.aligners.Aligner.{Aligner}
use Rattle.mon_value.specs.declared.aligners.Aligner.TheVariants as aligner
use Rattle.mon_value.specs.declared.grids.Grid.{Grid}
use Rattle.mon_value.specs.declared.rows.Point.{Point}
use Rattle.typed_trees.specs.Meaning.{is_in_reach}
use Rattle.mon_meaning.specs.within.Reach.{points_wanted, points_within_reach, reach_start}
use Rattle.mon_meaning.proofs.FilterLemmas.{all-filter, filter_twice}
use Rattle.mon_meaning.proofs.WindowLemmas.{EndsRise-filter}
use Rattle.mon_value.proofs.GridLemmas.{more_times}
use Rattle.mon_value.proofs.IncreaseLemmas.{after_all, increases_window, newest_cons, none_ended}

-- a time between the least of a grid and its moment
abbrev pub IsWithin : Grid → ℤ → Type 0
IsWithin grid time = (least_time grid ≤ℤ time) × (time ≤ℤ grid.moment)

within_from : (n : ℕ) (time every least moment : ℤ) (p : ℕ) → every ≡ pos p → least ≤ℤ (time -ℤ pos (n * p))
    → time ≤ℤ moment → AllByRecursion (λ t. (least ≤ℤ t) × (t ≤ℤ moment)) (times_back (suc n) time every)
within_from zero time every least moment p step low high = ((omega (arith, ints), high), tt)
within_from (suc n) time every least moment p step low high =
    let more = more_times n p in (
      (omega (arith, ints), high),
      within_from n (time -ℤ every) every least moment p step (omega (arith, ints)) (omega (arith, ints)),
    )

within_back : (n : ℕ) (time every least moment : ℤ) (p : ℕ) → every ≡ pos p → least ≤ℤ (time -ℤ pos ((n - 1) * p))
    → time ≤ℤ moment → AllByRecursion (λ t. (least ≤ℤ t) × (t ≤ℤ moment)) (times_back n time every)
within_back zero time every least moment p step low high = tt
within_back (suc n) time every least moment p step low high =
    let one : suc n - 1 ≡ n = omega arith in
    within_from n time every least moment p step (subst (λ k. least ≤ℤ (time -ℤ pos (k * p))) one low) high

-- each time of a grid is
pub times_within : (grid : Grid) → IsLawfulGrid grid → AllByRecursion (IsWithin grid) (grid_times grid)
times_within grid lawful =
    let every = lawful.every in
    within_back (time_count grid) grid.moment grid.every (least_time grid) grid.moment (unsigned_abs grid.every)
    (omega (arith, ints)) (omega (arith, ints)) (omega (arith, ints))

seen_in_reach : (a b c d : Bool) → (a ≡ true → c ≡ true) → (b ≡ true → d ≡ true) → ((a && b) && (c && d)) ≡ (a && b)
seen_in_reach true true c d h g = let e = h refl in let f = g refl in rw (e, f) refl
seen_in_reach true false c d h g = refl
seen_in_reach false b c d h g = refl

-- what an alignment sees at a time is in reach
module _ (grid : Grid) (by : Aligner) (time : ℤ) (within : IsWithin grid time) where
  seen : (point : Point) → (ends_within time (seconds_of by) point && is_in_reach grid by point) ≡ ends_within time
      (seconds_of by) point
  seen point =
      seen_in_reach (int_lt (time -ℤ seconds_of by) point.end) (int_le point.end time)
      (int_lt (least_time grid -ℤ seconds_of by) point.end) (int_le point.end grid.moment)
      (λ e. grind (arith, ints)) (λ e. grind (arith, ints))

  pub window_in_reach : (points : List Point)
      → window_of time (seconds_of by) (points_within_reach grid by points) ≡ window_of time (seconds_of by) points
  window_in_reach points =
      filter_twice (is_in_reach grid by) (ends_within time (seconds_of by)) points ∙ filter_agree _ _ seen points

-- ---- the newest earlier point

early : (start : ℤ) (points : List Point) → AllByRecursion (λ (p : Point). p.end ≤ℤ start) (ended_by start points)
early start [] = tt
early start (p ∷ points) = early_by (int_le p.end start) refl (early start points)
  where
    early_by : (b : Bool) → int_le p.end start ≡ b
        → AllByRecursion (λ (q : Point). q.end ≤ℤ start) (ended_by start points)
        → AllByRecursion (λ (q : Point). q.end ≤ℤ start) (cond b (p ∷ ended_by start points) (ended_by start points))
    early_by true e rest = (grind (arith, ints), rest)
    early_by false e rest = rest

-- what holds of all points holds of the newest
newest_of_all : (P : Point → Type 0) (points : List Point) → AllByRecursion P points → IfSome (newest_point points) P
newest_of_all P [] all = tt
newest_of_all P (p ∷ []) all = all.0
newest_of_all P (p ∷ q ∷ points) all = newest_of_all P (q ∷ points) all.1

or_none : (o : Option Point) → option_or o None ≡ o
or_none None = refl
or_none (Some p) = refl

newest_behind : (o : Option Point) (points : List Point)
    → newest_point (option_to_list o ++ points) ≡ newest_or o points
newest_behind None points = sym (or_none (newest_point points))
newest_behind (Some p) points = sym (or_none (newest_point (p ∷ points))) ∙ newest_cons None p points

module _ (start time : ℤ) (order : start ≤ℤ time) where
  abbrev since : Point → Bool
  since point = int_lt start point.end && int_le point.end time

  -- the newest point that ends by a time is the newest of those since a start, or else of those up to it
  newest_since : (before : Option Point) (points : List Point) → EndsRise points
      → newest_or before (ended_by time points)
      ≡ newest_or (newest_or before (ended_by start points)) (filter since points)
  newest_since before [] rise = refl
  newest_since before (p ∷ points) rise =
      by_end (int_lt start p.end) (int_le p.end start) (int_le p.end time) refl refl refl
      (λ first. newest_since first points rise.1)
    where
      by_end : (late early now : Bool) → int_lt start p.end ≡ late → int_le p.end start ≡ early → int_le p.end time ≡ now
          → ((first : Option Point) → newest_or first (ended_by time points)
          ≡ newest_or (newest_or first (ended_by start points)) (filter since points))
          → newest_or before (cond now (p ∷ ended_by time points) (ended_by time points))
          ≡ newest_or (newest_or before (cond early (p ∷ ended_by start points) (ended_by start points)))
          (cond (late && now) (p ∷ filter since points) (filter since points))
      by_end true true now e f g rest = absurd (grind (arith, ints))
      by_end false false now e f g rest = absurd (grind (arith, ints))
      by_end false true false e f g rest = absurd (grind (arith, ints))
      by_end false true true e f g rest =
          newest_cons before p (ended_by time points)
          ∙ rest (Some p)
          ∙ ap (λ first. newest_or first (filter since points)) (sym (newest_cons before p (ended_by start points)))
      by_end true false false e f g rest = rest before
      by_end true false true e f g rest =
          let above = after_all start p.end points rise.0 (grind (arith, ints)) in
          let none : ended_by start points ≡ [] = none_ended start points above in
          newest_cons before p (ended_by time points)
          ∙ rest (Some p)
          ∙ ap (λ some. newest_or (newest_or (Some p) some) (filter since points)) none
          ∙ sym (newest_cons before p (filter since points))
          ∙ sym (ap (λ some. newest_or (newest_or before some) (p ∷ filter since points)) none)

-- ---- what increases want

later : (grid : Grid) (by : Aligner) (points : List Point)
    → AllByRecursion (λ (p : Point). reach_start grid by <ℤ p.end) (points_within_reach grid by points)
later grid by [] = tt
later grid by (p ∷ points) =
    by_start (int_lt (reach_start grid by) p.end) (int_le p.end grid.moment) refl (later grid by points)
  where
    by_start : (a b : Bool) → int_lt (reach_start grid by) p.end ≡ a
        → AllByRecursion (λ (q : Point). reach_start grid by <ℤ q.end) (points_within_reach grid by points)
        → AllByRecursion (λ (q : Point). reach_start grid by <ℤ q.end)
        (cond (a && b) (p ∷ points_within_reach grid by points) (points_within_reach grid by points))
    by_start true true e rest = (grind (arith, ints), rest)
    by_start true false e rest = rest
    by_start false b e rest = rest

rises_behind : (start : ℤ) (o : Option Point) (points : List Point) → IfSome o (λ (p : Point). p.end ≤ℤ start)
    → AllByRecursion (λ (p : Point). start <ℤ p.end) points → EndsRise points → EndsRise (option_to_list o ++ points)
rises_behind start None points ends all rise = rise
rises_behind start (Some p) points ends all rise = (after_all p.end start points all ends, rise)

module _ (grid : Grid) (seconds : ℤ) (points : List Point) (rise : EndsRise points) where
  abbrev grows : Aligner
  grows = aligner.Increase seconds

  abbrev first : Option Point
  first = newest_point (ended_by (reach_start grid grows) points)

  abbrev reached : List Point
  reached = points_within_reach grid grows points

  abbrev wanted : List Point
  wanted = points_wanted grid grows points

  first_ends : IfSome first (λ (p : Point). p.end ≤ℤ reach_start grid grows)
  first_ends =
      newest_of_all (λ p. p.end ≤ℤ reach_start grid grows) (ended_by (reach_start grid grows) points)
      (early (reach_start grid grows) points)

  rises : EndsRise wanted
  rises =
      rises_behind (reach_start grid grows) first reached first_ends (later grid grows points)
      (EndsRise-filter (is_in_reach grid grows) points rise)

  module _ (time : ℤ) (within : IsWithin grid time) (long : IsDuration seconds) where
    unseen : (o : Option Point) → IfSome o (λ (p : Point). p.end ≤ℤ reach_start grid grows)
        → window_of time seconds (option_to_list o) ≡ []
    unseen None ends = refl
    unseen (Some p) ends = by_test (int_lt (time -ℤ seconds) p.end) refl
      where
        by_test : (b : Bool) → int_lt (time -ℤ seconds) p.end ≡ b → cond (b && int_le p.end time) (p ∷ []) [] ≡ []
        by_test true e = absurd (grind (arith, ints))
        by_test false e = refl

    pub window_wanted : window_of time seconds wanted ≡ window_of time seconds points
    window_wanted =
        filter-append (ends_within time seconds) (option_to_list first) reached
        ∙ ap (λ front. front ++ window_of time seconds reached) (unseen first first_ends)
        ∙ window_in_reach grid grows time within points

    ended : (o : Option Point) → IfSome o (λ (p : Point). p.end ≤ℤ reach_start grid grows)
        → ended_by (time -ℤ seconds) (option_to_list o) ≡ option_to_list o
    ended None ends = refl
    ended (Some p) ends = by_test (int_le p.end (time -ℤ seconds)) refl
      where
        by_test : (b : Bool) → int_le p.end (time -ℤ seconds) ≡ b → cond b (p ∷ []) [] ≡ p ∷ []
        by_test true e = refl
        by_test false e = absurd (grind (arith, ints))

    since_reached : (p : Point)
        → (int_le p.end (time -ℤ seconds) && is_in_reach grid grows p)
        ≡ (int_lt (reach_start grid grows) p.end && int_le p.end (time -ℤ seconds))
    since_reached p =
        by_tests (int_le p.end (time -ℤ seconds)) (int_lt (reach_start grid grows) p.end) (int_le p.end grid.moment)
        (λ e. let high = within.1 in let some = long.0 in grind (arith, ints))
      where
        by_tests : (b a c : Bool) → (b ≡ true → c ≡ true) → (b && (a && c)) ≡ (a && b)
        by_tests true true c h = h refl
        by_tests true false c h = refl
        by_tests false true c h = refl
        by_tests false false c h = refl

    pub newest_wanted : newest_point (ended_by (time -ℤ seconds) wanted)
        ≡ newest_point (ended_by (time -ℤ seconds) points)
    newest_wanted =
        let until : Point → Bool = λ p. int_le p.end (time -ℤ seconds) in
        let start = reach_start grid grows in
        let order : start ≤ℤ (time -ℤ seconds) = omega (arith, ints, within.0) in
        ap newest_point
        (filter-append until (option_to_list first) reached
        ∙ (λ i. ended first first_ends i ++ (filter_twice (is_in_reach grid grows) until points
        ∙ filter_agree _ _ since_reached points) i))
        ∙ newest_behind first (filter (since start (time -ℤ seconds) order) points)
        ∙ sym (newest_since start (time -ℤ seconds) order None points rise
        ∙ ap (λ o. newest_or o (filter (since start (time -ℤ seconds) order) points)) (or_none first))
        ∙ or_none (newest_point (ended_by (time -ℤ seconds) points))

    pub increases_wanted : window_of time seconds (increases None wanted) ≡ window_of time seconds (increases None points)
    increases_wanted =
        increases_window time seconds long None wanted rises
        ∙ (λ i. increases (option_or (newest_wanted i) None) (window_wanted i))
        ∙ sym (increases_window time seconds long None points rise)

-- ---- values

value_wanted : (grid : Grid) (by : Aligner) (points : List Point) (time : ℤ) → IsWithin grid time
    → IsDuration (seconds_of by) → EndsRise points
    → value_at by (points_wanted grid by points) time ≡ value_at by points time
value_wanted grid (aligner.Delta seconds) points time within long rise =
    ap (value_made (aligner.Delta seconds)) (window_in_reach grid (aligner.Delta seconds) time within points)
value_wanted grid (aligner.NextOlder seconds) points time within long rise =
    ap (value_made (aligner.NextOlder seconds)) (window_in_reach grid (aligner.NextOlder seconds) time within points)
value_wanted grid (aligner.Increase seconds) points time within long rise =
    ap (value_made (aligner.Increase seconds)) (increases_wanted grid seconds points rise time within long)

values_wanted : (grid : Grid) (by : Aligner) (points : List Point) (times : List ℤ)
    → AllByRecursion (IsWithin grid) times
    → ((time : ℤ) → IsWithin grid time → value_at by (points_wanted grid by points) time ≡ value_at by points time)
    → flat_map (λ time. timed_values time (value_at by (points_wanted grid by points) time)) times
    ≡ flat_map (λ time. timed_values time (value_at by points time)) times
values_wanted grid by points [] all each = refl
values_wanted grid by points (time ∷ times) all each =
    let here = each time all.0 in
    let rest = values_wanted grid by points times all.1 each in
    λ i. timed_values time (here i) ++ rest i

-- a series aligned is what its wanted points are
pub aligned-wanted : (grid : Grid) (by : Aligner) (points : List Point) → IsLawfulGrid grid
    → IsDuration (seconds_of by) → EndsRise points
    → aligned_values by grid (points_wanted grid by points) ≡ aligned_values by grid points
aligned-wanted grid by points lawful long rise =
    values_wanted grid by points (grid_times grid) (times_within grid lawful)
    (λ time within. value_wanted grid by points time within long rise)

-- ---- nothing in reach

none_grown : (time seconds : ℤ) (before : Option Point) (points : List Point) → window_of time seconds points ≡ []
    → window_of time seconds (increases before points) ≡ []
none_grown time seconds before [] none = refl
none_grown time seconds before (p ∷ points) none =
    by_test (ends_within time seconds p) none (none_grown time seconds (Some p) points)
  where
    by_test : (b : Bool) → cond b (p ∷ window_of time seconds points) (window_of time seconds points) ≡ []
        → (window_of time seconds points ≡ [] → window_of time seconds (increases (Some p) points) ≡ [])
        → cond b (record p { value = increase before p } ∷ window_of time seconds (increases (Some p) points))
        (window_of time seconds (increases (Some p) points)) ≡ []
    by_test true e rest = absurd cc
    by_test false e rest = rest e

module _ (grid : Grid) (time : ℤ) (within : IsWithin grid time) (points : List Point) where
  none_seen : (by : Aligner) → points_within_reach grid by points ≡ [] → window_of time (seconds_of by) points ≡ []
  none_seen by none =
      sym (window_in_reach grid by time within points) ∙ ap (window_of time (seconds_of by)) none

  value_unreached : (by : Aligner) → points_within_reach grid by points ≡ [] → value_at by points time ≡ None
  value_unreached (aligner.Delta seconds) none =
      ap (value_made (aligner.Delta seconds)) (none_seen (aligner.Delta seconds) none)
  value_unreached (aligner.NextOlder seconds) none =
      ap (value_made (aligner.NextOlder seconds)) (none_seen (aligner.NextOlder seconds) none)
  value_unreached (aligner.Increase seconds) none =
      ap (value_made (aligner.Increase seconds))
      (none_grown time seconds None points (none_seen (aligner.Increase seconds) none))

values_unreached : (grid : Grid) (by : Aligner) (points : List Point) (times : List ℤ)
    → AllByRecursion (IsWithin grid) times → points_within_reach grid by points ≡ []
    → flat_map (λ time. timed_values time (value_at by points time)) times ≡ []
values_unreached grid by points [] all none = refl
values_unreached grid by points (time ∷ times) all none =
    let here = value_unreached grid time all.0 points by none in
    let rest = values_unreached grid by points times all.1 none in
    λ i. timed_values time (here i) ++ rest i

-- a series without points in reach has no values
pub aligned-unreached : (grid : Grid) (by : Aligner) (points : List Point) → IsLawfulGrid grid
    → points_within_reach grid by points ≡ [] → aligned_values by grid points ≡ []
aligned-unreached grid by points lawful none =
    values_unreached grid by points (grid_times grid) (times_within grid lawful) none

-- ---- which series can be aligned

numbers_from : (points : List Point) → AllByRecursion IsNumber (values_of points)
    → AllByRecursion (λ (p : Point). IsNumber p.value) points
numbers_from [] all = tt
numbers_from (p ∷ points) all = (all.0, numbers_from points all.1)

numbers_of : (points : List Point) → AllByRecursion (λ (p : Point). IsNumber p.value) points
    → AllByRecursion IsNumber (values_of points)
numbers_of [] all = tt
numbers_of (p ∷ points) all = (all.0, numbers_of points all.1)

behind_number : (o : Option Point) (points : List Point) → IfSome o (λ (p : Point). IsNumber p.value)
    → AllByRecursion (λ (p : Point). IsNumber p.value) points
    → AllByRecursion (λ (p : Point). IsNumber p.value) (option_to_list o ++ points)
behind_number None points is all = all
behind_number (Some p) points is all = (is, all)

alike_wanted : (grid : Grid) (by : Aligner) (points : List Point) → CanAddUnder by points
    → CanAddUnder by (points_wanted grid by points)
alike_wanted grid (aligner.NextOlder seconds) points alike = tt
alike_wanted grid (aligner.Delta seconds) points alike =
    alike_filtered (is_in_reach grid (aligner.Delta seconds)) points alike
alike_wanted grid (aligner.Increase seconds) points alike =
    let by : Aligner = aligner.Increase seconds in
    let each = numbers_from points alike in
    let ended = ended_by (reach_start grid by) points in
    numbers_of (points_wanted grid by points)
    (behind_number (newest_point ended) (points_within_reach grid by points)
    (newest_of_all (λ p. IsNumber p.value) ended
    (all-filter (λ (p : Point). IsNumber p.value) (λ (p : Point). int_le p.end (reach_start grid by)) points each))
    (all-filter (λ (p : Point). IsNumber p.value) (is_in_reach grid by) points each))

sum_wanted : (grid : Grid) (by : Aligner) (points : List Point) (time : ℤ) → IsWithin grid time
    → IsDuration (seconds_of by) → EndsRise points → SumFits by points time → SumFits by (points_wanted grid by points) time
sum_wanted grid (aligner.NextOlder seconds) points time within long rise fits = tt
sum_wanted grid (aligner.Delta seconds) points time within long rise fits =
    rw (window_in_reach grid (aligner.Delta seconds) time within points) fits
sum_wanted grid (aligner.Increase seconds) points time within long rise fits =
    subst (λ (ps : List Point). sum_by magnitude (values_of ps) ≤ most_aligned)
    (λ i. option_to_list (sym (newest_wanted grid seconds points rise time within long) i)
    ++ sym (window_wanted grid seconds points rise time within long) i)
    fits

sums_wanted : (grid : Grid) (by : Aligner) (points : List Point) (times : List ℤ)
    → AllByRecursion (IsWithin grid) times → IsDuration (seconds_of by) → EndsRise points
    → AllByRecursion (SumFits by points) times → AllByRecursion (SumFits by (points_wanted grid by points)) times
sums_wanted grid by points [] within long rise all = tt
sums_wanted grid by points (time ∷ times) within long rise all = (
  sum_wanted grid by points time within.0 long rise all.0,
  sums_wanted grid by points times within.1 long rise all.1,
)

pub CanAlign-wanted : (grid : Grid) (by : Aligner) (points : List Point) → EndsRise points → CanAlign by grid points
    → CanAlign by grid (points_wanted grid by points)
CanAlign-wanted grid by points rise can = record {
  looks_back = can.looks_back;
  lawful = can.lawful;
  alike = alike_wanted grid by points can.alike;
  sums = sums_wanted grid by points (grid_times grid) (times_within grid can.lawful) can.looks_back rise can.sums;
}
