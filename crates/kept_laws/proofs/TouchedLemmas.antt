-- What one point more changes of what an aligner makes at the times of a grid of the points that it sees.
use Rattle.std.proofs.Common.{◌≡◌, ◌∙◌, ℕ, zero, suc, ℤ, pos, ◌+ℤ◌, ◌-ℤ◌, ◌<ℤ◌, Bool, true, false, ◌&&◌, cond}
use Rattle.std.proofs.Common.{Option, Some, None, option_map, List, [], ◌∷◌, ◌++◌, append-nil, append_assoc, unsigned_abs}
use Rattle.std.proofs.Common.{refl, sym, ap, subst, arith}
use Rattle.std.specs.Prelude.{int_le, int_lt}
use Rattle.std.specs.List.{AllByRecursion, filter, flat_map}
use Rattle.std.specs.Option.{option_or}
use Rattle.std.proofs.lemmas.Int.{ints}
use Rattle.std.proofs.lemmas.Bool.{cond_both}
use Rattle.std.proofs.lemmas.List.{map-append}
use Rattle.std.proofs.lemmas.List.Elements.{filter-append, filter_map-append}
use Rattle.mon_value.specs.Grids.{seconds_of, timed_values, value_made, window_of, ends_within}
use Rattle.mon_value.specs.Grids.{IsLawfulGrid, IsDuration, EndsRise, grid_times, time_count, times_back, newest_point}
use Rattle.mon_value.specs.Grids.{CanAdd, CanAddAll, values_of}
use Rattle.mon_value.specs.Groups.{total_of, sum_of, where_any, number_in, counts_in, numbers_in, distributions_in}
use Rattle.mon_value.specs.Groups.{counts_added, counts_of}
use Rattle.mon_value.specs.declared.aligners.Aligner.{Aligner}
use Rattle.mon_value.specs.declared.aligners.Aligner.TheVariants.{Delta, Increase, NextOlder}
use Rattle.mon_value.specs.declared.grids.Grid.{Grid}
use Rattle.mon_value.specs.declared.grids.TimedValue.{TimedValue}
use Rattle.mon_value.specs.declared.rows.Point.{Point}
use Rattle.mon_value.specs.declared.values.Value.{Value}
use Rattle.mon_value.specs.declared.values.Value.TheVariants as value
use Rattle.mon_value.proofs.AggregateLemmas.{sum_of-append}
use Rattle.mon_value.proofs.CountsLemmas.{counts_added-assoc, counts_added-nil, counts_of-append}
use Rattle.kept_laws.specs.Touching.{sum_with, touches, value_with}

-- a test that no item passes
none_kept : {A : Type 0} (test : A → Bool) (xs : List A) → AllByRecursion (λ x. test x ≡ false) xs → filter test xs ≡ []
none_kept test [] all = refl
none_kept test (x ∷ xs) all =
    ap (λ b. cond b (x ∷ filter test xs) (filter test xs)) all.0 ∙ none_kept test xs all.1

-- ---- what one value more comes to

newest_last : (points : List Point) (point : Point) → newest_point (points ++ point ∷ []) ≡ Some point
newest_last [] point = refl
newest_last (p ∷ []) point = refl
newest_last (p ∷ q ∷ points) point = newest_last (q ∷ points) point

no_numbers : (counts : List ℕ) (values : List Value) → AllByRecursion (CanAdd (value.Dist counts)) values
    → numbers_in values ≡ []
no_numbers counts [] all = refl
no_numbers counts (value.Int z ∷ values) all = absurd all.0
no_numbers counts (value.Bool p ∷ values) all = absurd all.0
no_numbers counts (value.Text s ∷ values) all = absurd all.0
no_numbers counts (value.Dist more ∷ values) all = no_numbers counts values all.1

total-distributions : (counts : List ℕ) (values : List Value) → AllByRecursion (CanAdd (value.Dist counts)) values
    → total_of (value.Dist counts ∷ values)
    ≡ Some (value.Dist (counts_added counts (counts_of (distributions_in values))))
total-distributions counts values all =
    ap (λ numbers. option_or (option_map value.Int (where_any numbers (sum_of numbers)))
    (Some (value.Dist (counts_added counts (counts_of (distributions_in values))))))
    (no_numbers counts values all)

all_of : (P : Value → Type 0) (xs ys : List Value) → AllByRecursion P (xs ++ ys) → AllByRecursion P xs
all_of P [] ys all = tt
all_of P (x ∷ xs) ys all = (all.0, all_of P xs ys all.1)

last_of : {A : Type 0} (P : A → Type 0) (xs : List A) (x : A) → AllByRecursion P (xs ++ x ∷ []) → P x
last_of P [] x all = all.0
last_of P (y ∷ xs) x all = last_of P xs x all.1

numbers_more : (z : ℤ) (values : List Value) (more : Value) → CanAdd (value.Int z) more
    → total_of (value.Int z ∷ (values ++ more ∷ []))
    ≡ Some (sum_with (value.Int (z +ℤ sum_of (numbers_in values))) more)
numbers_more z values (value.Int y) can =
    let all : sum_of (numbers_in (values ++ value.Int y ∷ [])) ≡ sum_of (numbers_in values) +ℤ (y +ℤ pos 0)
    = ap sum_of (filter_map-append number_in values (value.Int y ∷ []))
    ∙ sum_of-append (numbers_in values) (y ∷ []) in
    let sum : z +ℤ sum_of (numbers_in (values ++ value.Int y ∷ [])) ≡ (z +ℤ sum_of (numbers_in values)) +ℤ y
    = omega (arith, ints) in
    ap (λ n. Some (value.Int n)) sum
numbers_more z values (value.Bool p) can = absurd can
numbers_more z values (value.Text s) can = absurd can
numbers_more z values (value.Dist counts) can = absurd can

distributions_more : (counts : List ℕ) (values : List Value) (more : Value)
    → AllByRecursion (CanAdd (value.Dist counts)) (values ++ more ∷ [])
    → CanAdd (value.Dist counts) more
    → total_of (value.Dist counts ∷ (values ++ more ∷ []))
    ≡ Some (sum_with (value.Dist (counts_added counts (counts_of (distributions_in values)))) more)
distributions_more counts values (value.Dist others) all can =
    total-distributions counts (values ++ value.Dist others ∷ []) all
    ∙ ap (λ c. Some (value.Dist (counts_added counts (counts_of c))))
    (filter_map-append counts_in values (value.Dist others ∷ []))
    ∙ ap (λ c. Some (value.Dist (counts_added counts c))) (counts_of-append (distributions_in values) (others ∷ []))
    ∙ ap (λ c. Some (value.Dist c))
    (sym (counts_added-assoc counts (counts_of (distributions_in values)) (counts_added others [])))
    ∙ ap (λ c. Some (value.Dist (counts_added (counts_added counts (counts_of (distributions_in values))) c)))
    (counts_added-nil others)
distributions_more counts values (value.Int y) all can = absurd can
distributions_more counts values (value.Bool p) all can = absurd can
distributions_more counts values (value.Text s) all can = absurd can

single : (more : Value) → CanAdd more more → total_of (more ∷ []) ≡ Some more
single (value.Int y) can = let same : y +ℤ pos 0 ≡ y = omega (arith, ints) in ap (λ n. Some (value.Int n)) same
single (value.Bool p) can = absurd can
single (value.Text s) can = absurd can
single (value.Dist counts) can = ap (λ c. Some (value.Dist c)) (counts_added-nil counts)

more_by : (seconds : ℤ) (first : Value) (values : List Value) (more : Value)
    → AllByRecursion (CanAdd first) (values ++ more ∷ [])
    → total_of (first ∷ (values ++ more ∷ []))
    ≡ Some (value_with (Delta seconds) (total_of (first ∷ values)) more)
more_by seconds (value.Int z) values more all = numbers_more z values more (last_of _ values more all)
more_by seconds (value.Dist counts) values more all =
    distributions_more counts values more all (last_of _ values more all)
    ∙ ap (λ before. Some (value_with (Delta seconds) before more))
    (sym (total-distributions counts values (all_of _ values (more ∷ []) all)))
more_by seconds (value.Bool p) values more all = absurd (last_of (CanAdd (value.Bool p)) values more all)
more_by seconds (value.Text s) values more all = absurd (last_of (CanAdd (value.Text s)) values more all)

total_more : (seconds : ℤ) (values : List Value) (more : Value) → CanAddAll (values ++ more ∷ [])
    → total_of (values ++ more ∷ []) ≡ Some (value_with (Delta seconds) (total_of values) more)
total_more seconds [] more alike = single more alike.0
total_more seconds (first ∷ values) more alike = more_by seconds first values more alike.1

-- points that are seen and can be added, where they are
abbrev pub CanMake : Aligner → List Point → Type 0
CanMake (NextOlder seconds) seen = Unit {0}
CanMake (Delta seconds) seen = CanAddAll (values_of seen)
CanMake (Increase seconds) seen = CanAddAll (values_of seen)

added_alike : (seconds : ℤ) (before : Option Value) (more : Value)
    → value_with (Delta seconds) before more ≡ value_with (Increase seconds) before more
added_alike seconds None more = refl
added_alike seconds (Some before) more = refl

made_more : (by : Aligner) (seen : List Point) (point : Point) → CanMake by (seen ++ point ∷ [])
    → value_made by (seen ++ point ∷ []) ≡ Some (value_with by (value_made by seen) point.value)
made_more (NextOlder seconds) seen point can =
    ap (option_map (λ (p : Point). p.value)) (newest_last seen point)
made_more (Delta seconds) seen point can =
    let both : values_of (seen ++ point ∷ []) ≡ values_of seen ++ point.value ∷ []
    = map-append (λ (p : Point). p.value) seen (point ∷ []) in
    ap total_of both ∙ total_more seconds (values_of seen) point.value (subst CanAddAll both can)
made_more (Increase seconds) seen point can =
    let both : values_of (seen ++ point ∷ []) ≡ values_of seen ++ point.value ∷ []
    = map-append (λ (p : Point). p.value) seen (point ∷ []) in
    ap total_of both ∙ total_more seconds (values_of seen) point.value (subst CanAddAll both can)
    ∙ ap (λ v. Some v) (added_alike seconds (total_of (values_of seen)) point.value)

nothing_made : (by : Aligner) → value_made by [] ≡ None
nothing_made (NextOlder seconds) = refl
nothing_made (Delta seconds) = refl
nothing_made (Increase seconds) = refl

-- ---- which of the values that can be added are seen

add_between : (v a b : Value) → CanAdd v a → CanAdd v b → CanAdd a b
add_between (value.Int x) (value.Int y) (value.Int z) p q = tt
add_between (value.Int x) (value.Int y) b p q = absurd q
add_between (value.Int x) a b p q = absurd p
add_between (value.Dist x) (value.Dist y) (value.Dist z) p q = q ∙ sym p
add_between (value.Dist x) (value.Dist y) b p q = absurd q
add_between (value.Dist x) a b p q = absurd p
add_between (value.Bool x) a b p q = absurd p
add_between (value.Text x) a b p q = absurd p

all_between : (v a : Value) (values : List Value) → CanAdd v a → AllByRecursion (CanAdd v) values
    → AllByRecursion (CanAdd a) values
all_between v a [] p all = tt
all_between v a (b ∷ values) p all = (add_between v a b p all.0, all_between v a values p all.1)

all_alike : (v : Value) (values : List Value) → AllByRecursion (CanAdd v) values → CanAddAll values
all_alike v [] all = tt
all_alike v (a ∷ values) all = all_between v a (a ∷ values) all.0 all

all_filtered : (v : Value) (test : Point → Bool) (points : List Point) → AllByRecursion (CanAdd v) (values_of points)
    → AllByRecursion (CanAdd v) (values_of (filter test points))
all_filtered v test [] all = tt
all_filtered v test (p ∷ points) all =
    cond_both (test p) _ _ (λ ps. AllByRecursion (CanAdd v) (values_of ps))
    (λ e. (all.0, all_filtered v test points all.1)) (λ e. all_filtered v test points all.1)

alike_filtered : (by : Aligner) (test : Point → Bool) (points : List Point) → CanMake by points
    → CanMake by (filter test points)
alike_filtered (NextOlder seconds) test points alike = tt
alike_filtered (Delta seconds) test [] alike = tt
alike_filtered (Delta seconds) test (p ∷ points) alike = all_alike p.value (values_of (filter test (p ∷ points)))
    (all_filtered p.value test (p ∷ points) alike)
alike_filtered (Increase seconds) test [] alike = tt
alike_filtered (Increase seconds) test (p ∷ points) alike = all_alike p.value (values_of (filter test (p ∷ points)))
    (all_filtered p.value test (p ∷ points) alike)

-- ---- a point that ends later than all others

ends_before : (points : List Point) (point : Point) → EndsRise (points ++ point ∷ [])
    → AllByRecursion (λ (p : Point). p.end <ℤ point.end) points
ends_before [] point rise = tt
ends_before (p ∷ points) point rise =
    (last_of (λ (later : Point). p.end <ℤ later.end) points point rise.0, ends_before points point rise.1)

module _ (by : Aligner) (points : List Point) (point : Point) (long : IsDuration (seconds_of by))
    (rise : EndsRise (points ++ point ∷ [])) (alike : CanMake by (points ++ point ∷ [])) where
  abbrev early : TimedValue → Bool
  early one = int_lt one.time point.end

  -- what is made at a time of some points that are seen
  abbrev pub made_at : List Point → ℤ → Option Value
  made_at seen time = value_made by (window_of time (seconds_of by) seen)

  abbrev before_at : ℤ → List TimedValue
  before_at time = timed_values time (made_at points time)

  abbrev after_at : ℤ → List TimedValue
  after_at time = timed_values time (made_at (points ++ point ∷ []) time)

  abbrev touched_at : ℤ → List TimedValue
  touched_at time = timed_values time (Some (value_with by (made_at points time) point.value))

  window_both : (time : ℤ) (b : Bool) → ends_within time (seconds_of by) point ≡ b
      → window_of time (seconds_of by) (points ++ point ∷ [])
      ≡ window_of time (seconds_of by) points ++ cond b (point ∷ []) []
  window_both time b e =
      filter-append (ends_within time (seconds_of by)) points (point ∷ [])
      ∙ ap (λ c. window_of time (seconds_of by) points ++ cond c (point ∷ []) []) e

  -- seen at a time
  seen_there : (time : ℤ) → ends_within time (seconds_of by) point ≡ true → after_at time ≡ touched_at time
  seen_there time e =
      let window = window_both time true e in
      let can : CanMake by (window_of time (seconds_of by) points ++ point ∷ [])
      = subst (CanMake by) window
      (alike_filtered by (ends_within time (seconds_of by)) (points ++ point ∷ []) alike) in
      ap (λ seen. timed_values time (value_made by seen)) window
      ∙ ap (timed_values time) (made_more by (window_of time (seconds_of by) points) point can)

  -- not seen at a time
  pub unseen_there : (time : ℤ) → ends_within time (seconds_of by) point ≡ false → after_at time ≡ before_at time
  unseen_there time e =
      ap (λ seen. timed_values time (value_made by seen))
      (window_both time false e ∙ append-nil (window_of time (seconds_of by) points))

  none_by : (time : ℤ) (p : Point) (a b : Bool) → int_lt (time -ℤ seconds_of by) p.end ≡ a → p.end <ℤ point.end
      → int_lt (time -ℤ seconds_of by) point.end ≡ false → (a && b) ≡ false
  none_by time p true b e less past = absurd (grind (arith, ints))
  none_by time p false b e less past = refl

  none_seen : (time : ℤ) → int_lt (time -ℤ seconds_of by) point.end ≡ false → (some : List Point)
      → AllByRecursion (λ (p : Point). p.end <ℤ point.end) some → window_of time (seconds_of by) some ≡ []
  none_seen time past [] all = refl
  none_seen time past (p ∷ some) all =
      ap (λ c. cond c (p ∷ window_of time (seconds_of by) some) (window_of time (seconds_of by) some))
      (none_by time p (int_lt (time -ℤ seconds_of by) p.end) (int_le p.end time) refl all.0 past)
      ∙ none_seen time past some all.1

  -- nothing was there at a time that comes too late for the point
  past_there : (time : ℤ) → int_lt (time -ℤ seconds_of by) point.end ≡ false → before_at time ≡ []
  past_there time past =
      ap (λ seen. timed_values time (value_made by seen))
      (none_seen time past points (ends_before points point rise))
      ∙ ap (timed_values time) (nothing_made by)

  early_one : (time : ℤ) (v : Option Value) → int_lt time point.end ≡ false → filter early (timed_values time v) ≡ []
  early_one time None e = refl
  early_one time (Some v) e = ap (λ c. cond c (record { time = time; value = v } ∷ []) []) e

  early_kept : (time : ℤ) (v : Option Value) → int_lt time point.end ≡ true → filter early (timed_values time v)
      ≡ timed_values time v
  early_kept time None e = refl
  early_kept time (Some v) e = ap (λ c. cond c (record { time = time; value = v } ∷ []) []) e

  unseen_early : (time : ℤ) (a b : Bool) → int_le point.end time ≡ b → time <ℤ point.end → (a && b) ≡ false
  unseen_early time a true e less = absurd (grind (arith, ints))
  unseen_early time true false e less = refl
  unseen_early time false false e less = refl

  -- all times lie before the point's end
  all_early : (times : List ℤ) → AllByRecursion (λ time. time <ℤ point.end) times
      → flat_map after_at times
      ≡ flat_map touched_at (filter (touches by point) times) ++ filter early (flat_map before_at times)
  all_early [] all = refl
  all_early (time ∷ times) all =
      let less = all.0 in
      let unseen = unseen_early time (int_lt (time -ℤ seconds_of by) point.end) (int_le point.end time) refl less in
      let is_early : int_lt time point.end ≡ true = grind (arith, ints) in
      let rest = all_early times all.1 in
      let none : filter (touches by point) times ≡ []
      = none_kept (touches by point) times (untouched times all.1) in
      let same : flat_map after_at times ≡ filter early (flat_map before_at times)
      = rest ∙ ap (λ some. flat_map touched_at some ++ filter early (flat_map before_at times)) none in
      (λ i. unseen_there time unseen i ++ same i)
      ∙ ap (λ first. first ++ filter early (flat_map before_at times))
      (sym (early_kept time (made_at points time) is_early))
      ∙ sym (filter-append early (before_at time) (flat_map before_at times))
      ∙ ap (λ some. flat_map touched_at some ++ filter early (flat_map before_at (time ∷ times)))
      (sym (ap (λ c. cond c (time ∷ filter (touches by point) times) (filter (touches by point) times)) unseen ∙ none))
    where
      untouched : (times : List ℤ) → AllByRecursion (λ time. time <ℤ point.end) times
          → AllByRecursion (λ time. touches by point time ≡ false) times
      untouched [] all = tt
      untouched (time ∷ times) all = (
        unseen_early time (int_lt (time -ℤ seconds_of by) point.end) (int_le point.end time) refl all.0,
        untouched times all.1,
      )

  abbrev pub Splits : List ℤ → Type 0
  Splits times = flat_map after_at times
      ≡ flat_map touched_at (filter (touches by point) times) ++ filter early (flat_map before_at times)

  step : (time : ℤ) (times : List ℤ) (a b : Bool) → int_lt (time -ℤ seconds_of by) point.end ≡ a
      → int_le point.end time ≡ b → (time <ℤ point.end → AllByRecursion (λ t. t <ℤ point.end) (time ∷ times))
      → Splits times → Splits (time ∷ times)
  step time times a false e f lower rest = all_early (time ∷ times) (lower (grind (arith, ints)))
  step time times true true e f lower rest =
      let seen : ends_within time (seconds_of by) point ≡ true = λ i. e i && f i in
      let late : int_lt time point.end ≡ false = grind (arith, ints) in
      let olds = filter early (flat_map before_at times) in
      let news = flat_map touched_at (filter (touches by point) times) in
      (λ i. seen_there time seen i ++ rest i)
      ∙ sym (append_assoc (touched_at time) news olds)
      ∙ ap (λ front. (touched_at time ++ news) ++ (front ++ olds))
      (sym (early_one time (made_at points time) late))
      ∙ ap (λ all. (touched_at time ++ news) ++ all)
      (sym (filter-append early (before_at time) (flat_map before_at times)))
      ∙ ap (λ c. flat_map touched_at (cond c (time ∷ filter (touches by point) times) (filter (touches by point) times))
      ++ filter early (flat_map before_at (time ∷ times))) (sym seen)
  step time times false true e f lower rest =
      let unseen : ends_within time (seconds_of by) point ≡ false = λ i. e i && f i in
      let late : int_lt time point.end ≡ false = grind (arith, ints) in
      let olds = filter early (flat_map before_at times) in
      let news = flat_map touched_at (filter (touches by point) times) in
      (λ i. (unseen_there time unseen ∙ past_there time e) i ++ rest i)
      ∙ ap (λ front. news ++ (front ++ olds)) (sym (early_one time (made_at points time) late))
      ∙ ap (λ all. news ++ all) (sym (filter-append early (before_at time) (flat_map before_at times)))
      ∙ ap (λ c. flat_map touched_at (cond c (time ∷ filter (touches by point) times) (filter (touches by point) times))
      ++ filter early (flat_map before_at (time ∷ times))) (sym unseen)

  below : (n : ℕ) (time every : ℤ) (p : ℕ) → every ≡ pos p → time <ℤ point.end
      → AllByRecursion (λ t. t <ℤ point.end) (times_back n time every)
  below zero time every p same less = tt
  below (suc n) time every p same less = (less, below n (time -ℤ every) every p same (omega (arith, ints)))

  splits : (n : ℕ) (time every : ℤ) (p : ℕ) → every ≡ pos p → Splits (times_back n time every)
  splits zero time every p same = refl
  splits (suc n) time every p same =
      step time (times_back n (time -ℤ every) every) (int_lt (time -ℤ seconds_of by) point.end)
      (int_le point.end time) refl refl
      (λ less. (less, below n (time -ℤ every) every p same (omega (arith, ints))))
      (splits n (time -ℤ every) every p same)

  pub touched : (grid : Grid) → IsLawfulGrid grid → Splits (grid_times grid)
  touched grid lawful =
      let every = lawful.every in
      splits (time_count grid) grid.moment grid.every (unsigned_abs grid.every) (omega (arith, ints))
