-- The points that end between two times, by their places.
use Rattle.std.proofs.Common.{◌≡◌, ◌∙◌, Option, Some, None, neg_ℤ, unsigned_abs, ℕ, zero, suc, ◌+◌, ◌-◌, ◌*◌, ◌/◌, ◌≤◌}
use Rattle.std.proofs.Common.{◌<◌, ℤ, ◌≤ℤ◌, ◌<ℤ◌, ◌-ℤ◌, pos, Bool, true, false, ◌&&◌, cond, List, [], ◌∷◌, ◌++◌, length}
use Rattle.std.proofs.Common.{take, drop, get_or, IfSome, refl, sym, ap, subst, arith}
use Rattle.std.specs.Prelude.{int_le, int_lt}
use Rattle.std.specs.List.{AllByRecursion, filter}
use Rattle.std.proofs.Math.Nat.{mul_comm}
use Rattle.std.proofs.lemmas.Bool.{cond_both}
use Rattle.std.proofs.lemmas.Int.{ints}
use Rattle.mon_series.specs.Splits.{points_until}
use Rattle.mon_value.specs.LeafHistories.{last_end}
use Rattle.mon_value.specs.Grids.{IsLawfulGrid, least_time, EndsRise}
use Rattle.mon_value.specs.declared.limits.TheConstants.{LONGEST_DURATION}
use Rattle.mon_value.specs.declared.grids.Grid.{Grid}
use Rattle.mon_value.specs.declared.rows.Point.{Point}

abbrev EndsAfter : ℤ → List Point → Type 0
EndsAfter end points = AllByRecursion (λ (later : Point). end <ℤ later.end) points

after_at : (first : ℤ) (ps : List Point) (i : ℕ) (d : Point) → EndsAfter first ps → i < length ps
    → first <ℤ (get_or ps i d).end
after_at first [] i d h l = absurd (omega arith)
after_at first (p ∷ ps) zero d h l = h.0
after_at first (p ∷ ps) (suc i) d h l = after_at first ps i d h.1 (omega arith)

-- ---- points whose ends rise

after_filter : (first : ℤ) (test : Point → Bool) (ps : List Point) → EndsAfter first ps → EndsAfter first
    (filter test ps)
after_filter first test [] h = tt
after_filter first test (p ∷ ps) h =
    cond_both (test p) _ _ (EndsAfter first) (λ e. (h.0, after_filter first test ps h.1))
    (λ e. after_filter first test ps h.1)

pub EndsRise-filter : (test : Point → Bool) (ps : List Point) → EndsRise ps → EndsRise (filter test ps)
EndsRise-filter test [] h = tt
EndsRise-filter test (p ∷ ps) h =
    cond_both (test p) _ _ EndsRise (λ e. (after_filter p.end test ps h.0, EndsRise-filter test ps h.1))
    (λ e. EndsRise-filter test ps h.1)

ends_before : (test : Point → Bool) (ps : List Point) (i : ℕ) (d : Point) → EndsRise ps → i < length ps
    → AllByRecursion (λ (p : Point). p.end <ℤ (get_or ps i d).end) (filter test (take i ps))
ends_before test [] i d h below = absurd (omega arith)
ends_before test (p ∷ ps) zero d h below = tt
ends_before test (p ∷ ps) (suc i) d h below =
    cond_both (test p) _ _ (AllByRecursion (λ (q : Point). q.end <ℤ (get_or ps i d).end))
    (λ e. (after_at p.end ps i d h.0 (omega arith), ends_before test ps i d h.1 (omega arith)))
    (λ e. ends_before test ps i d h.1 (omega arith))

last_before : (end : ℤ) (points : List Point) → AllByRecursion (λ (p : Point). p.end <ℤ end) points
    → IfSome (last_end points) (λ last. last <ℤ end)
last_before end [] all = tt
last_before end (point ∷ []) all = all.0
last_before end (point ∷ next ∷ points) all = last_before end (next ∷ points) all.1

-- a point ends after those kept of the points in front of it
pub rises_on : (test : Point → Bool) (ps : List Point) (i : ℕ) (p : Point) → EndsRise ps → p ≡ get_or ps i p
    → i < length ps
    → IfSome (last_end (filter test (take i ps))) (λ last. last <ℤ p.end)
rises_on test ps i p rise is below =
    last_before p.end (filter test (take i ps))
    (subst (λ (q : Point). AllByRecursion (λ (x : Point). x.end <ℤ q.end) (filter test (take i ps))) (sym is)
    (ends_before test ps i p rise below))

-- ---- places

abbrev between : ℤ → ℤ → Point → Bool
between low high point = int_lt low point.end && int_le point.end high

until_by : (time : ℤ) (p : Point) (rest : List Point) (b : Bool) → int_le p.end time ≡ b → time <ℤ p.end → rest ≡ []
    → cond b (p ∷ rest) rest ≡ []
until_by time p rest true e past none = absurd (grind (arith, ints))
until_by time p rest false e past none = none

-- no point ends until a time, where all end above it
none_until : (time : ℤ) (ps : List Point) → EndsAfter time ps → points_until time ps ≡ []
none_until time [] h = refl
none_until time (p ∷ ps) h = until_by time p (points_until time ps) (int_le p.end time) refl h.0
    (none_until time ps h.1)

between_by : (high : ℤ) (p : Point) (rest : List Point) (a b : Bool) → int_le p.end high ≡ b → high <ℤ p.end → rest ≡ []
    → cond (a && b) (p ∷ rest) rest ≡ []
between_by high p rest a true e past none = absurd (grind (arith, ints))
between_by high p rest true false e past none = none
between_by high p rest false false e past none = none

none_between : (low high : ℤ) (ps : List Point) → EndsAfter high ps → filter (between low high) ps ≡ []
none_between low high [] h = refl
none_between low high (p ∷ ps) h =
    between_by high p (filter (between low high) ps) (int_lt low p.end) (int_le p.end high) refl h.0
    (none_between low high ps h.1)

after_all : (low end : ℤ) (ps : List Point) → EndsAfter end ps → low ≤ℤ end → EndsAfter low ps
after_all low end [] h below = tt
after_all low end (p ∷ ps) h below = (omega (arith, ints, h.0), after_all low end ps h.1 below)

longer : (p : Point) (xs : List Point) → length (p ∷ xs) ≡ suc (length xs)
longer p xs = omega arith

take_none : (ps : List Point) → take 0 ps ≡ []
take_none [] = refl
take_none (p ∷ ps) = refl

first_by : (low high : ℤ) (p : Point) (ps : List Point) (a b : Bool) → int_lt low p.end ≡ a → int_le p.end high ≡ b
    → EndsAfter p.end ps → low <ℤ p.end → take (length (points_until high ps)) ps ≡ filter (between low high) ps
    → take (length (cond b (p ∷ points_until high ps) (points_until high ps))) (p ∷ ps)
    ≡ cond (a && b) (p ∷ filter (between low high) ps) (filter (between low high) ps)
first_by low high p ps false b e f rise after rest = absurd (grind (arith, ints))
first_by low high p ps true true e f rise after rest =
    ap (λ n. take n (p ∷ ps)) (longer p (points_until high ps)) ∙ ap (λ points. p ∷ points) rest
first_by low high p ps true false e f rise after rest =
    let past : high <ℤ p.end = grind (arith, ints) in
    let above = after_all high p.end ps rise (omega (arith, ints)) in
    ap (λ points. take (length points) (p ∷ ps)) (none_until high ps above) ∙ sym (none_between low high ps above)

-- those until a time come first, of points that all end above a low one
first_until : (low high : ℤ) (ps : List Point) → EndsRise ps → EndsAfter low ps
    → take (length (points_until high ps)) ps ≡ filter (between low high) ps
first_until low high [] rise after = refl
first_until low high (p ∷ ps) rise after =
    first_by low high p ps (int_lt low p.end) (int_le p.end high) refl refl rise.0 after.0
    (first_until low high ps rise.1 after.1)

fewer_less : (p q : Point) (xs ys : List Point) → length (p ∷ xs) - length (q ∷ ys) ≡ length xs - length ys
fewer_less p q xs ys = omega arith

places_by : (low high : ℤ) (p : Point) (ps : List Point) (a b : Bool) → int_le p.end low ≡ a → int_le p.end high ≡ b
    → EndsRise (p ∷ ps) → low ≤ℤ high
    → take (length (points_until high ps) - length (points_until low ps)) (drop (length (points_until low ps)) ps)
    ≡ filter (between low high) ps
    → take (length (cond b (p ∷ points_until high ps) (points_until high ps))
    - length (cond a (p ∷ points_until low ps) (points_until low ps)))
    (drop (length (cond a (p ∷ points_until low ps) (points_until low ps))) (p ∷ ps))
    ≡ filter (between low high) (p ∷ ps)
places_by low high p ps true true e f rise order rest =
    let hs = points_until high ps in
    let ls = points_until low ps in
    let skipped : int_lt low p.end ≡ false = grind (arith, ints) in
    (λ i. take (fewer_less p p hs ls i) (drop (longer p ls i) (p ∷ ps)))
    ∙ rest
    ∙ sym (ap (λ c. cond (c && int_le p.end high) (p ∷ filter (between low high) ps) (filter (between low high) ps))
    skipped)
places_by low high p ps true false e f rise order rest = absurd (grind (arith, ints))
places_by low high p ps false b e f rise order rest =
    let past : low <ℤ p.end = grind (arith, ints) in
    let above = after_all low p.end ps rise.0 (omega (arith, ints)) in
    let none : points_until low ps ≡ [] = none_until low ps above in
    let all = cond b (p ∷ points_until high ps) (points_until high ps) in
    let whole : take (length all) (p ∷ ps) ≡ filter (between low high) (p ∷ ps) =
    ap (λ c. take (length (cond c (p ∷ points_until high ps) (points_until high ps))) (p ∷ ps)) (sym f)
    ∙ first_until low high (p ∷ ps) rise (past, above) in
    let left : length all - 0 ≡ length all = omega arith in
    ap (λ (points : List Point). take (length all - length points) (drop (length points) (p ∷ ps))) none
    ∙ ap (λ n. take n (p ∷ ps)) left
    ∙ whole

-- the points between two times stand between the places of those until either
pub between_places : (low high : ℤ) (ps : List Point) → EndsRise ps → low ≤ℤ high
    → take (length (points_until high ps) - length (points_until low ps)) (drop (length (points_until low ps)) ps)
    ≡ filter (between low high) ps
between_places low high [] rise order = refl
between_places low high (p ∷ ps) rise order =
    places_by low high p ps (int_le p.end low) (int_le p.end high) refl refl rise order
    (between_places low high ps rise.1 order)

more_by : (low high : ℤ) (p : Point) (ls hs : List Point) (a b : Bool) → int_le p.end low ≡ a → int_le p.end high ≡ b
    → low ≤ℤ high
    → length ls ≤ length hs → length (cond a (p ∷ ls) ls) ≤ length (cond b (p ∷ hs) hs)
more_by low high p ls hs true true e f order rest = omega (arith, rest)
more_by low high p ls hs true false e f order rest = absurd (grind (arith, ints))
more_by low high p ls hs false true e f order rest = omega (arith, rest)
more_by low high p ls hs false false e f order rest = rest

-- more points end until a later time
pub until_more : (low high : ℤ) (ps : List Point) → low ≤ℤ high → length (points_until low ps)
    ≤ length (points_until high ps)
until_more low high [] order = omega arith
until_more low high (p ∷ ps) order =
    more_by low high p (points_until low ps) (points_until high ps) (int_le p.end low) (int_le p.end high) refl refl
    order
    (until_more low high ps order)

-- ---- points behind a place

pub EndsRise-drop : (n : ℕ) (ps : List Point) → EndsRise ps → EndsRise (drop n ps)
EndsRise-drop zero [] h = tt
EndsRise-drop zero (p ∷ ps) h = h
EndsRise-drop (suc n) [] h = tt
EndsRise-drop (suc n) (p ∷ ps) h = EndsRise-drop n ps h.1

split_by : (low high : ℤ) (p : Point) (ps : List Point) (late early now : Bool) → int_lt low p.end ≡ late
    → int_le p.end low ≡ early → int_le p.end high ≡ now → EndsAfter p.end ps → low ≤ℤ high
    → points_until high ps ≡ points_until low ps ++ filter (between low high) ps
    → cond now (p ∷ points_until high ps) (points_until high ps)
    ≡ cond early (p ∷ points_until low ps) (points_until low ps)
    ++ cond (late && now) (p ∷ filter (between low high) ps) (filter (between low high) ps)
split_by low high p ps true true now e f g after order rest = absurd (grind (arith, ints))
split_by low high p ps false false now e f g after order rest = absurd (grind (arith, ints))
split_by low high p ps false true false e f g after order rest = absurd (grind (arith, ints))
split_by low high p ps false true true e f g after order rest = ap (λ points. p ∷ points) rest
split_by low high p ps true false false e f g after order rest = rest
split_by low high p ps true false true e f g after order rest =
    let past : low <ℤ p.end = grind (arith, ints) in
    let none : points_until low ps ≡ [] = none_until low ps (after_all low p.end ps after (omega (arith, ints))) in
    ap (λ points. p ∷ points) (rest ∙ ap (λ points. points ++ filter (between low high) ps) none)
    ∙ ap (λ points. points ++ p ∷ filter (between low high) ps) (sym none)

-- the points until a later time are those until an earlier one, and those between them
until_split : (low high : ℤ) (ps : List Point) → EndsRise ps → low ≤ℤ high
    → points_until high ps ≡ points_until low ps ++ filter (between low high) ps
until_split low high [] rise order = refl
until_split low high (p ∷ ps) rise order =
    split_by low high p ps (int_lt low p.end) (int_le p.end low) (int_le p.end high) refl refl refl rise.0 order
    (until_split low high ps rise.1 order)

drop_front : (n : ℕ) (xs ys : List Point) → n ≤ length xs → drop n (xs ++ ys) ≡ drop n xs ++ ys
drop_front zero [] [] h = refl
drop_front zero [] (y ∷ ys) h = refl
drop_front zero (x ∷ xs) ys h = refl
drop_front (suc n) [] ys h = absurd (omega arith)
drop_front (suc n) (x ∷ xs) ys h = drop_front n xs ys (omega arith)

-- the points behind a place among those until an earlier time
pub behind_place : (low high : ℤ) (n : ℕ) (ps : List Point) → EndsRise ps → low ≤ℤ high
    → n ≤ length (points_until low ps)
    → drop n (points_until high ps) ≡ drop n (points_until low ps) ++ filter (between low high) ps
behind_place low high n ps rise order within =
    ap (drop n) (until_split low high ps rise order)
    ∙ drop_front n (points_until low ps) (filter (between low high) ps) within

-- ---- the least time

steps_by : (n w p : ℕ) → p * n ≤ w + (p - 1) → 1 ≤ p → (n - 1) * p ≤ w
steps_by zero w p h some = let none : zero - 1 ≡ 0 = omega arith in rw none (omega arith)
steps_by (suc n) w p h some =
    let one : suc n - 1 ≡ n = omega arith in
    let more : suc n * p ≡ n * p + p = omega arith in
    rw one (omega (arith, h, more, mul_comm p (suc n)))

-- one step less than reaches past the seconds is within them
steps_within : (w p : ℕ) → 1 ≤ p → ((w + (p - 1)) / p - 1) * p ≤ w
steps_within w p some = steps_by ((w + (p - 1)) / p) w p (omega arith) some

-- the least time of a grid is no earlier than a longest duration before the epoch, and no later than its moment
pub least_bounds : (grid : Grid) → IsLawfulGrid grid → (neg_ℤ LONGEST_DURATION ≤ℤ least_time grid)
    × (least_time grid ≤ℤ grid.moment)
least_bounds grid lawful =
    let every = lawful.every in
    let within = lawful.within in
    let from = lawful.moment in
    let steps = steps_within (unsigned_abs grid.within) (unsigned_abs grid.every) (omega (arith, ints)) in
    (omega (arith, ints), omega (arith, ints))

-- ---- the points in reach, by the places that two look-ups give

none_last_by : (o : Option ℤ) (p : Point) (ps : List Point) → last_end (p ∷ ps) ≡ o → o ≡ None → ⊥
none_last_by o p [] e f = none_some p.end (sym f ∙ sym e)
  where
    none_some : (z : ℤ) → None ≡ Some z → ⊥
    none_some z e = cc
none_last_by o p (q ∷ ps) e f = none_last_by o q ps e f

-- a series without a last point has none
pub none_last : (ps : List Point) → last_end ps ≡ None → ps ≡ []
none_last [] e = refl
none_last (p ∷ ps) e = absurd (none_last_by (last_end (p ∷ ps)) p ps refl e)

module _ (least seconds moment time span now : ℤ) (points : List Point) (before ended : ℕ)
    (is_time : time ≡ least) (is_span : span ≡ seconds) (is_now : now ≡ moment) (order : least ≤ℤ moment)
    (some : pos 1 ≤ℤ seconds)
    (first : before ≡ length (points_until (time -ℤ span) points)) (last : ended ≡ length (points_until now points))
  where
    low : before ≡ length (points_until (least -ℤ seconds) points)
    low = first ∙ (λ i. length (points_until (is_time i -ℤ is_span i) points))

    high : ended ≡ length (points_until moment points)
    high = last ∙ (λ i. length (points_until (is_now i) points))

    earlier : (least -ℤ seconds) ≤ℤ moment
    earlier = omega (arith, ints)

    pub places_apart : before ≤ ended
    places_apart = omega (arith, low, high, until_more (least -ℤ seconds) moment points earlier)

    pub places_of : (listed : List Point) → listed ≡ points → EndsRise points
        → take (ended - before) (drop before listed) ≡ filter (between (least -ℤ seconds) moment) points
    places_of listed same rise =
        (λ i. take (high i - low i) (drop (low i) (same i)))
        ∙ between_places (least -ℤ seconds) moment points rise earlier
