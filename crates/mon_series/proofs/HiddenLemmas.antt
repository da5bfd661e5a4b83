-- Points that hidden ones reach, and those that end later.
use Rattle.std.proofs.Common.{◌≡◌, ◌∙◌, inl, inr, ℕ, zero, suc, ◌<◌, ◌≤◌, ℤ, ◌<ℤ◌, Bool, true, false, not, cond, ◌&&◌}
use Rattle.std.proofs.Common.{◌||◌, List, [], ◌∷◌, ◌++◌, length, refl, ap, subst, arith, IfSome, Some, slice_get, get_or, ◌-◌}
use Rattle.std.specs.List.{AllByRecursion as All, filter}
use Rattle.std.specs.Prelude.{int_le, int_lt, Contains}
use Rattle.std.proofs.lemmas.Bool.{or_left, or_right}
use Rattle.std.proofs.lemmas.Int.{ints}
use Rattle.std.proofs.lemmas.List.Elements.{Contains-append_cases, filter-append}
use Rattle.std.proofs.lemmas.List.Folds.{list_any-append}
use Rattle.mon_value.proofs.PlainLemmas.{all_back, contains_kept}
use Rattle.mon_value.specs.Grids.{EndsRise}
use Rattle.mon_value.specs.LeafHistories.{last_end}
use Rattle.mon_value.specs.declared.rows.Point.{Point}
use Rattle.mon_series.specs.within.Hidden.{points_before, reach}
use Rattle.mon_series.proofs.EndsRiseLemmas.{before_last}

-- ---- plain lists

pub all_weaker : {A : Type 0} (P Q : A → Type 0) → ((x : A) → P x → Q x) → (xs : List A) → All P xs → All Q xs
all_weaker P Q f [] h = tt
all_weaker P Q f (x ∷ xs) h = (f x h.0, all_weaker P Q f xs h.1)

pub all_within : {A : Type 0} (P : A → Type 0) (xs : List A) → ((x : A) → Contains xs x → P x) → All P xs
all_within P [] h = tt
all_within P (x ∷ xs) h =
    (h x (0, omega arith, refl), all_within P xs (λ y there. h y (suc there.0, omega (arith, there.1), there.2)))

pub all_at : {A : Type 0} (P : A → Type 0) (xs : List A) (at : ℕ) (x : A) → All P xs → slice_get xs at ≡ Some x → P x
all_at P [] at x h e = absurd cc
all_at P (y ∷ xs) zero x h e = let same : y ≡ x = cc in subst P same h.0
all_at P (y ∷ xs) (suc at) x h e = all_at P xs at x h.1 e

pub none_pass : {A : Type 0} (test : A → Bool) (xs : List A) → All (λ x. test x ≡ false) xs → filter test xs ≡ []
none_pass test [] h = refl
none_pass test (x ∷ xs) h = ap (λ b. cond b (x ∷ filter test xs) (filter test xs)) h.0 ∙ none_pass test xs h.1

pub all_pass : {A : Type 0} (test : A → Bool) (xs : List A) → All (λ x. test x ≡ true) xs → filter test xs ≡ xs
all_pass test [] h = refl
all_pass test (x ∷ xs) h =
    ap (λ b. cond b (x ∷ filter test xs) (filter test xs)) h.0 ∙ ap (λ ys. x ∷ ys) (all_pass test xs h.1)

pub same_tests : {A : Type 0} (one two : A → Bool) (xs : List A) → All (λ x. one x ≡ two x) xs
    → filter one xs ≡ filter two xs
same_tests one two [] h = refl
same_tests one two (x ∷ xs) h =
    ap (λ b. cond b (x ∷ filter one xs) (filter one xs)) h.0
    ∙ ap (λ ys. cond (two x) (x ∷ ys) ys) (same_tests one two xs h.1)

-- ---- what points reach

not_after : (end : ℤ) → int_le end end ≡ true
not_after end = grind (arith, ints)

-- points reach each of them
own_reached : (points : List Point) → All (λ point. reach points point ≡ true) points
own_reached [] = tt
own_reached (p ∷ ps) = (
  or_left (int_le p.end p.end) (reach ps p) (not_after p.end),
  all_weaker (λ point. reach ps point ≡ true) (λ point. reach (p ∷ ps) point ≡ true)
      (λ point e. or_right (int_le point.end p.end) (reach ps point) e) ps (own_reached ps),
)

reached : (points : List Point) (point : Point) → Contains points point → reach points point ≡ true
reached [] point there = absurd (omega (arith, there.1))
reached (p ∷ ps) point (zero, l, e) =
    or_left (int_le point.end p.end) (reach ps point)
    (ap (λ (q : Point). int_le point.end q.end) e ∙ not_after point.end)
reached (p ∷ ps) point (suc k, l, e) =
    or_right (int_le point.end p.end) (reach ps point) (reached ps point (k, omega (arith, l), e))

-- and none that ends later
pub not_reached : (points : List Point) (point : Point) → All (λ past. past.end <ℤ point.end) points
    → reach points point ≡ false
not_reached [] point h = refl
not_reached (p ∷ ps) point h =
    let later = h.0 in
    let first : int_le point.end p.end ≡ false = grind (arith, ints) in
    (λ i. first i || not_reached ps point h.1 i)

later_beyond : (hidden points : List Point) → EndsRise (hidden ++ points)
    → All (λ point. reach hidden point ≡ false) points
later_beyond [] points h = all_weaker (λ point. Unit {0}) (λ point. reach [] point ≡ false) (λ point e. refl) points
    (all_within (λ point. Unit {0}) points (λ point there. tt))
later_beyond (p ∷ ps) points h = joined points (all_back (λ (later : Point). p.end <ℤ later.end) ps points h.0)
    (later_beyond ps points h.1)
  where
    joined : (points : List Point) → All (λ (later : Point). p.end <ℤ later.end) points
        → All (λ point. reach ps point ≡ false) points → All (λ point. reach (p ∷ ps) point ≡ false) points
    joined [] ends rest = tt
    joined (q ∷ points) ends rest =
        let later = ends.0 in
        let first : int_le q.end p.end ≡ false = grind (arith, ints) in
        ((λ i. first i || rest.0 i), joined points ends.1 rest.1)

-- of a series, those that end later than the hidden ones are those behind them
pub points_beyond : (hidden points : List Point) → EndsRise (hidden ++ points)
    → filter (λ point. not (reach hidden point)) (hidden ++ points) ≡ points
points_beyond hidden points h =
    let first : filter (λ point. not (reach hidden point)) hidden ≡ [] =
    none_pass (λ point. not (reach hidden point)) hidden
    (all_weaker (λ point. reach hidden point ≡ true) (λ point. not (reach hidden point) ≡ false)
    (λ point e. ap not e) hidden (own_reached hidden)) in
    let rest : filter (λ point. not (reach hidden point)) points ≡ points =
    all_pass (λ point. not (reach hidden point)) points
    (all_weaker (λ point. reach hidden point ≡ false) (λ point. not (reach hidden point) ≡ true)
    (λ point e. ap not e) points (later_beyond hidden points h)) in
    filter-append (λ point. not (reach hidden point)) hidden points ∙ (λ i. first i ++ rest i)

-- of a series, the hidden ones are those with the first numbers
pub first_reached : (hidden points : List Point) (n : ℕ) (point : Point) → slice_get (hidden ++ points) n ≡ Some point
    → n < length hidden → reach hidden point ≡ true
first_reached hidden points n point there l = reached hidden point (n, l, by hidden n there l)
  where
    by : (hidden : List Point) (n : ℕ) → slice_get (hidden ++ points) n ≡ Some point → n < length hidden
        → get_or hidden n point ≡ point
    by [] n e l = absurd (omega (arith, l))
    by (p ∷ ps) zero e l = cc
    by (p ∷ ps) (suc n) e l = by ps n e (omega (arith, l))

pub later_not_reached : (hidden points : List Point) (n : ℕ) (point : Point) → EndsRise (hidden ++ points)
    → slice_get (hidden ++ points) n ≡ Some point → length hidden ≤ n → reach hidden point ≡ false
later_not_reached hidden points n point h there l =
    all_at (λ point. reach hidden point ≡ false) points (n - length hidden) point (later_beyond hidden points h)
    (by hidden n there l)
  where
    by : (hidden : List Point) (n : ℕ) → slice_get (hidden ++ points) n ≡ Some point → length hidden ≤ n
        → slice_get points (n - length hidden) ≡ Some point
    by [] n e l = let same : n - 0 ≡ n = omega arith in ap (slice_get points) same ∙ e
    by (p ∷ ps) zero e l = absurd (omega (arith, l))
    by (p ∷ ps) (suc n) e l =
        let same : suc n - suc (length ps) ≡ n - length ps = omega arith in
        ap (slice_get points) same ∙ by ps n e (omega (arith, l))

-- a point behind the last one ends later than each
pub all_before : (points : List Point) (end : ℤ) → EndsRise points → IfSome (last_end points) (λ last. last <ℤ end)
    → All (λ past. past.end <ℤ end) points
all_before [] end h l = tt
all_before (p ∷ []) end h l = (l, tt)
all_before (p ∷ q ∷ ps) end h l = (before_last p.end end q ps h.0 l, all_before (q ∷ ps) end h.1 l)

-- ---- points that end before a time are hidden too

early_before : (points : List Point) (before : ℤ) (point : Point) → int_lt point.end before ≡ false
    → All (λ past. past.end <ℤ point.end) (points_before before points)
early_before [] before point late = tt
early_before (p ∷ ps) before point late = by (int_lt p.end before) refl (early_before ps before point late)
  where
    by : (b : Bool) → int_lt p.end before ≡ b → All (λ past. past.end <ℤ point.end) (points_before before ps)
        → All (λ past. past.end <ℤ point.end) (cond b (p ∷ points_before before ps) (points_before before ps))
    by true e rest = let first : p.end <ℤ point.end = grind (arith, ints) in (first, rest)
    by false e rest = rest

before_reach : (points : List Point) (before : ℤ) (point : Point) (b : Bool) → int_lt point.end before ≡ b
    → Contains points point → reach (points_before before points) point ≡ b
before_reach points before point true e there =
    reached (points_before before points) point
    (contains_kept (λ (one : Point). int_lt one.end before) points point there e)
before_reach points before point false e there =
    not_reached (points_before before points) point (early_before points before point e)

among_later : (hidden points : List Point) (point : Point) → reach hidden point ≡ false
    → Contains (hidden ++ points) point → Contains points point
among_later hidden points point beyond there =
    elim (Contains-append_cases hidden points point there) [
      | inl first ↦ absurd (let here = reached hidden point first in cc)
      | inr later ↦ later
    ]

pub hides_more : (hidden points : List Point) (before : ℤ) (point : Point) → Contains (hidden ++ points) point
    → not (reach (hidden ++ points_before before points) point)
    ≡ (not (int_lt point.end before) && not (reach hidden point))
hides_more hidden points before point there =
    ap not (list_any-append (λ past. int_le point.end past.end) hidden (points_before before points))
    ∙ by (reach hidden point) refl
  where
    both : (b : Bool) → false ≡ (b && false)
    both true = refl
    both false = refl

    only : (b : Bool) → not b ≡ (not b && true)
    only true = refl
    only false = refl

    by : (b : Bool) → reach hidden point ≡ b
        → not (b || reach (points_before before points) point) ≡ (not (int_lt point.end before) && not b)
    by true e = both (not (int_lt point.end before))
    by false e =
        ap not (before_reach points before point (int_lt point.end before) refl (among_later hidden points point e there))
        ∙ only (int_lt point.end before)
