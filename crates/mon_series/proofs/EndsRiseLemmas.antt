-- Points whose ends rise.
use Rattle.std.proofs.Common.{◌≡◌, inl, inr, ℕ, zero, suc, ◌-◌, ◌<◌, ℤ, ◌<ℤ◌, ◌≤ℤ◌, Bool, List, [], ◌∷◌, ◌++◌, length}
use Rattle.std.proofs.Common.{get_or, filter, refl, arith, IfSome, option_map}
use Rattle.std.specs.List.{AllByRecursion, slice_get}
use Rattle.std.specs.Prelude.{int_le}
use Rattle.std.specs.List.Sorted.{IsPartitionedBy}
use Rattle.std.proofs.lemmas.Bool.{cases_eq, cond_both}
use Rattle.std.proofs.lemmas.Int.{ints}
use Rattle.mon_value.specs.declared.rows.Point.{Point}
use Rattle.mon_value.specs.LeafHistories.{last_end}
use Rattle.mon_value.specs.Grids.{EndsRise}

abbrev EndsAfter : ℤ → List Point → Type 0
EndsAfter end points = AllByRecursion (λ (later : Point). end <ℤ later.end) points

-- what ends after the last point ends after what comes before all points
pub before_last : (first end : ℤ) (p : Point) (ps : List Point) → EndsAfter first (p ∷ ps) → IfSome (last_end (p ∷ ps))
    (λ last. last <ℤ end) → first <ℤ end
before_last first end p [] h l = let k = h.0 in omega (arith, ints)
before_last first end p (q ∷ ps) h l = before_last first end q ps h.1 l

after_push : (first : ℤ) (ps : List Point) (p : Point) → EndsAfter first ps → first <ℤ p.end → EndsAfter first
    (ps ++ p ∷ [])
after_push first [] p h l = (l, tt)
after_push first (q ∷ ps) p h l = (h.0, after_push first ps p h.1 l)

-- a point that ends after the last one
pub EndsRise-push : (ps : List Point) (p : Point) → EndsRise ps → IfSome (last_end ps) (λ last. last <ℤ p.end)
    → EndsRise (ps ++ p ∷ [])
EndsRise-push [] p h l = (tt, tt)
EndsRise-push (q ∷ []) p h l = ((l, tt), (tt, tt))
EndsRise-push (q ∷ r ∷ ps) p h l =
    (after_push q.end (r ∷ ps) p h.0 (before_last q.end p.end r ps h.0 l), EndsRise-push (r ∷ ps) p h.1 l)

-- the end of the last point is at the last place
pub last_end_at : (ps : List Point) → option_map (λ (p : Point). p.end) (slice_get ps (length ps - 1)) ≡ last_end ps
last_end_at [] = refl
last_end_at (p ∷ []) = refl
last_end_at (p ∷ q ∷ ps) =
    let e : length (p ∷ q ∷ ps) - 1 ≡ suc (length (q ∷ ps) - 1) = omega arith in
    rw e (last_end_at (q ∷ ps))

pub after_at : (first : ℤ) (ps : List Point) (i : ℕ) (d : Point) → EndsAfter first ps → i < length ps
    → first <ℤ (get_or ps i d).end
after_at first [] i d h l = absurd (omega arith)
after_at first (p ∷ ps) zero d h l = h.0
after_at first (p ∷ ps) (suc i) d h l = after_at first ps i d h.1 (omega arith)

-- a later point ends later
pub rising_at : (ps : List Point) (i j : ℕ) (d : Point) → EndsRise ps → i < j → j < length ps → (get_or ps i d).end <ℤ
    (get_or ps j d).end
rising_at [] i j d h l k = absurd (omega arith)
rising_at (p ∷ ps) i zero d h l k = absurd (omega arith)
rising_at (p ∷ ps) zero (suc j) d h l k = after_at p.end ps j d h.0 (omega arith)
rising_at (p ∷ ps) (suc i) (suc j) d h l k = rising_at ps i j d h.1 (omega arith) (omega arith)

-- the points that end by a time come before those that end after it
pub ended_first : (ps : List Point) (time : ℤ) → EndsRise ps → IsPartitionedBy (λ p. int_le p.end time) ps
ended_first ps time h i j d l k e =
    elim (cases_eq i j) [
      | inl same ↦ rw same e
      | inr other ↦ let later = rising_at ps i j d h (omega arith) k in grind (arith, ints)
    ]

after_filter : (first : ℤ) (test : Point → Bool) (ps : List Point) → EndsAfter first ps → EndsAfter first
    (filter test ps)
after_filter first test [] h = tt
after_filter first test (p ∷ ps) h = cond_both (test p) _ _ (EndsAfter first)
    (λ e. (h.0, after_filter first test ps h.1)) (λ e. after_filter first test ps h.1)

-- the points that pass a test
pub EndsRise-filter : (test : Point → Bool) (ps : List Point) → EndsRise ps → EndsRise (filter test ps)
EndsRise-filter test [] h = tt
EndsRise-filter test (p ∷ ps) h = cond_both (test p) _ _ EndsRise
    (λ e. (after_filter p.end test ps h.0, EndsRise-filter test ps h.1)) (λ e. EndsRise-filter test ps h.1)

-- where the last point ends by a time, all points do
pub all_until : (ps : List Point) (time : ℤ) → EndsRise ps → IfSome (last_end ps) (λ last. last ≤ℤ time)
    → AllByRecursion (λ (point : Point). point.end ≤ℤ time) ps
all_until [] time h l = tt
all_until (p ∷ []) time h l = (l, tt)
all_until (p ∷ q ∷ ps) time h l =
    let rest = all_until (q ∷ ps) time h.1 l in
    let first = h.0.0 in
    let next = rest.0 in
    let ends : p.end ≤ℤ time = omega (arith, ints) in
    (ends, rest)

-- what ends after a later time ends after an earlier one
after_earlier : (time first : ℤ) (ps : List Point) → time <ℤ first → EndsAfter first ps → EndsAfter time ps
after_earlier time first [] l h = tt
after_earlier time first (p ∷ ps) l h =
    let end = h.0 in
    let ends : time <ℤ p.end = omega (arith, ints) in
    (ends, after_earlier time first ps l h.1)

-- where the first point ends after a time, all points do
pub all_after : (ps : List Point) (time : ℤ) → EndsRise ps
    → IfSome (slice_get ps 0) (λ (first : Point). time <ℤ first.end) → EndsAfter time ps
all_after [] time h l = tt
all_after (p ∷ ps) time h l = (l, after_earlier time p.end ps l h.0)
