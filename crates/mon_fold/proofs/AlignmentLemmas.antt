-- What the points of a window come to.
use Rattle.std.proofs.Common.{◌≡◌, ℕ, zero, suc, ◌+◌, ◌-◌, ◌<◌, ◌≤◌, ℤ, ◌+ℤ◌, ◌-ℤ◌, List, [], ◌∷◌, ◌++◌, length}
use Rattle.std.proofs.Common.{get_or, take, sum, sum_by, unsigned_abs, slice_get, All, Bool, filter, Option, None}
use Rattle.std.proofs.Common.{Some, option_map, refl, sym, ap, subst, ◌∙◌, append_assoc, arith}
use Rattle.std.specs.List.{AllByRecursion, flat_map}
use Rattle.std.proofs.lemmas.List.{take_more, map-append}
use Rattle.std.proofs.lemmas.List.Elements.{filter_map-append}
use Rattle.std.proofs.lemmas.List.Sums.{sum_by-cons, sum_by-take-le, get_or-le-sum_by}
use Rattle.std.proofs.lemmas.Bool.{cond_both}
use Rattle.std.proofs.lemmas.Int.{ints}
use Rattle.std.proofs.lemmas.Option.{same_Some}
use Rattle.mon_value.specs.Groups.{where_any, sum_of, counts_added, counts_of, number_in, counts_in, numbers_in}
use Rattle.mon_value.specs.Groups.{distributions_in, total_of}
use Rattle.mon_value.specs.Grids.{CanAdd, CanAddAll, newest_point, values_of, grid_times, time_count, times_back}
use Rattle.mon_value.specs.Values.{magnitude}
use Rattle.std.specs.Option.{option_or}
use Rattle.mon_value.specs.declared.grids.Grid.{Grid}
use Rattle.mon_value.specs.declared.rows.Point.{Point}
use Rattle.mon_value.specs.declared.values.Value.{Value}
use Rattle.mon_value.specs.declared.values.Value.TheVariants as value
use Rattle.mon_value.proofs.AggregateLemmas.{sum_of-append, sum_of-magnitude}
use Rattle.mon_value.proofs.CountsLemmas.{counts_added-nil, counts_added-assoc, counts_of-append, sum-counts_added}
use Rattle.mon_value.proofs.CountsLemmas.{sum-counts_of}
use Rattle.mon_value.proofs.GroupLemmas.{numbers-magnitude, distributions-magnitude}

-- ---- the newest point

shorter : (x y : Point) (xs : List Point) → length (x ∷ y ∷ xs) - 1 ≡ suc (length (y ∷ xs) - 1)
shorter x y xs = omega arith

pub slice_get-newest : (points : List Point) → slice_get points (length points - 1) ≡ newest_point points
slice_get-newest [] = refl
slice_get-newest (point ∷ []) = let e : length (point ∷ []) - 1 ≡ 0 = omega arith in ap (slice_get (point ∷ [])) e
slice_get-newest (point ∷ next ∷ points) = ap (slice_get (point ∷ next ∷ points)) (shorter point next points)
    ∙ slice_get-newest (next ∷ points)

-- ---- distributions of points

-- a value whose distribution is told, and one of which there is none
pub told_counts : (v : Value) (told : Option (List ℕ)) (counts : List ℕ) → told ≡ counts_in v → told ≡ Some counts
    → v ≡ value.Dist counts
told_counts (value.Int z) told counts is some = let none : None ≡ Some counts = sym is ∙ some in absurd cc
told_counts (value.Bool p) told counts is some = let none : None ≡ Some counts = sym is ∙ some in absurd cc
told_counts (value.Text s) told counts is some = let none : None ≡ Some counts = sym is ∙ some in absurd cc
told_counts (value.Dist more) told counts is some = ap value.Dist (same_Some more counts (sym is ∙ some))

pub told_none : (v : Value) (told : Option (List ℕ)) → told ≡ counts_in v → told ≡ None → (more : List ℕ)
    → v ≡ value.Dist more → ⊥
told_none v told is none more kind = let some : None ≡ Some more = sym none ∙ is ∙ ap counts_in kind in absurd cc

-- ---- numbers

numbers_more : (points : List Point) (i : ℕ) (d : Point) → i < length points
    → numbers_in (values_of (take (i + 1) points)) ≡ numbers_in (values_of (take i points))
    ++ numbers_in ((get_or points i d).value ∷ [])
numbers_more points i d h =
    ap (λ ps. numbers_in (values_of ps)) (take_more points i d h)
    ∙ ap numbers_in (map-append (λ (p : Point). p.value) (take i points) (get_or points i d ∷ []))
    ∙ filter_map-append number_in (values_of (take i points)) ((get_or points i d).value ∷ [])

-- the sum of the numbers of one point more
pub sum_more : (points : List Point) (i : ℕ) (p : Point) → p ≡ get_or points i p → i < length points
    → sum_of (numbers_in (values_of (take (i + 1) points))) ≡ sum_of (numbers_in (values_of (take i points))) +ℤ sum_of
    (numbers_in (p.value ∷ []))
sum_more points i p is h =
    let whole =
    ap sum_of (numbers_more points i p h) ∙ sum_of-append (numbers_in (values_of (take i points)))
    (numbers_in ((get_or points i p).value ∷ [])) in
    subst (λ (q : Point). sum_of (numbers_in (values_of (take (i + 1) points)))
    ≡ sum_of (numbers_in (values_of (take i points))) +ℤ sum_of (numbers_in (q.value ∷ []))) (sym is) whole

-- the sum of a single number
pub sum_single : (v : Value) (number : ℤ) → number_in v ≡ Some number → sum_of (numbers_in (v ∷ [])) ≡ number
sum_single (value.Int z) number is = let same = same_Some z number is in omega (arith, ints)
sum_single (value.Bool p) number is = absurd cc
sum_single (value.Text s) number is = absurd cc
sum_single (value.Dist counts) number is = absurd cc

sum_by-values : (f : Value → ℕ) (points : List Point) → sum_by f (values_of points) ≡ sum_by (λ (p : Point). f p.value)
    points
sum_by-values f [] = refl
sum_by-values f (p ∷ points) =
    omega (
      arith,
      sum_by-values f points,
      sum_by-cons f p.value (values_of points),
      sum_by-cons (λ (p : Point). f p.value) p points,
    )

take-magnitude : (points : List Point) (i : ℕ) → sum_by magnitude (values_of (take i points)) ≤ sum_by magnitude
    (values_of points)
take-magnitude points i =
    omega (
      arith,
      sum_by-values magnitude (take i points),
      sum_by-values magnitude points,
      sum_by-take-le (λ (p : Point). magnitude p.value) points i,
    )

-- the sum of the first points is no larger than the magnitudes of all
pub sum_bounded : (points : List Point) (i : ℕ) → unsigned_abs (sum_of (numbers_in (values_of (take i points))))
    ≤ sum_by magnitude (values_of points)
sum_bounded points i =
    omega (
      arith,
      sum_of-magnitude (numbers_in (values_of (take i points))),
      numbers-magnitude (values_of (take i points)),
      take-magnitude points i,
    )

-- ---- distributions

distributions_more : (points : List Point) (i : ℕ) (d : Point) → i < length points
    → distributions_in (values_of (take (i + 1) points)) ≡ distributions_in (values_of (take i points))
    ++ distributions_in ((get_or points i d).value ∷ [])
distributions_more points i d h =
    ap (λ ps. distributions_in (values_of ps)) (take_more points i d h)
    ∙ ap distributions_in (map-append (λ (p : Point). p.value) (take i points) (get_or points i d ∷ []))
    ∙ filter_map-append counts_in (values_of (take i points)) ((get_or points i d).value ∷ [])

-- the counts of one point more
pub counts_more : (counts : List ℕ) (points : List Point) (i : ℕ) (p : Point) (more : List ℕ) → p ≡ get_or points i p
    → p.value ≡ value.Dist more → i < length points
    → counts_added counts (counts_of (distributions_in (values_of (take (i + 1) points))))
    ≡ counts_added (counts_added counts (counts_of (distributions_in (values_of (take i points))))) more
counts_more counts points i p more is kind h =
    let some = distributions_in (values_of (take i points)) in
    let held : (get_or points i p).value ≡ value.Dist more = ap (λ (q : Point). q.value) (sym is) ∙ kind in
    let one : distributions_in ((get_or points i p).value ∷ []) ≡ more ∷ [] = ap (λ v. distributions_in (v ∷ []))
    held in
    ap (λ all. counts_added counts (counts_of all)) (distributions_more points i p h ∙ ap (λ last. some ++ last) one)
    ∙ ap (counts_added counts) (counts_of-append some (more ∷ []))
    ∙ sym (counts_added-assoc counts (counts_of some) (counts_added more []))
    ∙ ap (counts_added (counts_added counts (counts_of some))) (counts_added-nil more)

-- the total of the first points' counts, and that of all magnitudes
pub total_bounded : (counts : List ℕ) (points : List Point) (i : ℕ)
    → sum (counts_added counts (counts_of (distributions_in (values_of (take i points))))) ≤ sum counts
    + sum_by magnitude (values_of points)
total_bounded counts points i =
    let some = distributions_in (values_of (take i points)) in
    omega (
      arith,
      sum-counts_added counts (counts_of some),
      sum-counts_of some,
      distributions-magnitude (values_of (take i points)),
      take-magnitude points i,
    )

-- each count is within the total
pub counts_within : (counts : List ℕ) (most : ℕ) → sum counts ≤ most → All (λ count. count ≤ most) counts
counts_within counts most h k d lt = omega (arith, get_or-le-sum_by (λ n. n) counts k d lt)

-- distributions of one length stay at it
can_add_at : (counts : List ℕ) (points : List Point) (i : ℕ) (d : Point) → i < length points
    → AllByRecursion (CanAdd (value.Dist counts)) (values_of points) → CanAdd (value.Dist counts)
    (get_or points i d).value
can_add_at counts [] i d h all = absurd (omega arith)
can_add_at counts (p ∷ points) zero d h all = all.0
can_add_at counts (p ∷ points) (suc i) d h all = can_add_at counts points i d (omega arith) all.1

pub long_at : (counts more : List ℕ) (points : List Point) (i : ℕ) (p : Point) → p ≡ get_or points i p → p.value
    ≡ value.Dist more → i < length points
    → AllByRecursion (CanAdd (value.Dist counts)) (values_of points) → length more ≡ length counts
long_at counts more points i p is kind h all =
    subst (λ v. CanAdd (value.Dist counts) v) (ap (λ (q : Point). q.value) (sym is) ∙ kind)
    (can_add_at counts points i p h all)

-- other values can't be added to a distribution
is_distribution : Value → Type 0
is_distribution (value.Int z) = ⊥
is_distribution (value.Bool p) = ⊥
is_distribution (value.Text s) = ⊥
is_distribution (value.Dist counts) = Unit {0}

added_distribution : (counts : List ℕ) (v : Value) → CanAdd (value.Dist counts) v → is_distribution v
unfolding is_distribution
added_distribution counts (value.Int z) h = h
added_distribution counts (value.Bool p) h = h
added_distribution counts (value.Text s) h = h
added_distribution counts (value.Dist more) h = tt

distribution_only : (v : Value) → is_distribution v → ((more : List ℕ) → v ≡ value.Dist more → ⊥) → ⊥
unfolding is_distribution
distribution_only (value.Int z) h other = h
distribution_only (value.Bool p) h other = h
distribution_only (value.Text s) h other = h
distribution_only (value.Dist more) h other = other more refl

pub no_other : (counts : List ℕ) (points : List Point) (i : ℕ) (p : Point) → p ≡ get_or points i p
    → ((more : List ℕ) → p.value ≡ value.Dist more → ⊥) → i < length points
    → AllByRecursion (CanAdd (value.Dist counts)) (values_of points) → ⊥
no_other counts points i p is other h all =
    distribution_only p.value (added_distribution counts p.value
    (subst (λ (q : Point). CanAdd (value.Dist counts) q.value) (sym is) (can_add_at counts points i p h all))) other

no_numbers : (counts : List ℕ) (values : List Value) → AllByRecursion (CanAdd (value.Dist counts)) values
    → numbers_in values ≡ []
no_numbers counts [] all = refl
no_numbers counts (value.Int z ∷ values) all = absurd all.0
no_numbers counts (value.Bool p ∷ values) all = absurd all.0
no_numbers counts (value.Text s ∷ values) all = absurd all.0
no_numbers counts (value.Dist more ∷ values) all = no_numbers counts values all.1

-- distributions add up to all of their counts
pub total-distributions : (counts : List ℕ) (values : List Value) → AllByRecursion (CanAdd (value.Dist counts)) values
    → total_of (value.Dist counts ∷ values)
    ≡ Some (value.Dist (counts_added counts (counts_of (distributions_in values))))
total-distributions counts values all =
    ap (λ numbers. option_or (option_map value.Int (where_any numbers (sum_of numbers)))
    (Some (value.Dist (counts_added counts (counts_of (distributions_in values))))))
    (no_numbers counts values all)

pub total_merged : (window rest : List Point) (first : Point) (counts : List ℕ) → window ≡ first ∷ rest → first.value
    ≡ value.Dist counts → CanAddAll (values_of window)
    → total_of (values_of window)
    ≡ Some (value.Dist (counts_added counts (counts_of (distributions_in (values_of rest)))))
total_merged window rest first counts split kind alike =
    let values : values_of window ≡ value.Dist counts ∷ values_of rest = ap values_of split
    ∙ ap (λ v. v ∷ values_of rest) kind in
    let all = subst CanAddAll values alike in
    ap total_of values ∙ total-distributions counts (values_of rest) all.1

-- ---- the points of a window

-- what can be added to one value can be added to each other
add_between : (v a b : Value) → CanAdd v a → CanAdd v b → CanAdd a b
add_between (value.Int x) (value.Int y) (value.Int z) p q = tt
add_between (value.Int x) (value.Int y) b p q = absurd q
add_between (value.Int x) a b p q = absurd p
add_between (value.Dist x) (value.Dist y) (value.Dist z) p q = q ∙ sym p
add_between (value.Dist x) (value.Dist y) b p q = absurd q
add_between (value.Dist x) a b p q = absurd p
add_between (value.Bool x) a b p q = absurd p
add_between (value.Text x) a b p q = absurd p

pub all_between : (v a : Value) (values : List Value) → CanAdd v a → AllByRecursion (CanAdd v) values
    → AllByRecursion (CanAdd a) values
all_between v a [] p all = tt
all_between v a (b ∷ values) p all = (add_between v a b p all.0, all_between v a values p all.1)

pub all_alike : (v : Value) (values : List Value) → AllByRecursion (CanAdd v) values → CanAddAll values
all_alike v [] all = tt
all_alike v (a ∷ values) all = all_between v a (a ∷ values) all.0 all

all_filtered : (v : Value) (test : Point → Bool) (points : List Point) → AllByRecursion (CanAdd v) (values_of points)
    → AllByRecursion (CanAdd v) (values_of (filter test points))
all_filtered v test [] all = tt
all_filtered v test (p ∷ points) all =
    cond_both (test p) _ _ (λ ps. AllByRecursion (CanAdd v) (values_of ps))
    (λ e. (all.0, all_filtered v test points all.1)) (λ e. all_filtered v test points all.1)

pub alike_filtered : (test : Point → Bool) (points : List Point) → CanAddAll (values_of points)
    → CanAddAll (values_of (filter test points))
alike_filtered test [] alike = tt
alike_filtered test (p ∷ points) alike = all_alike p.value (values_of (filter test (p ∷ points)))
    (all_filtered p.value test (p ∷ points) alike)

-- ---- the times of a grid, one after another

times_more : (n k : ℕ) (t e : ℤ) → k < n → times_back (n - k) t e ≡ t ∷ times_back (n - (k + 1)) (t -ℤ e) e
times_more n k t e h =
    let more : n - k ≡ suc (n - (k + 1)) = omega arith in
    ap (λ m. times_back m t e) more

module _ {A : Type 0} (f : ℤ → List A) (out whole : List A) (n k : ℕ) (t next e : ℤ) (h : k < n) (step : next ≡ t -ℤ e)
    (so_far : out ++ flat_map f (times_back (n - k) t e) ≡ whole) where
  -- a time that has items
  pub made_more : (items : List A) → f t ≡ items → (out ++ items) ++ flat_map f (times_back (n - (k + 1)) next e)
      ≡ whole
  made_more items is =
      let rest = flat_map f (times_back (n - (k + 1)) (t -ℤ e) e) in
      let split : flat_map f (times_back (n - k) t e) ≡ items ++ rest =
      ap (flat_map f) (times_more n k t e h) ∙ ap (λ first. first ++ rest) is in
      rw (step, append_assoc out items rest) (ap (λ last. out ++ last) (sym split) ∙ so_far)

-- what holds of each time still holds of the later ones
pub holds_now : (P : ℤ → Type 0) (n k : ℕ) (t e : ℤ) → k < n → AllByRecursion P (times_back (n - k) t e) → P t
holds_now P n k t e h all = (subst (AllByRecursion P) (times_more n k t e h) all).0

pub holds_later : (P : ℤ → Type 0) (n k : ℕ) (t next e : ℤ) → k < n → next ≡ t -ℤ e → AllByRecursion P
    (times_back (n - k) t e)
    → AllByRecursion P (times_back (n - (k + 1)) next e)
holds_later P n k t next e h step all = rw step (subst (AllByRecursion P) (times_more n k t e h) all).1

-- the times of a grid as a loop begins
begins : (grid : Grid) (n : ℕ) (t : ℤ) → n ≡ time_count grid → t ≡ grid.moment → times_back (n - 0) t grid.every
    ≡ grid_times grid
begins grid n t count moment =
    let all : n - 0 ≡ time_count grid = omega arith in
    rw (all, moment)

pub begins_whole : {A : Type 0} (f : ℤ → List A) (grid : Grid) (out : List A) (n : ℕ) (t : ℤ) → out ≡ []
    → n ≡ time_count grid → t ≡ grid.moment
    → out ++ flat_map f (times_back (n - 0) t grid.every) ≡ flat_map f (grid_times grid)
begins_whole f grid out n t empty count moment = rw (empty, begins grid n t count moment)

pub begins_all : (P : ℤ → Type 0) (grid : Grid) (n : ℕ) (t : ℤ) → n ≡ time_count grid → t ≡ grid.moment
    → AllByRecursion P (grid_times grid)
    → AllByRecursion P (times_back (n - 0) t grid.every)
begins_all P grid n t count moment all = rw (begins grid n t count moment) all
