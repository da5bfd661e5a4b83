-- Bounds that rise part the targets of a zone: those of one range, and none besides, lie between its bound and the
-- next.
use Rattle.std.proofs.Common.{◌≡◌, ◌∙◌, ℕ, zero, suc, ◌+◌, ◌-◌, ◌<◌, ◌≤◌, Bool, true, false, List, [], ◌∷◌, Option}
use Rattle.std.proofs.Common.{Some, None, cond, option_map, length, get_or, refl, ap, sym, subst, arith, inl, inr, ◌⊎◌}
use Rattle.std.specs.Cmp.{IsTotalOrder}
use Rattle.std.specs.List.Sorted.{IsPartitionedBy, IsPartitionPoint}
use Rattle.std.specs.Option.{option_or}
use Rattle.std.specs.Prelude.{◌==◌}
use Rattle.std.proofs.lemmas.Bool.{cases_lt}
use Rattle.std.proofs.lemmas.Bool.Decides.{nat_tests}
use Rattle.std.specs.Ordering.{is_le, is_lt, ordering_reverse}
use Rattle.std.specs.declared.cmp.Ordering.{Ordering}
use Rattle.std.specs.declared.cmp.Ordering.TheVariants.{Less, Equal, Greater}
use Rattle.std.proofs.lemmas.Cmp.{lists_total}
use Rattle.mon_value.proofs.OrderLemmas.{field_total}
use Rattle.mon_value.specs.declared.rows.Target.{Target}
use Rattle.mon_value.specs.declared.values.FieldValue.{FieldValue}
use Rattle.mon_topo.proofs.PlaceLemmas.{passed}
use Rattle.mon_topo.specs.Locations.{bound_at, bound_cmp, is_above, is_bound_below, last_within, target_bound, IsHeldAt}
use Rattle.mon_topo.specs.Faults.{disorder_in, fall_in}
use Rattle.mon_topo.specs.Zones.{no_range}
use Rattle.mon_topo.specs.declared.places.Place.TheVariants as place
use Rattle.mon_topo.specs.declared.zones.RangeSpec.{RangeSpec}

-- ---- the order of bounds

bound_total : IsTotalOrder bound_cmp
bound_total = lists_total field_total

below : (a b c : List FieldValue) (o p : Ordering) → bound_cmp a b ≡ o → bound_cmp b c ≡ p
    → is_lt o ≡ true → is_le p ≡ true → is_le (bound_cmp a c) ≡ true
below a b c Less Less ab bc lt le = ap is_le (bound_total.trans a b c ab bc)
below a b c Less Equal ab bc lt le =
    let back : bound_cmp b a ≡ bound_cmp c a = bound_total.congr b c a bc in
    ap is_le (bound_total.antisymm a c ∙ ap ordering_reverse (sym back) ∙ sym (bound_total.antisymm a b) ∙ ab)
below a b c Less Greater ab bc lt le = absurd (cc)
below a b c Equal p ab bc lt le = absurd (cc)
below a b c Greater p ab bc lt le = absurd (cc)

-- what is below a bound that is not above a target is not above it either
within_below : (before bound : List FieldValue) (target : Target)
    → is_above before bound ≡ true → is_bound_below bound target ≡ true → is_bound_below before target ≡ true
within_below before bound target = below before bound (target_bound target) _ _ refl refl

-- ---- bounds that rise

-- each bound is above the one before it
abbrev Rise : List FieldValue → List RangeSpec → Type 0
Rise before [] = Unit {0}
Rise before (range ∷ ranges) = (is_above before range.from ≡ true) × Rise range.from ranges

rise : (i j : ℕ) (before : List FieldValue) (ranges : List RangeSpec) → fall_in i j before ranges ≡ None
    → Rise before ranges
rise i j before [] e = tt
rise i j before (range ∷ ranges) e =
    let both = passed (is_above before range.from) (place.Bound i j) (fall_in i (j + 1) range.from ranges) e in
    (both.0, rise i (j + 1) range.from ranges both.1)

-- a bound is not above a target where a later one isn't
all_before : (target : Target) (before : List FieldValue) (ranges : List RangeSpec) → Rise before ranges
    → (j : ℕ) (d : RangeSpec)
    → j < length ranges → is_bound_below (get_or ranges j d).from target ≡ true → is_bound_below before target ≡ true
all_before target before [] up j d there within = absurd (omega arith)
all_before target before (range ∷ ranges) up zero d there within = within_below before range.from target up.0 within
all_before target before (range ∷ ranges) up (suc j) d there within =
    within_below before range.from target up.0
    (all_before target range.from ranges up.1 j d (omega arith) within)

parted : (target : Target) (before : List FieldValue) (ranges : List RangeSpec) → Rise before ranges
    → IsPartitionedBy (λ range. is_bound_below range.from target) ranges
parted target before [] up i j d le there within = absurd (omega arith)
parted target before (range ∷ ranges) up zero zero d le there within = within
parted target before (range ∷ ranges) up zero (suc j) d le there within =
    all_before target range.from ranges up.1 j d (omega arith) within
parted target before (range ∷ ranges) up (suc i) zero d le there within = absurd (omega arith)
parted target before (range ∷ ranges) up (suc i) (suc j) d le there within =
    parted target range.from ranges up.1 i j d (omega arith) (omega arith) within

-- ---- the last bound that is not above a target

pub record IsLast (target : Target) (ranges : List RangeSpec) (j : ℕ) : Type 0 where
  pub there : j < length ranges
  pub within : (d : RangeSpec) → is_bound_below (get_or ranges j d).from target ≡ true
  pub later : (k : ℕ) (d : RangeSpec) → j < k → k < length ranges → is_bound_below (get_or ranges k d).from target
      ≡ false

one_of : (b : Bool) → cond {A = Option ℕ} b (Some 0) None ≡ None → b ≡ false
one_of true e = absurd (cc)
one_of false e = refl

no_later : (o : Option ℕ) (b : Bool) → option_or (option_map (λ (j : ℕ). suc j) o) (cond {A = Option ℕ} b (Some 0)
    None) ≡ None
    → (o ≡ None) × (b ≡ false)
no_later None b e = (refl, one_of b e)
no_later (Some j) b e = absurd (cc)

-- none is found where each bound is above the target
none_within : (target : Target) (ranges : List RangeSpec) → last_within target ranges ≡ None → (k : ℕ) (d : RangeSpec)
    → k < length ranges → is_bound_below (get_or ranges k d).from target ≡ false
none_within target [] e k d there = absurd (omega arith)
none_within target (range ∷ ranges) e zero d there =
    (no_later (last_within target ranges) (is_bound_below range.from target) e).1
none_within target (range ∷ ranges) e (suc k) d there =
    none_within target ranges (no_later (last_within target ranges) (is_bound_below range.from target) e).0 k d
    (omega arith)

later_than_first : (target : Target) (range : RangeSpec) (ranges : List RangeSpec)
    → ((k : ℕ) (d : RangeSpec) → k < length ranges → is_bound_below (get_or ranges k d).from target ≡ false)
    → (k : ℕ) (d : RangeSpec) → 0 < k → k < length (range ∷ ranges)
    → is_bound_below (get_or (range ∷ ranges) k d).from target ≡ false
later_than_first target range ranges none zero d above there = absurd (omega arith)
later_than_first target range ranges none (suc k) d above there = none k d (omega arith)

later_than_next : (target : Target) (range : RangeSpec) (ranges : List RangeSpec) (j : ℕ) → IsLast target ranges j
    → (k : ℕ) (d : RangeSpec) → suc j < k → k < length (range ∷ ranges)
    → is_bound_below (get_or (range ∷ ranges) k d).from target ≡ false
later_than_next target range ranges j last zero d above there = absurd (omega arith)
later_than_next target range ranges j last (suc k) d above there = last.later k d (omega arith) (omega arith)

last_at : (target : Target) (range : RangeSpec) (ranges : List RangeSpec) (j : ℕ)
    → ((m : ℕ) → last_within target ranges ≡ Some m → IsLast target ranges m)
    → (o : Option ℕ) (b : Bool) → last_within target ranges ≡ o → is_bound_below range.from target ≡ b
    → option_or (option_map (λ (k : ℕ). suc k) o) (cond {A = Option ℕ} b (Some 0) None) ≡ Some j
    → IsLast target (range ∷ ranges) j
last_at target range ranges j more None true is same e =
    let first : 0 ≡ j = cc in
    subst (λ (k : ℕ). IsLast target (range ∷ ranges) k) first (record {
      there = omega arith;
      within = λ d. same;
      later = later_than_first target range ranges (none_within target ranges is);
    })
last_at target range ranges j more None false is same e = absurd (cc)
last_at target range ranges j more (Some m) b is same e =
    let next : suc m ≡ j = cc in
    let last = more m is in
    subst (λ (k : ℕ). IsLast target (range ∷ ranges) k) next (record {
      there = omega (arith, last.there);
      within = last.within;
      later = later_than_next target range ranges m last;
    })

-- what is found is the last
found_last : (target : Target) (ranges : List RangeSpec) (j : ℕ) → last_within target ranges ≡ Some j
    → IsLast target ranges j
found_last target [] j e = absurd (cc)
found_last target (range ∷ ranges) j e =
    last_at target range ranges j (found_last target ranges) (last_within target ranges)
    (is_bound_below range.from target)
    refl refl e

-- ---- a zone's ranges in order

-- ranges of which the first begins at the empty bound, and each other one above the one before it
pub record AreInOrder (ranges : List RangeSpec) : Type 0 where
  pub some : 0 < length ranges
  pub first : (target : Target) → is_bound_below (bound_at ranges 0) target ≡ true
  pub parts : (target : Target) → IsPartitionedBy (λ range. is_bound_below range.from target) ranges

empty_within : (bound : List FieldValue) (target : Target) → (length bound == 0) ≡ true → is_bound_below bound target
    ≡ true
empty_within [] target e = refl
empty_within (v ∷ bound) target e = absurd (grind (arith, nat_tests))

parted_all : (target : Target) (range : RangeSpec) (ranges : List RangeSpec) → Rise range.from ranges
    → IsPartitionedBy (λ other. is_bound_below other.from target) (range ∷ ranges)
parted_all target range ranges up zero zero d le there within = within
parted_all target range ranges up zero (suc j) d le there within =
    all_before target range.from ranges up j d (omega arith) within
parted_all target range ranges up (suc i) zero d le there within = absurd (omega arith)
parted_all target range ranges up (suc i) (suc j) d le there within =
    parted target range.from ranges up i j d (omega arith) (omega arith) within

pub in_order : (i : ℕ) (ranges : List RangeSpec) → disorder_in i ranges ≡ None → AreInOrder ranges
in_order i [] e = absurd (cc)
in_order i (range ∷ ranges) e =
    let both = passed (length range.from == 0) (place.Bound i 0) (fall_in i 1 range.from ranges) e in
    record {
      some = omega arith;
      first = λ target. empty_within range.from target both.0;
      parts = λ target. parted_all target range ranges (rise i 1 range.from ranges both.1);
    }

within_some : (target : Target) (ranges : List RangeSpec) (o : Option ℕ) → last_within target ranges ≡ o
    → AreInOrder ranges
    → (j : ℕ) × (last_within target ranges ≡ Some j)
within_some target ranges None is order =
    let none = none_within target ranges is 0 no_range order.some in
    let some = order.first target in
    absurd (cc)
within_some target ranges (Some j) is order = (j, is)

-- a target is held at the last place, and nowhere else
held_once : (target : Target) (ranges : List RangeSpec) (j : ℕ) → AreInOrder ranges → IsLast target ranges j
    → IsHeldAt target ranges j × ((other : ℕ) → IsHeldAt target ranges other → other ≡ j)
held_once target ranges j order last = (
  record {
    there = last.there;
    begun = last.within no_range;
    before_next = λ there. last.later (j + 1) no_range (omega arith) there;
  },
  λ other held. only other held (cases_lt other j) (cases_lt j other),
)
  where
    only : (other : ℕ) → IsHeldAt target ranges other → (other < j) ⊎ (j ≤ other) → (j < other) ⊎ (other ≤ j) → other
        ≡ j
    only other held (inl below) up =
        let next : is_bound_below (bound_at ranges (other + 1)) target
        ≡ true = order.parts target (other + 1) j no_range
        (omega arith) last.there (last.within no_range) in
        let none : is_bound_below (bound_at ranges (other + 1)) target ≡ false = held.before_next
        (omega (arith, last.there)) in
        absurd (cc)
    only other held (inr le) (inl above) =
        let none = last.later other no_range above held.there in
        let some = held.begun in
        absurd (cc)
    only other held (inr le) (inr ge) = omega arith

-- what a binary search finds: behind the last
point_last : (target : Target) (ranges : List RangeSpec) (p : ℕ) → p ≤ length ranges
    → IsPartitionPoint (λ range. is_bound_below range.from target ≡ true) (λ range. is_bound_below range.from target
    ≡ false)
    ranges p
    → (j : ℕ) → IsLast target ranges j → p ≡ j + 1
point_last target ranges p le point j last = by (cases_lt j p) (cases_lt (j + 1) p)
  where
    by : (j < p) ⊎ (p ≤ j) → (j + 1 < p) ⊎ (p ≤ j + 1) → p ≡ j + 1
    by (inr below) up =
        let none : is_bound_below (get_or ranges j no_range).from target
        ≡ false = point.1 j no_range below last.there in
        let some = last.within no_range in
        absurd (cc)
    by (inl above) (inl more) =
        let some : is_bound_below (get_or ranges (j + 1) no_range).from target ≡ true = point.0 (j + 1) no_range
        (omega arith) more in
        let none = last.later (j + 1) no_range (omega arith) (omega arith) in
        absurd (cc)
    by (inl above) (inr most) = omega arith

-- ---- what is promised

pub has_one : (target : Target) (ranges : List RangeSpec) → AreInOrder ranges
    → (j : ℕ) × (last_within target ranges ≡ Some j) × IsHeldAt target ranges j
    × ((other : ℕ) → IsHeldAt target ranges other → other ≡ j)
has_one target ranges order =
    let some = within_some target ranges (last_within target ranges) refl order in
    let once = held_once target ranges some.0 order (found_last target ranges some.0 some.1) in
    (some.0, some.1, once.0, once.1)

pub point_found : (target : Target) (ranges : List RangeSpec) (p : ℕ) → AreInOrder ranges → p ≤ length ranges
    → IsPartitionPoint (λ range. is_bound_below range.from target ≡ true) (λ range. is_bound_below range.from target
    ≡ false)
    ranges p
    → (0 < p) × (last_within target ranges ≡ Some (p - 1))
point_found target ranges p order le point =
    let some = within_some target ranges (last_within target ranges) refl order in
    let behind = point_last target ranges p le point some.0 (found_last target ranges some.0 some.1) in
    (omega arith, some.1 ∙ ap Some (omega arith))
