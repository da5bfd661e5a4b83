-- Each leaf stands at most once among the leaves of the zones.
use Rattle.std.proofs.Common.{◌≡◌, ℕ, zero, suc, ◌+◌, ◌<◌, ◌≤◌, ◌≢◌, Bool, List, [], ◌∷◌, ◌&&◌, ◌==◌, true, false}
use Rattle.std.proofs.Common.{refl, ◌∙◌, arith, cond}
use Rattle.std.proofs.lemmas.List.Sums.{sum_by_push, sum_by-append}
use Rattle.std.proofs.lemmas.Bool.Decides.{nat_tests}
use mathlib.Core.Logic.{dite}
use native.Mathlib.Decide.{ℕ_discrete}
use Rattle.raise_table.specs.declared.places.ZoneLeaf.{ZoneLeaf}
use Rattle.raise_table.specs.Places.{leaves_from, leaves_in, leaves_of_zone, zone_leaf}
use Rattle.raise_table.specs.RaiseRule.{same_zone_leaf, times_leaf}

abbrev one_if : Bool → ℕ
one_if b = cond b 1 0

abbrev one_if_same : ZoneLeaf → ZoneLeaf → ℕ
one_if_same leaf other = one_if (same_zone_leaf leaf other)

at_most_one : (b : Bool) → one_if b ≤ 1
at_most_one false = omega arith
at_most_one true = omega arith

other_zone : (n m : ℕ) (same : Bool) → n ≢ m → one_if ((n == m) && same) ≡ 0
other_zone n m same apart = let e : (n == m) ≡ false = grind (arith, nat_tests) in rw e refl

other_child : (same : Bool) (n m : ℕ) → n ≢ m → one_if (same && (n == m)) ≡ 0
other_child false n m apart = refl
other_child true n m apart = let e : (n == m) ≡ false = grind (arith, nat_tests) in rw e refl

-- ---- the leaves of one zone

none_past : (zone count : ℕ) (leaf : ZoneLeaf) → count ≤ leaf.child → times_leaf leaf (leaves_of_zone zone count) ≡ 0
none_past zone zero leaf past = refl
none_past zone (suc count) leaf past = sum_by_push (one_if_same leaf) (leaves_of_zone zone count)
    (zone_leaf zone count) ∙ (
    let before : times_leaf leaf (leaves_of_zone zone count) ≡ 0 = none_past zone count leaf (omega arith) in
    let last : one_if_same leaf (zone_leaf zone count) ≡ 0 = other_child (leaf.zone.0 == zone) leaf.child count
    (λ e. omega arith) in
    omega arith
    )

none_elsewhere : (zone count : ℕ) (leaf : ZoneLeaf) → leaf.zone.0 ≢ zone
    → times_leaf leaf (leaves_of_zone zone count) ≡ 0
none_elsewhere zone zero leaf apart = refl
none_elsewhere zone (suc count) leaf apart = sum_by_push (one_if_same leaf) (leaves_of_zone zone count)
    (zone_leaf zone count) ∙ (
    let before : times_leaf leaf (leaves_of_zone zone count) ≡ 0 = none_elsewhere zone count leaf apart in
    let last : one_if_same leaf (zone_leaf zone count) ≡ 0 = other_zone leaf.zone.0 zone (leaf.child == count) apart in
    omega arith
    )

once_in_zone : (zone count : ℕ) (leaf : ZoneLeaf) → times_leaf leaf (leaves_of_zone zone count) ≤ 1
once_in_zone zone zero leaf = omega arith
once_in_zone zone (suc count) leaf =
    let all : times_leaf leaf (leaves_of_zone zone (suc count))
    ≡ times_leaf leaf (leaves_of_zone zone count) + one_if_same leaf
    (zone_leaf zone count)
    = sum_by_push (one_if_same leaf) (leaves_of_zone zone count) (zone_leaf zone count) in
    dite (ℕ_discrete leaf.child count)
    (λ e.
    let before : times_leaf leaf (leaves_of_zone zone count) ≡ 0 = none_past zone count leaf (omega arith) in
    let last : one_if_same leaf (zone_leaf zone count) ≤ 1 = at_most_one (same_zone_leaf leaf (zone_leaf zone count)) in
    omega arith)
    (λ apart.
    let before : times_leaf leaf (leaves_of_zone zone count) ≤ 1 = once_in_zone zone count leaf in
    let last : one_if_same leaf (zone_leaf zone count) ≡ 0 = other_child (leaf.zone.0 == zone) leaf.child count apart in
    omega arith)

-- ---- the leaves of all zones

none_before : (first : ℕ) (counts : List ℕ) (leaf : ZoneLeaf) → leaf.zone.0 < first
    → times_leaf leaf (leaves_from first counts) ≡ 0
none_before first [] leaf low = refl
none_before first (count ∷ counts) leaf low = sum_by-append (one_if_same leaf) (leaves_of_zone first count)
    (leaves_from (first + 1) counts) ∙ (
    let here : times_leaf leaf (leaves_of_zone first count) ≡ 0 = none_elsewhere first count leaf (λ e. omega arith) in
    let later : times_leaf leaf (leaves_from (first + 1) counts) ≡ 0 =
    none_before (first + 1) counts leaf (omega arith) in
    omega arith
    )

once_from : (first : ℕ) (counts : List ℕ) (leaf : ZoneLeaf) → times_leaf leaf (leaves_from first counts) ≤ 1
once_from first [] leaf = omega arith
once_from first (count ∷ counts) leaf =
    let all : times_leaf leaf (leaves_from first (count ∷ counts)) ≡ times_leaf leaf (leaves_of_zone first count)
    + times_leaf leaf (leaves_from (first + 1) counts)
    = sum_by-append (one_if_same leaf) (leaves_of_zone first count) (leaves_from (first + 1) counts) in
    dite (ℕ_discrete leaf.zone.0 first)
    (λ e.
    let here : times_leaf leaf (leaves_of_zone first count) ≤ 1 = once_in_zone first count leaf in
    let later : times_leaf leaf (leaves_from (first + 1) counts) ≡ 0 =
    none_before (first + 1) counts leaf (omega arith) in
    omega arith)
    (λ apart.
    let here : times_leaf leaf (leaves_of_zone first count) ≡ 0 = none_elsewhere first count leaf apart in
    let later : times_leaf leaf (leaves_from (first + 1) counts) ≤ 1 = once_from (first + 1) counts leaf in
    omega arith)

pub leaf_stands_once : (zones : List ℕ) (leaf : ZoneLeaf) → times_leaf leaf (leaves_in zones) ≤ 1
leaf_stands_once zones leaf = once_from 0 zones leaf
