-- Some leaves of some zones, in ascending order; and where the ranges before a zone, and behind it, have their leaves.
use Rattle.std.proofs.Common.{◌≡◌, ◌∙◌, ◌<◌, ◌≤◌, ◌+◌, ◌-◌, ◌⊎◌, ◌||◌, inl, inr, ℕ, zero, suc, Bool, true, false, Some}
use Rattle.std.proofs.Common.{List, [], ◌∷◌, ◌++◌, length, take, nat_eq, slice_get, refl, sym, ap, arith}
use Rattle.std.specs.List.{AllByRecursion, flat_map, list_any}
use Rattle.std.proofs.lemmas.Bool.{cases_lt, or_left, or_right}
use Rattle.std.proofs.lemmas.Bool.Decides.{nat_tests}
use Rattle.std.proofs.lemmas.List.{length-append}
use Rattle.std.proofs.lemmas.List.Folds.{list_any-append}
use Rattle.mon_topo.proofs.PartLemmas.{IsPart, length-zones_of, part_at, zone_of_part}
use Rattle.mon_topo.specs.RangeHistories.{IsInZoneOf}
use Rattle.mon_value.specs.Histories.{same_leaf, zone_numbered}
use Rattle.mon_topo.specs.Zones.{first_leaf, first_range, leaf_zones, no_zone, range_zones, zone_at}
use Rattle.mon_topo.specs.declared.zones.ZoneSpec.{ZoneSpec}
use Rattle.mon_value.specs.declared.positions.Leaf.{Leaf}
use Rattle.mon_value.specs.declared.positions.Range.{Range}
use Rattle.mon_value.specs.declared.positions.Zone.{Zone}
use Rattle.typed_rows.proofs.JoinedRows.{all-map}
use Rattle.query_traces.specs.Rounds.{area_of}
use Rattle.query_core.proofs.DividedRows.{AreLeavesOf, AreOtherLeaves, AreOtherZones, SomeLeaves, all_leaves}
use Rattle.query_core.proofs.ReadLeaves.{Ascend, among_from, ascend_append, ascend_before, ascend_once, ascend_within}
use Rattle.query_core.proofs.ReadLeaves.{leaves_ascend, leaves_from}
use Rattle.query_traces.proofs.ZoneFacts.{leaves_next, ranges_next, zone_of_leaf_at}

-- ---- the parts of the zones before one

parts_up : {X Y : Type 0} (parts : X → List Y) (xs : List X) (a b : ℕ) → a ≤ b
    → length (flat_map parts (take a xs)) ≤ length (flat_map parts (take b xs))
parts_up parts xs zero b less = omega arith
parts_up parts xs (suc a) zero less = absurd (omega (arith, less))
parts_up parts [] (suc a) (suc b) less = omega arith
parts_up parts (x ∷ xs) (suc a) (suc b) less =
    let rest = parts_up parts xs a b (omega (arith, less)) in
    omega (
      arith,
      rest,
      length-append (parts x) (flat_map parts (take a xs)),
      length-append (parts x) (flat_map parts (take b xs)),
    )

module _ (zones : List ZoneSpec) where
  pub leaves_up : (a b : ℕ) → a ≤ b → first_leaf zones a ≤ first_leaf zones b
  leaves_up a b less = parts_up (λ (zone : ZoneSpec). zone.leaves) zones a b less

  pub ranges_up : (a b : ℕ) → a ≤ b → first_range zones a ≤ first_range zones b
  ranges_up a b less = parts_up (λ (zone : ZoneSpec). zone.ranges) zones a b less

  -- ---- chosen leaves

  -- from one zone on, up to another
  abbrev pub ChosenAscend : ℕ → List SomeLeaves → ℕ → Type 0
  ChosenAscend from [] to = from ≤ to
  ChosenAscend from (some ∷ chosen) to =
      (from ≤ some.0) × (some.0 < length zones)
      × Ascend (first_leaf zones some.0) some.1 (first_leaf zones (some.0 + 1)) × ChosenAscend (some.0 + 1) chosen to

  pub chosen_before : (from first : ℕ) (chosen : List SomeLeaves) (to : ℕ) → from ≤ first → ChosenAscend first chosen to
      → ChosenAscend from chosen to
  chosen_before from first [] to before all = omega (arith, before, all)
  chosen_before from first (some ∷ chosen) to before all = (omega (arith, before, all.0), all.1, all.2, all.3)

  pub chosen_append : (from : ℕ) (chosen : List SomeLeaves) (middle : ℕ) (more : List SomeLeaves) (to : ℕ)
      → ChosenAscend from chosen middle → ChosenAscend middle more to → ChosenAscend from (chosen ++ more) to
  chosen_append from [] middle more to all later = chosen_before from middle more to all later
  chosen_append from (some ∷ chosen) middle more to all later =
      (all.0, all.1, all.2, chosen_append (some.0 + 1) chosen middle more to all.3 later)

  all_ascend : (from : ℕ) (chosen : List SomeLeaves) (to : ℕ) → ChosenAscend from chosen to
      → Ascend (first_leaf zones from) (all_leaves chosen) (first_leaf zones to)
  all_ascend from [] to all = leaves_up from to all
  all_ascend from (some ∷ chosen) to all =
      ascend_append (first_leaf zones from) some.1 (first_leaf zones (some.0 + 1)) (all_leaves chosen)
      (first_leaf zones to)
      (ascend_before (first_leaf zones from) (first_leaf zones some.0) some.1 (first_leaf zones (some.0 + 1))
      (leaves_up from some.0 all.0) all.2)
      (all_ascend (some.0 + 1) chosen to all.3)

  pub chosen_once : (from : ℕ) (chosen : List SomeLeaves) (to : ℕ) → ChosenAscend from chosen to
      → AreOtherLeaves (all_leaves chosen)
  chosen_once from chosen to all =
      ascend_once (first_leaf zones from) (all_leaves chosen) (first_leaf zones to) (all_ascend from chosen to all)

  later_zones : (z from : ℕ) (chosen : List SomeLeaves) (to : ℕ) → z < from → ChosenAscend from chosen to
      → AllByRecursion (λ (other : SomeLeaves). nat_eq z other.0 ≡ false) chosen
  later_zones z from [] to below all = tt
  later_zones z from (some ∷ chosen) to below all =
      let differ : nat_eq z some.0 ≡ false = let low : from ≤ some.0 = all.0 in grind (arith, nat_tests) in
      (differ, later_zones z (some.0 + 1) chosen to (omega (arith, below, all.0)) all.3)

  zones_once : (from : ℕ) (chosen : List SomeLeaves) (to : ℕ) → ChosenAscend from chosen to → AreOtherZones chosen
  zones_once from [] to all = tt
  zones_once from (some ∷ chosen) to all =
      (later_zones some.0 (some.0 + 1) chosen to (omega arith) all.3, zones_once (some.0 + 1) chosen to all.3)

  leaves_once : (from : ℕ) (chosen : List SomeLeaves) (to : ℕ) → ChosenAscend from chosen to
      → AllByRecursion (λ (some : SomeLeaves). AreOtherLeaves some.1) chosen
  leaves_once from [] to all = tt
  leaves_once from (some ∷ chosen) to all = (
    ascend_once (first_leaf zones some.0) some.1 (first_leaf zones (some.0 + 1)) all.2,
    leaves_once (some.0 + 1) chosen to all.3,
  )

  -- a leaf between a zone's first one and the next zone's
  pub leaf_in_zone : (k : ℕ) (leaf : Leaf) → k < length zones → first_leaf zones k ≤ leaf.0
      → leaf.0 < first_leaf zones (k + 1) → slice_get (leaf_zones zones) leaf.0 ≡ Some (zone_numbered k)
  leaf_in_zone k leaf there from to =
      let place : first_leaf zones k + (leaf.0 - first_leaf zones k) ≡ leaf.0 = omega (arith, from) in
      ap (slice_get (leaf_zones zones)) (sym place)
      ∙ zone_of_leaf_at zones k (leaf.0 - first_leaf zones k) there (omega (arith, from, to, leaves_next zones k there))

  chosen_zoned : (from : ℕ) (chosen : List SomeLeaves) (to : ℕ) → ChosenAscend from chosen to
      → AllByRecursion (λ (some : SomeLeaves).
      AllByRecursion (λ (leaf : Leaf). slice_get (leaf_zones zones) leaf.0 ≡ Some (zone_numbered some.0)) some.1) chosen
  chosen_zoned from [] to all = tt
  chosen_zoned from (some ∷ chosen) to all = (
    all-map (λ (leaf : Leaf). (first_leaf zones some.0 ≤ leaf.0) × (leaf.0 < first_leaf zones (some.0 + 1)))
        (λ (leaf : Leaf). slice_get (leaf_zones zones) leaf.0 ≡ Some (zone_numbered some.0)) some.1
        (λ leaf between. leaf_in_zone some.0 leaf all.1 between.0 between.1)
        (ascend_within (first_leaf zones some.0) some.1 (first_leaf zones (some.0 + 1)) all.2),
    chosen_zoned (some.0 + 1) chosen to all.3,
  )

  pub chosen_leaves : (from : ℕ) (chosen : List SomeLeaves) (to : ℕ) → ChosenAscend from chosen to → AreLeavesOf zones
      chosen
  chosen_leaves from chosen to all = record {
    zones_once = zones_once from chosen to all;
    leaves_once = leaves_once from chosen to all;
    zoned = chosen_zoned from chosen to all;
  }

  -- ---- all leaves of zones

  abbrev pub zone_leaves : ℕ → SomeLeaves
  zone_leaves k = (k, leaves_from (first_leaf zones k) (area_of zones k).leaves)

  abbrev pub zones_from : ℕ → ℕ → List SomeLeaves
  zones_from k zero = []
  zones_from k (suc count) = zone_leaves k ∷ zones_from (k + 1) count

  pub zone_ascends : (k : ℕ) → k < length zones
      → Ascend (first_leaf zones k) (leaves_from (first_leaf zones k) (area_of zones k).leaves)
      (first_leaf zones (k + 1))
  zone_ascends k there =
      leaves_ascend (first_leaf zones k) (area_of zones k).leaves (first_leaf zones (k + 1))
      (sym (leaves_next zones k there))

  pub zones_ascend : (k count to : ℕ) → k + count ≡ to → to ≤ length zones → ChosenAscend k (zones_from k count) to
  zones_ascend k zero to e within = omega (arith, e)
  zones_ascend k (suc count) to e within = (
    omega arith,
    omega (arith, e, within),
    zone_ascends k (omega (arith, e, within)),
    zones_ascend (k + 1) count to (omega (arith, e)) within,
  )

  pub front_among : (leaf : Leaf) (some more : List Leaf) → list_any (same_leaf leaf) some ≡ true
      → list_any (same_leaf leaf) (some ++ more) ≡ true
  front_among leaf some more there =
      list_any-append (same_leaf leaf) some more
      ∙ or_left (list_any (same_leaf leaf) some) (list_any (same_leaf leaf) more) there

  back_among : (leaf : Leaf) (some more : List Leaf) → list_any (same_leaf leaf) more ≡ true
      → list_any (same_leaf leaf) (some ++ more) ≡ true
  back_among leaf some more there =
      list_any-append (same_leaf leaf) some more
      ∙ or_right (list_any (same_leaf leaf) some) (list_any (same_leaf leaf) more) there

  among_by : (leaf : Leaf) (k count : ℕ) → k < length zones → first_leaf zones k ≤ leaf.0
      → (first_leaf zones (k + 1) ≤ leaf.0 → list_any (same_leaf leaf) (all_leaves (zones_from (k + 1) count)) ≡ true)
      → (leaf.0 < first_leaf zones (k + 1)) ⊎ (first_leaf zones (k + 1) ≤ leaf.0)
      → list_any (same_leaf leaf) (all_leaves (zones_from k (suc count))) ≡ true
  among_by leaf k count there from later (inl below) =
      front_among leaf (leaves_from (first_leaf zones k) (area_of zones k).leaves)
      (all_leaves (zones_from (k + 1) count))
      (among_from leaf (first_leaf zones k) (area_of zones k).leaves from
      (omega (arith, below, leaves_next zones k there)))
  among_by leaf k count there from later (inr past) =
      back_among leaf (leaves_from (first_leaf zones k) (area_of zones k).leaves)
      (all_leaves (zones_from (k + 1) count))
      (later past)

  -- a leaf of some zones is among them
  pub among_zones : (leaf : Leaf) (k count to : ℕ) → k + count ≡ to → to ≤ length zones → first_leaf zones k ≤ leaf.0
      → leaf.0 < first_leaf zones to → list_any (same_leaf leaf) (all_leaves (zones_from k count)) ≡ true
  among_zones leaf k zero to e within from below =
      let same : first_leaf zones k ≡ first_leaf zones to = ap (first_leaf zones) (omega (arith, e)) in
      absurd (omega (arith, same, from, below))
  among_zones leaf k (suc count) to e within from below =
      among_by leaf k count (omega (arith, e, within)) from
      (λ past. among_zones leaf (k + 1) count to (omega (arith, e)) within past below)
      (cases_lt leaf.0 (first_leaf zones (k + 1)))

  among_first : (leaf : Leaf) (first : SomeLeaves) (some more : List SomeLeaves) (b : Bool)
      → list_any (same_leaf leaf) first.1 ≡ b
      → (list_any (same_leaf leaf) (all_leaves some) ≡ true → list_any (same_leaf leaf) (all_leaves (some ++ more))
      ≡ true)
      → list_any (same_leaf leaf) (all_leaves (first ∷ some)) ≡ true
      → list_any (same_leaf leaf) (all_leaves (first ∷ (some ++ more))) ≡ true
  among_first leaf first some more true e later there = front_among leaf first.1 (all_leaves (some ++ more)) e
  among_first leaf first some more false e later there =
      back_among leaf first.1 (all_leaves (some ++ more))
      (later (sym (list_any-append (same_leaf leaf) first.1 (all_leaves some)
      ∙ ap (λ b. b || list_any (same_leaf leaf) (all_leaves some)) e) ∙ there))

  pub among_append : (leaf : Leaf) (some more : List SomeLeaves)
      → list_any (same_leaf leaf) (all_leaves some) ≡ true → list_any (same_leaf leaf) (all_leaves (some ++ more))
      ≡ true
  among_append leaf [] more there = absurd cc
  among_append leaf (first ∷ some) more there =
      among_first leaf first some more (list_any (same_leaf leaf) first.1) refl (among_append leaf some more) there

  pub among_behind : (leaf : Leaf) (some more : List SomeLeaves)
      → list_any (same_leaf leaf) (all_leaves more) ≡ true → list_any (same_leaf leaf) (all_leaves (some ++ more))
      ≡ true
  among_behind leaf [] more there = there
  among_behind leaf (first ∷ some) more there =
      back_among leaf first.1 (all_leaves (some ++ more)) (among_behind leaf some more there)

  -- ---- the zone of a range and of its leaf

  some_zone : (a b : ℕ) → Some (zone_numbered a) ≡ Some (zone_numbered b) → a ≡ b
  some_zone a b e = (let same : zone_numbered a ≡ zone_numbered b = cc in ap (λ (zone : Zone). zone.0) same)

  -- the number of a zone, of which a range and a leaf are
  record IsZoneOf (range : Range) (leaf : Leaf) : Type 0 where
    zone : ℕ
    there : zone < length zones
    range_from : first_range zones zone ≤ range.0
    range_to : range.0 < first_range zones (zone + 1)
    leaf_from : first_leaf zones zone ≤ leaf.0
    leaf_to : leaf.0 < first_leaf zones (zone + 1)

  zone_of : (range : Range) (leaf : Leaf) → IsInZoneOf zones range leaf → IsZoneOf range leaf
  zone_of range leaf zoned =
      let leaves = λ (zone : ZoneSpec). zone.leaves in
      let ranges = λ (zone : ZoneSpec). zone.ranges in
      let own : IsPart leaves zones no_zone leaf.0 =
      part_at leaves zones no_zone leaf.0 (omega (arith, zoned.0, length-zones_of leaves 0 zones)) in
      let other : IsPart ranges zones no_zone range.0 =
      part_at ranges zones no_zone range.0 (omega (arith, zoned.1, length-zones_of ranges 0 zones)) in
      let of_leaf : slice_get (leaf_zones zones) (first_leaf zones own.i + own.j) ≡ Some (zone_numbered (0 + own.i)) =
      zone_of_part leaves 0 zones own.i own.j own.there own.within in
      let of_range : slice_get (range_zones zones) (first_range zones other.i + other.j)
      ≡ Some (zone_numbered (0 + other.i)) =
      zone_of_part ranges 0 zones other.i other.j other.there other.within in
      let same : Some (zone_numbered (0 + own.i)) ≡ Some (zone_numbered (0 + other.i)) =
      sym of_leaf ∙ ap (slice_get (leaf_zones zones)) (sym own.is) ∙ zoned.2
      ∙ ap (slice_get (range_zones zones)) other.is ∙ of_range in
      let zone : other.i ≡ own.i = omega (arith, some_zone (0 + own.i) (0 + other.i) same) in
      let start : first_range zones other.i ≡ first_range zones own.i = ap (first_range zones) zone in
      let count : length (zone_at zones other.i).ranges ≡ (area_of zones own.i).ranges =
      ap (λ n. length (zone_at zones n).ranges) zone in
      record {
        zone = own.i;
        there = own.there;
        range_from = omega (arith, other.is, start);
        range_to = omega (arith, other.is, start, count, other.within, ranges_next zones own.i own.there);
        leaf_from = omega (arith, own.is);
        leaf_to = omega (arith, own.is, own.within, leaves_next zones own.i own.there);
      }

  -- the ranges before a zone are on leaves before it
  pub leaf_before : (k : ℕ) (range : Range) (leaf : Leaf) → IsInZoneOf zones range leaf → range.0 < first_range zones k
      → leaf.0 < first_leaf zones k
  leaf_before k range leaf zoned before = by_zone (cases_lt (zone_of range leaf zoned).zone k)
    where
      by_zone : ((zone_of range leaf zoned).zone < k) ⊎ (k ≤ (zone_of range leaf zoned).zone) → leaf.0
          < first_leaf zones k
      by_zone (inl less) =
          let of = zone_of range leaf zoned in
          omega (arith, of.leaf_to, leaves_up (of.zone + 1) k (omega (arith, less)))
      by_zone (inr more) =
          let of = zone_of range leaf zoned in absurd (omega (arith, before, of.range_from, ranges_up k of.zone more))

  -- and those from a zone on are on leaves from there on
  pub leaf_behind : (k : ℕ) (range : Range) (leaf : Leaf) → IsInZoneOf zones range leaf → first_range zones k ≤ range.0
      → first_leaf zones k ≤ leaf.0
  leaf_behind k range leaf zoned behind = by_zone (cases_lt (zone_of range leaf zoned).zone k)
    where
      by_zone : ((zone_of range leaf zoned).zone < k) ⊎ (k ≤ (zone_of range leaf zoned).zone) → first_leaf zones k
          ≤ leaf.0
      by_zone (inl less) =
          let of = zone_of range leaf zoned in
          absurd (omega (arith, behind, of.range_to, ranges_up (of.zone + 1) k (omega (arith, less))))
      by_zone (inr more) =
          let of = zone_of range leaf zoned in omega (arith, of.leaf_from, leaves_up k of.zone more)
