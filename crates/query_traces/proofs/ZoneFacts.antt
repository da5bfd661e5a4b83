-- Where the leaves and the ranges of each zone stand.
use Rattle.std.proofs.Common.{◌≡◌, ◌∙◌, ℕ, zero, suc, ◌+◌, ◌<◌, ◌≤◌, ◌-◌, List, [], ◌∷◌, length, take, drop, get_or}
use Rattle.std.proofs.Common.{slice_get, Some, sym, ap, length-append, arith}
use Rattle.std.specs.List.{flat_map}
use Rattle.std.proofs.lemmas.List.{drop_more, take_all}
use Rattle.std.proofs.lemmas.List.FromFn.{get_or-map-range_with_len, length-map-range_with_len}
use Rattle.mon_topo.proofs.PartLemmas.{IsPart, length-zones_of, part_at, zone_of_part}
use Rattle.mon_topo.specs.RangeHistories.{IsInZoneOf}
use Rattle.mon_topo.specs.Zones.{first_leaf, first_range, leaf_zones, leaves_in, no_zone, range_zones, ranges_in}
use Rattle.mon_value.specs.Histories.{zone_numbered}
use Rattle.mon_topo.specs.Zones.{zone_at}
use Rattle.mon_topo.specs.declared.zones.ZoneSpec.{ZoneSpec}
use Rattle.mon_value.specs.declared.positions.Leaf.{Leaf}
use Rattle.mon_value.specs.declared.positions.Range.{Range}
use Rattle.mon_value.specs.declared.positions.Zone.{Zone}
use Rattle.query_traces.specs.Rounds.{area_of, areas_of}
use Rattle.query_traces.specs.declared.areas.Area.{Area}

parts_next : {X Y : Type 0} (parts : X → List Y) (xs : List X) (i : ℕ) (d : X) → i < length xs
    → length (flat_map parts (take (suc i) xs)) ≡ length (flat_map parts (take i xs)) + length (parts (get_or xs i d))
parts_next parts [] i d there = absurd (omega (arith, there))
parts_next parts (x ∷ xs) zero d there = omega (arith, length-append (parts x) [])
parts_next parts (x ∷ xs) (suc i) d there =
    let more = parts_next parts xs i d (omega (arith, there)) in
    length-append (parts x) (flat_map parts (take (suc i) xs))
    ∙ omega (arith, more, length-append (parts x) (flat_map parts (take i xs)))

suc_is : (k : ℕ) → k + 1 ≡ suc k
suc_is k = omega arith

module _ (zones : List ZoneSpec) where
  pub leaves_next : (k : ℕ) → k < length zones → first_leaf zones (k + 1) ≡ first_leaf zones k
      + (area_of zones k).leaves
  leaves_next k there = ap (first_leaf zones) (suc_is k) ∙ parts_next (λ (zone : ZoneSpec). zone.leaves) zones k
      no_zone there

  pub ranges_next : (k : ℕ) → k < length zones
      → first_range zones (k + 1) ≡ first_range zones k + (area_of zones k).ranges
  ranges_next k there = ap (first_range zones) (suc_is k) ∙ parts_next (λ (zone : ZoneSpec). zone.ranges) zones k
      no_zone there

  pub all_leaves : (k : ℕ) → length zones ≤ k → first_leaf zones k ≡ length (leaves_in zones)
  all_leaves k past = ap (λ (some : List ZoneSpec). length (leaves_in some)) (take_all k zones past)

  pub all_ranges : (k : ℕ) → length zones ≤ k → first_range zones k ≡ length (ranges_in zones)
  all_ranges k past = ap (λ (some : List ZoneSpec). length (ranges_in some)) (take_all k zones past)

  -- the zones from one on
  pub areas_from : (k : ℕ) → k < length zones → drop k (areas_of zones) ≡ area_of zones k ∷ drop (k + 1)
      (areas_of zones)
  areas_from k there =
      drop_more (areas_of zones) k (area_of zones k)
      (omega (arith, there, length-map-range_with_len (area_of zones) 0 (length zones)))
      ∙ ap (λ (one : Area). one ∷ drop (k + 1) (areas_of zones))
      (get_or-map-range_with_len (area_of zones) 0 (length zones) k k (area_of zones k) there (omega arith))

  -- ---- leaves and ranges of a zone

  pub zone_of_leaf_at : (k j : ℕ) → k < length zones → j < (area_of zones k).leaves
      → slice_get (leaf_zones zones) (first_leaf zones k + j) ≡ Some (zone_numbered k)
  zone_of_leaf_at k j there within =
      zone_of_part (λ (zone : ZoneSpec). zone.leaves) 0 zones k j there within
      ∙ ap (λ n. Some (zone_numbered n)) (omega arith)

  pub zone_of_range_at : (k j : ℕ) → k < length zones → j < (area_of zones k).ranges
      → slice_get (range_zones zones) (first_range zones k + j) ≡ Some (zone_numbered k)
  zone_of_range_at k j there within =
      zone_of_part (λ (zone : ZoneSpec). zone.ranges) 0 zones k j there within
      ∙ ap (λ n. Some (zone_numbered n)) (omega arith)

  some_zone : (a b : ℕ) → Some (zone_numbered a) ≡ Some (zone_numbered b) → a ≡ b
  some_zone a b e = (let same : zone_numbered a ≡ zone_numbered b = cc in ap (λ (zone : Zone). zone.0) same)

  -- a leaf in the zone of a range is one of that zone's
  pub leaf_zoned : (k : ℕ) (range : Range) (leaf : Leaf) → k < length zones → first_range zones k ≤ range.0
      → range.0 < first_range zones k + (area_of zones k).ranges → IsInZoneOf zones range leaf
      → (first_leaf zones k ≤ leaf.0) × (leaf.0 < first_leaf zones k + (area_of zones k).leaves)
  leaf_zoned k range leaf there from to zoned =
      let leaves = λ (zone : ZoneSpec). zone.leaves in
      let ranges = λ (zone : ZoneSpec). zone.ranges in
      let part : IsPart leaves zones no_zone leaf.0 =
      part_at leaves zones no_zone leaf.0 (omega (arith, zoned.0, length-zones_of leaves 0 zones)) in
      let j = range.0 - first_range zones k in
      let of_range : slice_get (range_zones zones) (first_range zones k + j) ≡ Some (zone_numbered (0 + k)) =
      zone_of_part ranges 0 zones k j there (omega (arith, from, to)) in
      let of_leaf : slice_get (leaf_zones zones) (first_leaf zones part.i + part.j)
      ≡ Some (zone_numbered (0 + part.i)) =
      zone_of_part leaves 0 zones part.i part.j part.there part.within in
      let place : range.0 ≡ first_range zones k + j = omega (arith, from) in
      let same : Some (zone_numbered (0 + part.i)) ≡ Some (zone_numbered (0 + k)) =
      sym of_leaf ∙ ap (slice_get (leaf_zones zones)) (sym part.is) ∙ zoned.2
      ∙ ap (slice_get (range_zones zones)) place ∙ of_range in
      let zone : part.i ≡ k = omega (arith, some_zone (0 + part.i) (0 + k) same) in
      let start : first_leaf zones part.i ≡ first_leaf zones k = ap (first_leaf zones) zone in
      let count : length (zone_at zones part.i).leaves ≡ (area_of zones k).leaves =
      ap (λ n. length (zone_at zones n).leaves) zone in
      (omega (arith, part.is, start), omega (arith, part.is, start, count, part.within))
