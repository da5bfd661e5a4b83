-- A range and a leaf that are of one zone by their numbers stand in it.
use Rattle.std.proofs.Common.{◌≡◌, ◌∙◌, ℕ, zero, suc, ◌+◌, ◌-◌, ◌<◌, ◌≤◌, nat_le, nat_lt, Bool, true, List}
use Rattle.std.proofs.Common.{length, Some, sym, ap, inl, inr, arith}
use Rattle.std.specs.Prelude.{slice_get}
use Rattle.std.specs.List.{list_any, range_with_len}
use Rattle.std.proofs.lemmas.Bool.{and_parts, or_cases}
use Rattle.std.proofs.lemmas.Bool.Decides.{nat_tests}
use Rattle.std.proofs.lemmas.Option.{slice_get_within}
use Rattle.mon_topo.proofs.PartLemmas.{zone_of_part}
use Rattle.mon_topo.specs.RangeHistories.{IsInZoneOf}
use Rattle.mon_topo.specs.Zones.{first_leaf, first_range, leaf_zones, range_zones, zone_at, has_both, is_among}
use Rattle.mon_topo.specs.Zones.{share_zone}
use Rattle.mon_topo.specs.declared.zones.ZoneSpec.{ZoneSpec}
use Rattle.mon_value.specs.Histories.{zone_numbered}
use Rattle.mon_value.specs.declared.positions.Leaf.{Leaf}
use Rattle.mon_value.specs.declared.positions.Range.{Range}

-- one of so many numbers of which a test holds
record IsFound (test : ℕ → Bool) (from count : ℕ) : Type 0 where
  pub place : ℕ
  pub least : from ≤ place
  pub most : place < from + count
  pub holds : test place ≡ true

found : (test : ℕ → Bool) (from count : ℕ) → list_any test (range_with_len from count) ≡ true
    → IsFound test from count
found test from zero e = absurd cc
found test from (suc count) e =
    elim (or_cases (test from) (list_any test (range_with_len (from + 1) count)) e) [
      | inl here ↦ record { place = from; least = omega arith; most = omega arith; holds = here }
      | inr later ↦
          let rest : IsFound test (from + 1) count = found test (from + 1) count later in
          let least = rest.least in
          let most = rest.most in
          record {
            place = rest.place;
            least = omega (arith, least);
            most = omega (arith, most);
            holds = rest.holds;
          }
    ]

record IsWithin (number first count : ℕ) : Type 0 where
  pub from : first ≤ number
  pub to : number - first < count

within : (number first count : ℕ) → is_among number first count ≡ true → IsWithin number first count
within number first count e =
    let both = and_parts (nat_le first number) (nat_lt (number - first) count) e in
    let least : nat_le first number ≡ true = both.0 in
    let most : nat_lt (number - first) count ≡ true = both.1 in
    record { from = grind (arith, nat_tests); to = grind (arith, nat_tests) }

module _ (zones : List ZoneSpec) (range : Range) (leaf : Leaf) where
  in_zone : (zone : ℕ) → zone < length zones → has_both zones range leaf zone ≡ true → IsInZoneOf zones range leaf
  in_zone zone there e =
      let both = and_parts (is_among range.0 (first_range zones zone) (length (zone_at zones zone).ranges))
      (is_among leaf.0 (first_leaf zones zone) (length (zone_at zones zone).leaves)) e in
      let ranged = within range.0 (first_range zones zone) (length (zone_at zones zone).ranges) both.0 in
      let leafed = within leaf.0 (first_leaf zones zone) (length (zone_at zones zone).leaves) both.1 in
      let range_at : first_range zones zone + (range.0 - first_range zones zone) ≡ range.0
      = omega (arith, ranged.from) in
      let leaf_at : first_leaf zones zone + (leaf.0 - first_leaf zones zone) ≡ leaf.0 = omega (arith, leafed.from) in
      let of_range : slice_get (range_zones zones) range.0 ≡ Some (zone_numbered (0 + zone))
      = ap (slice_get (range_zones zones)) (sym range_at)
      ∙ zone_of_part (λ (one : ZoneSpec). one.ranges) 0 zones zone (range.0 - first_range zones zone) there ranged.to in
      let of_leaf : slice_get (leaf_zones zones) leaf.0 ≡ Some (zone_numbered (0 + zone))
      = ap (slice_get (leaf_zones zones)) (sym leaf_at)
      ∙ zone_of_part (λ (one : ZoneSpec). one.leaves) 0 zones zone (leaf.0 - first_leaf zones zone) there leafed.to in (
        slice_get_within (leaf_zones zones) leaf.0 (zone_numbered (0 + zone)) of_leaf,
        slice_get_within (range_zones zones) range.0 (zone_numbered (0 + zone)) of_range,
        of_leaf ∙ sym of_range,
      )

  pub shared_zone : share_zone zones range leaf ≡ true → IsInZoneOf zones range leaf
  shared_zone e =
      let one = found (has_both zones range leaf) 0 (length zones) e in
      let most = one.most in
      in_zone one.place (omega (arith, most)) one.holds
