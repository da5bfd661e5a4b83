-- The zone that a target's range is one of.
use Rattle.std.proofs.Common.{◌≡◌, ◌∙◌, ◌<◌, ◌+◌, ℕ, suc, Bool, true, false, cond, Option, Some, None, List, [], ◌∷◌}
use Rattle.std.proofs.Common.{length, option_and_then, option_map, slice_get, refl, sym, ap, subst, arith}
use Rattle.std.specs.List.{list_any, position_from}
use Rattle.std.specs.Option.{option_or}
use Rattle.std.proofs.lemmas.Option.{slice_get_within}
use Rattle.mon_value.specs.Same.{same_text}
use Rattle.mon_value.specs.declared.positions.Range.{Range}
use Rattle.mon_value.specs.declared.positions.Zone.{Zone}
use Rattle.mon_value.specs.declared.rows.Target.{Target}
use Rattle.mon_topo.proofs.PartLemmas.{length-zones_of, zone_of_part}
use Rattle.mon_topo.proofs.PositionLemmas.{found_within}
use Rattle.mon_topo.specs.Locations.{is_bound_below, last_within, range_of, location_of, range_for}
use Rattle.mon_value.specs.Histories.{range_numbered, zone_numbered}
use Rattle.mon_topo.specs.Zones.{first_range, range_zones, ranges_in, zone_at, zone_of}
use Rattle.mon_topo.specs.declared.zones.RangeSpec.{RangeSpec}
use Rattle.mon_topo.specs.declared.zones.ZoneSpec.{ZoneSpec}
use Rattle.mon_schema.specs.Names.{SchemaLists}

-- ---- a range of a zone

last_by : (ranges : List RangeSpec) (j : ℕ) (o : Option ℕ) (b : Bool)
    → ((k : ℕ) → o ≡ Some k → k < length ranges)
    → option_or (option_map (λ j. suc j) o) (cond b (Some 0) None) ≡ Some j → j < suc (length ranges)
last_by ranges j (Some k) b earlier is =
    let same : suc k ≡ j = cc in
    omega (arith, same, earlier k refl)
last_by ranges j None true earlier is = let same : ◌≡◌ {A = ℕ} 0 j = cc in omega (arith, same)
last_by ranges j None false earlier is = absurd cc

-- which is among the zone's ranges
pub last_below : (target : Target) (ranges : List RangeSpec) (j : ℕ) → last_within target ranges ≡ Some j
    → j < length ranges
last_below target [] j is = absurd cc
last_below target (range ∷ ranges) j is =
    last_by ranges j (last_within target ranges) (is_bound_below range.from target)
    (λ k e. last_below target ranges k e) is

module _ (zones : List ZoneSpec) (z : ℕ) (there : z < length zones) (target : Target) (range : Range) where
  zoned_by : (o : Option ℕ) → last_within target (zone_at zones z).ranges ≡ o
      → option_map (λ j. range_numbered (first_range zones z + j)) o ≡ Some range
      → slice_get (range_zones zones) range.0 ≡ Some (zone_numbered z)
  zoned_by None is found = absurd cc
  zoned_by (Some j) is found =
      let same : range_numbered (first_range zones z + j) ≡ range = cc in
      let number : 0 + z ≡ z = omega arith in
      ap (λ (r : Range). slice_get (range_zones zones) r.0) (sym same)
      ∙ zone_of_part (λ zone. zone.ranges) 0 zones z j there (last_below target (zone_at zones z).ranges j is)
      ∙ ap (λ k. Some (zone_numbered k)) number

  zoned : range_of zones z target ≡ Some range → slice_get (range_zones zones) range.0 ≡ Some (zone_numbered z)
  zoned found = zoned_by (last_within target (zone_at zones z).ranges) refl found

zone_by : (zones : List ZoneSpec) (location : List ℕ) (zone : Zone) (o : Option ℕ)
    → o ≡ position_from (λ (zone : ZoneSpec). list_any (same_text location) zone.locations) 0 zones
    → option_map zone_numbered o ≡ Some zone → zone.0 < length zones
zone_by zones location zone None is found = absurd cc
zone_by zones location zone (Some p) is found =
    let same : zone_numbered p ≡ zone = cc in
    subst (λ (z : Zone). z.0 < length zones) same
    (found_within (λ (zone : ZoneSpec). list_any (same_text location) zone.locations) zones p is)

-- ---- the range of a target

-- the location of a target, and the zone that lists it, of which the range is one
pub record IsPlaced (held : SchemaLists) (zones : List ZoneSpec) (target : Target) (range : Range) : Type 0 where
  pub location : List ℕ
  pub at : location_of held target ≡ Some location
  pub zone : Zone
  pub lists : zone_of zones location ≡ Some zone
  pub zoned : slice_get (range_zones zones) range.0 ≡ Some (zone_numbered zone.0)

module _ (held : SchemaLists) (zones : List ZoneSpec) (target : Target) (range : Range) where
  in_zone : (location : List ℕ) (o : Option Zone) → location_of held target ≡ Some location
      → zone_of zones location ≡ o
      → option_and_then (λ (zone : Zone). range_of zones zone.0 target) o ≡ Some range → IsPlaced held zones target
      range
  in_zone location None at lists found = absurd cc
  in_zone location (Some zone) at lists found = record {
    location = location;
    at = at;
    zone = zone;
    lists = lists;
    zoned = zoned zones zone.0
        (zone_by zones location zone
        (position_from (λ (zone : ZoneSpec). list_any (same_text location) zone.locations) 0 zones) refl lists)
        target range found;
  }

  at_location : (o : Option (List ℕ)) → location_of held target ≡ o
      → option_and_then (λ (zone : Zone). range_of zones zone.0 target)
      (option_and_then (zone_of zones) o) ≡ Some range → IsPlaced held zones target range
  at_location None at found = absurd cc
  at_location (Some location) at found = in_zone location (zone_of zones location) at refl found

  pub is_placed : range_for held zones target ≡ Some range → IsPlaced held zones target range
  is_placed found = at_location (location_of held target) refl found
