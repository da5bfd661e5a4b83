-- What holds of zones that passed.
use Rattle.std.proofs.Common.{◌≡◌, ℕ, ◌+◌, ◌<◌, ◌≤◌, Bool, true, false, ◌&&◌, List, None, leb, length, nat_le}
use Rattle.std.proofs.Common.{refl, arith}
use Rattle.std.proofs.lemmas.Bool.Decides.{nat_tests}
use Rattle.mon_topo.proofs.BoundLemmas.{in_order, AreInOrder}
use Rattle.mon_topo.proofs.PlaceLemmas.{first_at-none, none_at, passed}
use Rattle.mon_topo.specs.Faults.{are_few, disorder, disorder_in_zone, leaves_over, too_many, first_at, place_unless}
use Rattle.mon_topo.specs.Sizes.{AreWithinLimits}
use Rattle.mon_topo.specs.Zones.{leaves_in, no_zone, ranges_in, zone_at}
use Rattle.mon_topo.specs.declared.limits.TheConstants.{MOST_LEAVES_OF_ZONE}
use Rattle.mon_topo.specs.declared.places.Place.TheVariants as place
use Rattle.mon_topo.specs.declared.zones.ZoneSpec.{ZoneSpec}

three : (a b c : Bool) → (a && (b && c)) ≡ true → (a ≡ true) × (b ≡ true) × (c ≡ true)
three true true c e = (refl, refl, e)
three true false c e = absurd (cc)
three false b c e = absurd (cc)

leaves_within : (z : ℕ) (zone : ZoneSpec) (b : Bool) → nat_le (length zone.leaves) MOST_LEAVES_OF_ZONE ≡ b
    → place_unless b (place.Leaves z) ≡ None → length zone.leaves ≤ MOST_LEAVES_OF_ZONE
leaves_within z zone true is e = grind (arith, nat_tests)
leaves_within z zone false is e = absurd (cc)

pub few : (zones : List ZoneSpec) → too_many zones ≡ None → AreWithinLimits zones
few zones e =
    let both = passed (are_few zones) place.Zones (first_at leaves_over 0 zones) e in
    let passes = both.0 in
    let each = three (leb (length zones) 32) (leb (length (leaves_in zones)) 64) (leb (length (ranges_in zones)) 512)
    passes in
    record {
      zones_few = grind (arith, nat_tests);
      leaves_few = grind (arith, nat_tests);
      ranges_few = grind (arith, nat_tests);
      each = λ z there. leaves_within z (zone_at zones z) (nat_le (length (zone_at zones z).leaves) MOST_LEAVES_OF_ZONE)
          refl (none_at leaves_over zones both.1 z no_zone there);
    }

-- each zone's ranges are in order
pub zone_in_order : (zones : List ZoneSpec) → disorder zones ≡ None → (i : ℕ) → i < length zones
    → AreInOrder (zone_at zones i).ranges
zone_in_order zones e i there =
    in_order (0 + i) (zone_at zones i).ranges (first_at-none disorder_in_zone 0 zones e i no_zone there)
