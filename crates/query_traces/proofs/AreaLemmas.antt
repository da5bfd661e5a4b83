-- Zones that are lawful have few leaves and ranges.
use Rattle.std.proofs.Common.{ℕ, zero, suc, ◌+◌, ◌<◌, ◌≤◌, List}
use Rattle.std.proofs.Common.{length, map, arith}
use Rattle.std.proofs.lemmas.List.FromFn.{length-map-range_with_len}
use Rattle.std.specs.List.{AllByRecursion, range_with_len}
use Rattle.mon_topo.specs.Faults.{AreLawfulZones}
use Rattle.mon_topo.specs.Zones.{no_zone}
use Rattle.mon_topo.specs.declared.zones.ZoneSpec.{ZoneSpec}
use Rattle.mon_topo.proofs.LawfulLemmas.{few}
use Rattle.mon_topo.proofs.SizeLemmas.{parts_so_far}
use Rattle.query_traces.specs.Rounds.{IsSmall, area_of, areas_of}

small_at : (zones : List ZoneSpec) → AreLawfulZones zones → (i : ℕ) → i < length zones → IsSmall (area_of zones i)
small_at zones lawful i there =
    let most = few zones lawful.few in
    let leaves = parts_so_far (λ (zone : ZoneSpec). zone.leaves) zones i no_zone there in
    let ranges = parts_so_far (λ (zone : ZoneSpec). zone.ranges) zones i no_zone there in
    record {
      leaves = omega (arith, most.leaves_few);
      leaf_numbers = omega (arith, most.leaves_few);
      range_numbers = omega (arith, most.ranges_few);
    }

small_from : (zones : List ZoneSpec) → AreLawfulZones zones → (first count : ℕ) → first + count ≤ length zones
    → AllByRecursion IsSmall (map (area_of zones) (range_with_len first count))
small_from zones lawful first zero within = record {}
small_from zones lawful first (suc count) within =
    (small_at zones lawful first (omega arith), small_from zones lawful (first + 1) count (omega arith))

pub all_small : (zones : List ZoneSpec) → AreLawfulZones zones → AllByRecursion IsSmall (areas_of zones)
all_small zones lawful = small_from zones lawful 0 (length zones) (omega arith)

pub few_areas : (zones : List ZoneSpec) → AreLawfulZones zones → length (areas_of zones) ≤ 64
few_areas zones lawful =
    omega (arith, (few zones lawful.few).zones_few, length-map-range_with_len (area_of zones) 0 (length zones))
