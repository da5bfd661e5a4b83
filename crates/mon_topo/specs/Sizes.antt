-- How large the zones of a configuration are at most.
use Rattle.std.specs.Prelude.{ℕ, ◌<◌, ◌≤◌, List, length}
use Rattle.mon_topo.specs.Zones.{leaves_in, ranges_in, zone_at}
use Rattle.mon_topo.specs.declared.limits.TheConstants.{MOST_LEAVES, MOST_LEAVES_OF_ZONE, MOST_RANGES, MOST_ZONES}
use Rattle.mon_topo.specs.declared.zones.ZoneSpec.{ZoneSpec}

-- so many zones, leaves, ranges, and leaves in each zone
pub record AreWithinLimits (zones : List ZoneSpec) : Type 0 where
  pub zones_few : length zones ≤ MOST_ZONES
  pub leaves_few : length (leaves_in zones) ≤ MOST_LEAVES
  pub ranges_few : length (ranges_in zones) ≤ MOST_RANGES
  pub each : (zone : ℕ) → zone < length zones → length (zone_at zones zone).leaves ≤ MOST_LEAVES_OF_ZONE
