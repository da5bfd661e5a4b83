-- The leaves that hold a range at first.
use Rattle.std.specs.Prelude.{◌<◌, ◌≤◌, List, length}
use Rattle.std.specs.List.{AllByRecursion, IsDistinct}
use Rattle.mon_value.specs.declared.positions.Range.{Range}
use Rattle.mon_topo.specs.declared.limits.TheConstants.{MOST_REPLICAS}
use Rattle.mon_topo.specs.declared.zones.ZoneSpec.{ZoneSpec}
use Rattle.mon_topo.specs.RangeHistories.{IsInZoneOf}
use Rattle.mon_topo.specs.Zones.{first_replicas}
use Rattle.mon_value.specs.Histories.{same_leaf}

-- one to three leaves of the range's zone, each once
pub record HasReplicas (zones : List ZoneSpec) (range : Range) : Type 0 where
  pub some : 0 < length (first_replicas zones range.0)
  pub few : length (first_replicas zones range.0) ≤ MOST_REPLICAS
  pub distinct : IsDistinct same_leaf (first_replicas zones range.0)
  pub zoned : AllByRecursion (IsInZoneOf zones range) (first_replicas zones range.0)
