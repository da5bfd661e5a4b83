-- What a topology keeps beside its zones, so that what is asked is looked up.
use Rattle.std.specs.Prelude.{◌≡◌}
use Rattle.std.specs.List.{list_any, position_from}
use Rattle.mon_value.specs.Same.{same_text}
use Rattle.mon_topo.specs.declared.topology.Topology.TheInside.{Inside}
use Rattle.mon_topo.specs.Faults.{AreLawfulZones}
use Rattle.mon_topo.specs.Indexed.{all_replicas, spans_from, Finds, FindsPlaces}
use Rattle.mon_topo.specs.Zones.{leaves_in, range_names}

abbrev pub IsTopologyKept : Inside → Type 0
IsTopologyKept topology =
    AreLawfulZones topology.zones
    × (topology.spans.items ≡ spans_from 0 0 topology.zones)
    × (topology.leaf_names ≡ leaves_in topology.zones)
    × (topology.replicas.items ≡ all_replicas topology.zones)
    × Finds topology.locations
    (λ location. position_from (λ zone. list_any (same_text location) zone.locations) 0 topology.zones)
    × FindsPlaces topology.leaves (leaves_in topology.zones)
    × FindsPlaces topology.ranges (range_names topology.zones)
