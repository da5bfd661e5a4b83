-- the names so far are those of the zones so far
use Rattle.std.proofs.Common.{◌≡◌, length, take}
use Rattle.mon_topo.specs.Indexed.{FindsPlaces}
use Rattle.mon_topo.specs.Zones.{range_names}
use Rattle.mon_topo.proofs.lists.range_names_of.Given as goal

abbrev pub invariant-loop-zone : goal.invariant-loop-zone
invariant-loop-zone l = FindsPlaces l.names (range_names (take l.zone-index l.zones))
    × (l.first ≡ length (range_names (take l.zone-index l.zones)))
