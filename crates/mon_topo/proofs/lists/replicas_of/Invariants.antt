-- the replicas so far and those of the zones that are left are all
use Rattle.std.proofs.Common.{◌≡◌, ◌++◌, drop, map}
use Rattle.mon_topo.specs.Indexed.{leaves_found}
use Rattle.mon_topo.specs.Zones.{ranges_in}
use Rattle.mon_topo.proofs.lists.replicas_of.Given as goal

abbrev pub invariant-loop-zone : goal.invariant-loop-zone
invariant-loop-zone l = l.replicas.items ++ map (λ range. leaves_found l.leaves range.leaves)
    (ranges_in (drop l.zone-index l.zones)) ≡ map (λ range. leaves_found l.leaves range.leaves) (ranges_in l.zones)
