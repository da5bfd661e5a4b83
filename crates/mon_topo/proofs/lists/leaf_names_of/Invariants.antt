-- the names so far and those of the zones that are left are all
use Rattle.std.proofs.Common.{◌≡◌, ◌++◌, drop}
use Rattle.mon_topo.specs.Zones.{leaves_in}
use Rattle.mon_topo.proofs.lists.leaf_names_of.Given as goal

abbrev pub invariant-loop-zone : goal.invariant-loop-zone
invariant-loop-zone l = l.names ++ leaves_in (drop l.zone-index l.zones) ≡ leaves_in l.zones
