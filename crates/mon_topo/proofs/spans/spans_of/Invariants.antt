-- the spans so far and those of the zones that are left are all
use Rattle.std.proofs.Common.{◌≡◌, ◌++◌, drop, length, take}
use Rattle.mon_topo.specs.Indexed.{spans_from}
use Rattle.mon_topo.specs.Zones.{leaves_in, ranges_in}
use Rattle.mon_topo.proofs.spans.spans_of.Given as goal

abbrev pub invariant-loop-zone : goal.invariant-loop-zone
invariant-loop-zone l = (l.spans.items ++ spans_from l.first_leaf l.first_range (drop l.zone-index l.zones)
    ≡ spans_from 0 0 l.zones) × (l.first_leaf ≡ length (leaves_in (take l.zone-index l.zones)))
    × (l.first_range ≡ length (ranges_in (take l.zone-index l.zones)))
