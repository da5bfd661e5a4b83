-- the names so far are those of the zones so far, and nothing so far stood earlier
use Rattle.std.proofs.Common.{◌≡◌, drop, take}
use Rattle.mon_topo.specs.Faults.{repeat_behind, first_at}
use Rattle.mon_topo.specs.Indexed.{names_of_zones}
use Rattle.mon_topo.proofs.repeats.names_of.Given as goal

abbrev pub invariant-loop-i : goal.invariant-loop-i
invariant-loop-i l = (l.names ≡ names_of_zones (take l.i l.zones))
    × (first_at (repeat_behind l.zones) l.i (drop l.i l.zones)
    ≡ first_at (repeat_behind l.zones) 0 l.zones)
