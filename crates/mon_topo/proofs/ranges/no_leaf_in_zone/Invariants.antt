-- nothing so far is at fault, so the first place is that of the rest
use Rattle.std.proofs.Common.{◌≡◌, drop}
use Rattle.mon_topo.specs.Faults.{no_leaf_in_range, first_at}
use Rattle.mon_topo.proofs.ranges.no_leaf_in_zone.Given as goal

abbrev pub invariant-loop-j : goal.invariant-loop-j
invariant-loop-j l = first_at (no_leaf_in_range l.zone l.i) l.j (drop l.j l.zone.ranges)
    ≡ first_at (no_leaf_in_range l.zone l.i) 0 l.zone.ranges
