-- nothing so far is at fault, so the first place is that of the rest
use Rattle.std.proofs.Common.{◌≡◌, drop}
use Rattle.mon_topo.specs.Faults.{bad_bound_in_range, first_at}
use Rattle.mon_topo.proofs.bounds.bad_bound_in_zone.Given as goal

abbrev pub invariant-loop-j : goal.invariant-loop-j
invariant-loop-j l = first_at (bad_bound_in_range l.schemas l.i) l.j (drop l.j l.ranges)
    ≡ first_at (bad_bound_in_range l.schemas l.i) 0 l.ranges
