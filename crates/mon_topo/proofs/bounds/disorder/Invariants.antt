-- nothing so far is at fault, so the first place is that of the rest
use Rattle.std.proofs.Common.{◌≡◌, drop}
use Rattle.mon_topo.specs.Faults.{disorder_in_zone, first_at}
use Rattle.mon_topo.proofs.bounds.disorder.Given as goal

abbrev pub invariant-loop-i : goal.invariant-loop-i
invariant-loop-i l = first_at disorder_in_zone l.i (drop l.i l.zones) ≡ first_at disorder_in_zone 0 l.zones
