-- nothing so far is at fault, so the first place is that of the rest
use Rattle.std.proofs.Common.{◌≡◌, drop}
use Rattle.mon_topo.specs.Faults.{bad_name_in, first_at}
use Rattle.mon_topo.proofs.naming.bad_name.Given as goal

abbrev pub invariant-loop-i : goal.invariant-loop-i
invariant-loop-i l = first_at bad_name_in l.i (drop l.i l.zones) ≡ first_at bad_name_in 0 l.zones
