-- nothing so far is at fault, so the first place is that of the rest
use Rattle.std.proofs.Common.{◌≡◌, drop}
use Rattle.mon_topo.specs.Faults.{leaves_over, first_at}
use Rattle.mon_topo.proofs.sizes.too_many.Given as goal

abbrev pub invariant-loop-i : goal.invariant-loop-i
invariant-loop-i l = first_at leaves_over l.i (drop l.i l.zones) ≡ first_at leaves_over 0 l.zones
