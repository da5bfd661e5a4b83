-- nothing so far is at fault, so the first place is that of the rest
use Rattle.std.proofs.Common.{◌≡◌, drop}
use Rattle.mon_topo.specs.Faults.{bad_leaf, first_at}
use Rattle.mon_topo.proofs.naming.bad_leaf.Given as goal

abbrev pub invariant-loop-j : goal.invariant-loop-j
invariant-loop-j l = first_at (bad_leaf l.i) l.j (drop l.j l.leaves) ≡ first_at (bad_leaf l.i) 0 l.leaves
