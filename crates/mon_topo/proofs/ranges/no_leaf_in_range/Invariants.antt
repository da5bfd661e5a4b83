-- nothing so far is at fault, so the first place is that of the rest
use Rattle.std.proofs.Common.{◌≡◌, drop}
use Rattle.mon_topo.specs.Faults.{no_leaf_at, first_at}
use Rattle.mon_topo.proofs.ranges.no_leaf_in_range.Given as goal

abbrev pub invariant-loop-k : goal.invariant-loop-k
invariant-loop-k l = first_at (no_leaf_at l.zone l.i l.j) l.k (drop l.k l.range.leaves)
    ≡ first_at (no_leaf_at l.zone l.i l.j) 0 l.range.leaves
