-- the replicas so far are those of the ranges so far
use Rattle.std.proofs.Common.{◌≡◌, ◌++◌, map, take}
use Rattle.mon_topo.specs.Indexed.{leaves_found}
use Rattle.mon_topo.proofs.lists.add_replicas.Given as goal

abbrev pub invariant-loop-range : goal.invariant-loop-range
invariant-loop-range l = l.replicas.items ≡ l.fn.replicas.items ++ map (λ range. leaves_found l.leaves range.leaves)
    (take l.range-index l.ranges)
