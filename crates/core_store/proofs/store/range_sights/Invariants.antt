-- the ranges so far, in front of those that are left
use Rattle.std.proofs.Common.{◌≡◌, ◌++◌, drop, map}
use Rattle.mon_topo.specs.Sights.{range_sight}
use Rattle.core_store.proofs.store.range_sights.Given as goal

abbrev pub invariant-loop-state : goal.invariant-loop-state
invariant-loop-state l =
    l.sights ++ map (λ replay. range_sight replay.history) (drop l.state-index l.ranges)
    ≡ map (λ replay. range_sight replay.history) l.ranges
