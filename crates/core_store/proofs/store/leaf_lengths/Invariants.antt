-- the lengths so far, in front of those that are left
use Rattle.std.proofs.Common.{◌≡◌, ◌++◌, drop, length, map}
use Rattle.leaf_store.specs.LeafStates.{LeafView}
use Rattle.core_store.proofs.store.leaf_lengths.Given as goal

abbrev pub invariant-loop-state : goal.invariant-loop-state
invariant-loop-state l =
    l.lengths ++ map (λ (state : LeafView). length state.history) (drop l.state-index l.leaves)
    ≡ map (λ (state : LeafView). length state.history) l.leaves
