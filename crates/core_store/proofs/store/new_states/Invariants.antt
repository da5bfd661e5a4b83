-- so many leaves are new
use Rattle.std.proofs.Common.{◌≡◌, replicate}
use Rattle.leaf_store.specs.LeafStates.{new_leaf}
use Rattle.core_store.proofs.store.new_states.Given as goal

abbrev pub invariant-loop-leaf : goal.invariant-loop-leaf
invariant-loop-leaf l = l.states.items ≡ replicate l.leaf (new_leaf l.config.schemas l.config.buckets)
