use Rattle.std.proofs.Common.{◌-◌}
use Rattle.leaf_store.specs.LeafStates.{is_unraised}
use Rattle.mon_hints.specs.BucketSets.{is_set}
use Rattle.mon_value.specs.declared.limits.TheConstants.{MOST_BUCKETS}
use Rattle.core_store.proofs.RecoveryBuckets.{AddsWanted}
use Rattle.core_store.proofs.recovery_events.add_unraised.Given as goal

abbrev pub invariant-loop-bucket : goal.invariant-loop-bucket
invariant-loop-bucket l =
    AddsWanted (is_set l.initial.set.words) (is_set l.set.words)
    (is_unraised l.state.buckets l.state.schemas l.state.history l.key) l.from

abbrev pub decreases-loop-bucket : goal.decreases-loop-bucket
decreases-loop-bucket l = MOST_BUCKETS - l.from
