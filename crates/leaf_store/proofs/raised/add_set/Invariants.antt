-- The set's buckets below a number came to those that are raised.
use Rattle.std.proofs.Common.{◌-◌}
use Rattle.mon_hints.specs.BucketSets.{is_set}
use Rattle.mon_value.specs.declared.limits.TheConstants.{MOST_BUCKETS}
use Rattle.leaf_store.proofs.BucketLemmas.{AddsBelow}
use Rattle.leaf_store.proofs.raised.add_set.Given as goal

abbrev pub invariant-loop-bucket : goal.invariant-loop-bucket
invariant-loop-bucket l =
    AddsBelow (is_set l.fn.raised.words) (is_set l.raised.words) (is_set l.own.words) l.from

abbrev pub decreases-loop-bucket : goal.decreases-loop-bucket
decreases-loop-bucket l = MOST_BUCKETS - l.from
