-- Those below a number that are left were found.
use Rattle.std.proofs.Common.{◌-◌}
use Rattle.mon_hints.specs.BucketSets.{is_set, no_bucket}
use Rattle.mon_value.specs.declared.limits.TheConstants.{MOST_BUCKETS}
use Rattle.leaf_store.proofs.BucketLemmas.{AddsBelow}
use Rattle.leaf_store.specs.within.Raises.{is_left}
use Rattle.leaf_store.proofs.raised.left_of.Given as goal

abbrev pub invariant-loop-bucket : goal.invariant-loop-bucket
invariant-loop-bucket l =
    AddsBelow no_bucket (is_set l.left.words) (is_left (is_set l.raised.words) (is_set l.own.words)) l.from

abbrev pub decreases-loop-bucket : goal.decreases-loop-bucket
decreases-loop-bucket l = MOST_BUCKETS - l.from
