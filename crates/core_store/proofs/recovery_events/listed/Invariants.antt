use Rattle.std.proofs.Common.{◌-◌}
use Rattle.mon_hints.proofs.ListingLemmas.{ListsBelow}
use Rattle.mon_hints.specs.BucketSets.{is_set}
use Rattle.mon_value.specs.declared.limits.TheConstants.{MOST_BUCKETS}
use Rattle.core_store.proofs.recovery_events.listed.Given as goal

abbrev pub invariant-loop-bucket : goal.invariant-loop-bucket
invariant-loop-bucket l = ListsBelow (is_set l.set.words) l.buckets l.from

abbrev pub decreases-loop-bucket : goal.decreases-loop-bucket
decreases-loop-bucket l = MOST_BUCKETS - l.from
