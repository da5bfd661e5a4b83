-- None of the buckets that were passed is left.
use Rattle.std.proofs.Common.{◌≡◌, ℕ, ◌-◌, ◌<◌, ◌≤◌, false}
use Rattle.mon_hints.specs.BucketSets.{is_set}
use Rattle.mon_value.specs.declared.limits.TheConstants.{MOST_BUCKETS}
use Rattle.leaf_store.specs.within.Raises.{is_left}
use Rattle.leaf_store.proofs.raised.next_left.Given as goal

abbrev pub invariant-loop-bucket : goal.invariant-loop-bucket
invariant-loop-bucket l = record {
  reached : l.from ≤ l.place;
  none : (bucket : ℕ) → l.from ≤ bucket → bucket < l.place → is_left (is_set l.raised.words) (is_set l.own.words) bucket
      ≡ false;
}

abbrev pub decreases-loop-bucket : goal.decreases-loop-bucket
decreases-loop-bucket l = MOST_BUCKETS - l.place
