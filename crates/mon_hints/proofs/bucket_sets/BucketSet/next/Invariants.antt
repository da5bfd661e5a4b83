-- None of the buckets passed is in the set.
use Rattle.std.proofs.Common.{◌≡◌, ℕ, ◌-◌, ◌<◌, ◌≤◌, false}
use Rattle.mon_hints.specs.BucketSets.{is_set}
use Rattle.mon_hints.proofs.bucket_sets.BucketSet.next.Given as goal
use Rattle.mon_value.specs.declared.limits.TheConstants.{MOST_BUCKETS}

abbrev pub invariant-loop-place : goal.invariant-loop-place
invariant-loop-place l = record {
  reached : l.from ≤ l.place;
  none : (bucket : ℕ) → l.from ≤ bucket → bucket < l.place → is_set l.self.words bucket ≡ false;
}

abbrev pub decreases-loop-place : goal.decreases-loop-place
decreases-loop-place l = MOST_BUCKETS - l.place
