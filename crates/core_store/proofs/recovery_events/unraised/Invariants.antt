-- the buckets of the rows so far
use Rattle.std.proofs.Common.{◌≡◌, ℕ, take}
use Rattle.mon_hints.specs.BucketSets.{is_set}
use Rattle.core_store.proofs.RecoveryBuckets.{is_left}
use Rattle.core_store.proofs.recovery_events.unraised.Given as goal

abbrev pub invariant-loop-row : goal.invariant-loop-row
invariant-loop-row l = (bucket : ℕ) → is_set l.set.words bucket
    ≡ is_left l.state.buckets l.state.schemas l.state.history (take l.row-index l.rows) bucket
