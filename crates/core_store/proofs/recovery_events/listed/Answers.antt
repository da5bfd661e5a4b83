use Rattle.std.proofs.Common.{List, ℕ, ◌+◌, subst, sym}
use Rattle.mon_hints.proofs.ListingLemmas.{ListsBelow, pushed_below}
use Rattle.mon_hints.specs.BucketSets.{is_set}
use Rattle.core_store.proofs.recovery_events.listed.Goals as goal

pub loop-bucket-preserved : goal.loop-bucket-preserved
loop-bucket-preserved c =
    subst (λ (listed : List ℕ). ListsBelow (is_set c.args.set.now.words) listed (c.in-Some.bucket + 1))
    (sym c.in_ok-push.ensures.added)
    (pushed_below (is_set c.args.set.now.words) c.loop-bucket.buckets c.loop-bucket.from c.in-Some.bucket
    c.loop-bucket.invariant c.in-Some.ensures.least)
