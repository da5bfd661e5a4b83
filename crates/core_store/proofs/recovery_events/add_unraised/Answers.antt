use Rattle.std.proofs.Common.{rules}
use Rattle.leaf_store.specs.LeafStates.{is_unraised}
use Rattle.mon_hints.specs.BucketSets.{is_set}
use Rattle.core_store.proofs.RecoveryBuckets.{wanted_all, wanted_first, wanted_next}
use Rattle.core_store.proofs.recovery_events.add_unraised.Goals as goal

pub loop-bucket-init : goal.loop-bucket-init
loop-bucket-init c =
    let wanted = is_unraised c.args.state.now.buckets c.args.state.now.schemas c.args.state.now.history c.args.key.now in
    wanted_first (is_set c.args.set.now.words) wanted

pub loop-bucket-preserved : goal.loop-bucket-preserved
loop-bucket-preserved c =
    let wanted = is_unraised c.args.state.now.buckets c.args.state.now.schemas c.args.state.now.history c.args.key.now in
    wanted_next (is_set c.args.set.now.words) (is_set c.loop-bucket.set.words) (is_set c.insert.new.self.words) wanted
    c.loop-bucket.from c.in-Some.bucket c.loop-bucket.invariant c.in-Some.ensures.least c.insert.ensures.added

pub returns : goal.returns
returns c =
    let wanted = is_unraised c.args.state.now.buckets c.args.state.now.schemas c.args.state.now.history c.args.key.now in
    record {
      added = wanted_all (is_set c.args.set.now.words) (is_set c.loop-bucket.set.words) wanted c.loop-bucket.from
          c.loop-bucket.invariant (search rules);
    }
