use Rattle.mon_hints.specs.BucketSets.{is_set}
use Rattle.leaf_store.proofs.BucketLemmas.{adds_all, adds_next, adds_nothing}
use Rattle.leaf_store.proofs.raised.add_set.Goals as goal

pub loop-bucket-init : goal.loop-bucket-init
loop-bucket-init c = adds_nothing (is_set c.args.raised.now.words) (is_set c.args.own.now.words)

pub loop-bucket-preserved : goal.loop-bucket-preserved
loop-bucket-preserved c =
    adds_next (is_set c.args.raised.now.words) (is_set c.loop-bucket.raised.words) (is_set c.insert.new.self.words)
    (is_set c.args.own.now.words) c.loop-bucket.from c.in-Some.bucket c.loop-bucket.invariant c.in-Some.ensures.least
    c.insert.ensures.added

pub returns : goal.returns
returns c = record {
  added = adds_all (is_set c.args.raised.now.words) (is_set c.loop-bucket.raised.words) (is_set c.args.own.now.words)
      c.loop-bucket.from c.loop-bucket.invariant c.in_default.ensures.none;
}
