use Rattle.std.proofs.Common.{ℕ, Bool, subst, sym}
use Rattle.mon_hints.specs.BucketSets.{is_set, no_bucket}
use Rattle.leaf_store.proofs.BucketLemmas.{AddsBelow, adds_all, adds_next, adds_nothing}
use Rattle.leaf_store.specs.within.Raises.{is_left}
use Rattle.leaf_store.proofs.raised.left_of.Goals as goal

pub loop-bucket-init : goal.loop-bucket-init
loop-bucket-init c =
    let found = is_left (is_set c.args.raised.now.words) (is_set c.args.own.now.words) in
    subst (λ (set : ℕ → Bool). AddsBelow no_bucket set found 0) (sym c.new-left.ensures.none)
    (adds_nothing no_bucket found)

pub loop-bucket-preserved : goal.loop-bucket-preserved
loop-bucket-preserved c =
    adds_next no_bucket (is_set c.loop-bucket.left.words) (is_set c.insert.new.self.words)
    (is_left (is_set c.args.raised.now.words) (is_set c.args.own.now.words)) c.loop-bucket.from c.in-Some.bucket
    c.loop-bucket.invariant c.in-Some.ensures.least c.insert.ensures.added

pub returns : goal.returns
returns c = record {
  left = adds_all no_bucket (is_set c.loop-bucket.left.words)
      (is_left (is_set c.args.raised.now.words) (is_set c.args.own.now.words)) c.loop-bucket.from
      c.loop-bucket.invariant c.in_default.ensures.none;
}
