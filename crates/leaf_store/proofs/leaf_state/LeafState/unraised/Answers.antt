use Rattle.std.proofs.Common.{◌∙◌, ◌+◌, ℕ, Bool, List, sym, ap, subst}
use Rattle.mon_hints.specs.BucketSets.{is_set}
use Rattle.mon_hints.proofs.ListingLemmas.{ListsBelow, all_listed, pushed_below}
use Rattle.leaf_store.proofs.leaf_state.LeafState.unraised.Goals as goal

pub loop-bucket-preserved : goal.loop-bucket-preserved
loop-bucket-preserved c =
    let l = c.loop-bucket in
    let set = is_set c.unraised_set-set.result.words in
    subst (λ (listed : List ℕ). ListsBelow set listed (c.in-Some.bucket + 1)) (sym c.in_ok-push.ensures.added)
    (pushed_below set l.buckets l.from c.in-Some.bucket l.invariant c.in-Some.ensures.least)

pub returns : goal.returns
returns c =
    let l = c.loop-bucket in
    let set = is_set c.unraised_set-set.result.words in
    record {
      unraised = record {
        rising = l.invariant.rising;
        same = λ bucket. all_listed set l.buckets l.from l.invariant c.in_default.ensures.none bucket
            ∙ ap (λ (found : ℕ → Bool). found bucket) c.unraised_set-set.ensures.set;
      };
    }
