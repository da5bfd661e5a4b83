use Rattle.std.proofs.Common.{ℕ, Bool, IfSome, IfNone, subst}
use Rattle.mon_hints.specs.BucketSets.{HasNone, IsNext}
use Rattle.leaf_store.proofs.BucketLemmas.{next_within}
use Rattle.leaf_store.proofs.leaf_state.LeafState.next_unraised.Goals as goal

pub returns-clause-least : goal.returns-clause-least
returns-clause-least c =
    subst (λ (set : ℕ → Bool). IfSome c.next.result (λ next. IsNext set c.args.from next)) c.unraised_set.ensures.set
    c.next.ensures.least

pub returns-clause-none : goal.returns-clause-none
returns-clause-none c =
    subst (λ (set : ℕ → Bool). IfNone c.next.result (HasNone set c.args.from)) c.unraised_set.ensures.set
    c.next.ensures.none

pub returns-clause-below : goal.returns-clause-below
returns-clause-below c =
    next_within c.next.result _ c.args.from c.args.self.now.buckets c.next.ensures.least c.unraised_set.ensures.below
