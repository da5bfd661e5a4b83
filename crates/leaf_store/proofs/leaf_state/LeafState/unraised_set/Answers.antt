use Rattle.std.proofs.Common.{◌∙◌, ◌<◌, ℕ, not, ◌&&◌, sym, ap, subst}
use Rattle.leaf_store.proofs.BucketLemmas.{unraised_below}
use Rattle.leaf_store.specs.LeafStates.{is_unraised, LeafView}
use Rattle.leaf_store.specs.within.States.{history_inside}
use Rattle.leaf_store.proofs.leaf_state.LeafState.unraised_set.Goals as goal

pub returns : goal.returns
returns c =
    let leaf = c.self.inside in
    let key = c.args.key.now in
    let at = λ (bucket : ℕ).
    c.left_of.ensures.left bucket ∙ (λ i. c.key_set-own.ensures.set bucket i && not (c.self.invariant.raised bucket i))
    ∙ ap (λ (v : LeafView). is_unraised v.buckets v.schemas v.history key bucket) c.self.view_is in
    record {
      set = λ i bucket. at bucket i;
      below = λ bucket among. subst (λ (v : LeafView). bucket < v.buckets) c.self.view_is
          (unraised_below leaf.buckets bucket leaf.schemas key c.self.invariant.some (history_inside leaf)
          (ap (λ (v : LeafView). is_unraised v.buckets v.schemas v.history key bucket) c.self.view_is ∙ sym (at bucket)
          ∙ among));
    }
