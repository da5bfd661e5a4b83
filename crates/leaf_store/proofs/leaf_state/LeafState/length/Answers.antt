use Rattle.std.proofs.Common.{rules, ◌≡◌, ◌∙◌, ◌+◌, ◌-◌, ◌<◌, ◌^◌, arith, length, ap, subst}
use Rattle.mon_value.specs.LeafHistories.{IsWellFormed}
use Rattle.leaf_store.specs.LeafStates.{LeafView}
use Rattle.leaf_store.proofs.StateLemmas.{history_count}
use Rattle.leaf_store.proofs.leaf_state.LeafState.length.Goals as goal

pub returns : goal.returns
returns c =
    let leaf = c.self.inside in
    let kept : c.len.result ≡ length leaf.kept.items = search rules in
    let fresh : length c.as_slice.result.now ≡ length leaf.fresh.items = search rules in
    let few : length c.as_slice.result.now < 2 ^ 61 = search rules in
    record {
      length = (λ i. kept i + (fresh i - leaf.moved))
          ∙ history_count leaf.replicas.entries leaf.kept.items leaf.fresh.items leaf.moved
          c.self.invariant.holds.there c.self.invariant.within
          ∙ ap (λ (v : LeafView). length v.history) c.self.view_is;
      short = omega (arith, c.len.ensures.few, few);
      formed = subst (λ (v : LeafView). IsWellFormed v.history) c.self.view_is c.self.invariant.holds.formed;
    }
