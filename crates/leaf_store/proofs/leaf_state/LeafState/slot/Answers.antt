use Rattle.std.proofs.Common.{◌≡◌, ◌∙◌, true, sym, ap}
use Rattle.leaf_store.specs.LeafStates.{LeafView, opened_rows}
use Rattle.leaf_store.specs.within.Replicas.{shown_entries}
use Rattle.leaf_store.specs.within.States.{left_of}
use Rattle.leaf_store.proofs.StepLemmas.{switches_rows}
use Rattle.leaf_store.proofs.leaf_state.LeafState.slot.Goals as goal

pub returns : goal.returns
returns c =
    let leaf = c.self.inside in
    let range = c.args.range in
    let slot = c.args.slot in
    let settled : leaf.settled ≡ true = ap (λ (v : LeafView). v.settled) c.self.view_is ∙ c.requires.settled in
    record {
      rows = c.rows_of.ensures.found ∙ c.self.invariant.holds.holds range slot
          ∙ sym (switches_rows range slot (shown_entries leaf.replicas.entries leaf.kept.items) (left_of leaf)
          (c.self.invariant.waits settled))
          ∙ ap (λ (v : LeafView). opened_rows range slot v.history) c.self.view_is;
    }
