use Rattle.std.proofs.Common.{◌≡◌, ◌∙◌, ◌≤◌, ◌+◌, ◌++◌, List, length, drop, sym, ap, subst}
use Rattle.std.specs.List.{count_by}
use Rattle.mon_hints.specs.Formulas.{is_among}
use Rattle.mon_value.specs.LeafHistories.{is_down, is_switch}
use Rattle.mon_value.specs.declared.histories.Entry.{Entry}
use Rattle.mon_hints.specs.Hints.{history_buckets}
use Rattle.leaf_store.specs.LeafStates.{key_buckets}
use Rattle.leaf_store.specs.declared.fresh.FreshEntry.{FreshEntry}
use Rattle.leaf_store.specs.within.FreshEntries.{AreNumbered, entries_in}
use Rattle.leaf_store.specs.within.Replicas.{IsInTwoParts, shown_entries}
use Rattle.leaf_store.specs.within.States.{history_inside}
use Rattle.leaf_store.proofs.StateLemmas.{later_switches}
use Rattle.leaf_store.proofs.leaf_state.LeafState.settle.Goals as goal

pub invariant_of-self : goal.invariant_of-self
invariant_of-self c =
    let leaf = c.self.inside in
    let replicas = c.settle_entries.new.replicas.entries in
    let ks = c.settle_entries.new.kept.items in
    let moved = c.settle_entries.new.moved in
    let fresh = leaf.fresh.items in
    let items = c.as_slice.ensures.value in
    let same : shown_entries replicas ks ++ entries_in (drop moved fresh) ≡ history_inside leaf =
    ap (λ (es : List FreshEntry). shown_entries replicas ks ++ entries_in (drop moved es)) (sym items)
    ∙ c.settle_entries.ensures.history ∙ ap (λ (es : List FreshEntry). shown_entries leaf.replicas.entries leaf.kept.items
    ++ entries_in (drop leaf.moved es)) items in
    record {
      within = subst (λ (es : List FreshEntry). moved ≤ length es) items c.settle_entries.ensures.within;
      holds = subst (λ (es : List FreshEntry). IsInTwoParts replicas ks (entries_in (drop moved es))) items
          c.settle_entries.ensures.holds;
      numbered = subst (λ (es : List FreshEntry). AreNumbered (shown_entries replicas ks) (drop moved es)) items
          c.settle_entries.ensures.numbered;
      raised = λ bucket. c.self.invariant.raised bucket
          ∙ ap (λ (es : List Entry). is_among bucket (history_buckets (key_buckets leaf.buckets leaf.schemas) es))
          (sym same);
      down = c.self.invariant.down ∙ ap is_down (sym same);
      switches = ap (λ (es : List Entry). count_by is_switch es + leaf.switches_left) same ∙ c.self.invariant.switches;
      waits = λ settled. later_switches fresh leaf.moved moved c.settle_entries.ensures.onward
          (c.self.invariant.waits settled);
      room = c.self.invariant.room;
      some = c.self.invariant.some;
      most = c.self.invariant.most;
    }
