use Rattle.std.proofs.Common.{rules, ◌≡◌, ◌∙◌, ◌<◌, ◌≤◌, ◌-◌, ◌++◌, ℕ, IfOk, List, length, take, drop, sym, ap, subst}
use Rattle.std.proofs.lemmas.List.{length-map, take-map}
use Rattle.mon_value.proofs.LeafHistoryLemmas.{front}
use Rattle.mon_value.specs.LeafHistories.{kept_rows}
use Rattle.mon_value.specs.Turns.{after_turns}
use Rattle.mon_value.specs.declared.histories.Entry.{Entry}
use Rattle.mon_value.specs.declared.rows.Row.{Row}
use Rattle.leaf_store.specs.LeafStates.{LeafView}
use Rattle.leaf_store.specs.declared.fresh.FreshEntry.{FreshEntry}
use Rattle.leaf_store.specs.within.FreshEntries.{entries_in}
use Rattle.leaf_store.specs.within.FromBehind.{replica_steps}
use Rattle.leaf_store.specs.within.Replicas.{kept_if_held, rows_held, shown_entries}
use Rattle.leaf_store.specs.within.States.{history_inside, left_of}
use Rattle.leaf_store.proofs.StepLemmas.{cut_left, rows_early, rows_late}
use Rattle.leaf_store.proofs.leaf_state.LeafState.rows_at.Goals as goal

pub in_front-requires : goal.in_front-requires
in_front-requires c =
    let leaf = c.self.inside in
    let cut = c.args.cut in
    let ks = leaf.kept.items in
    let more : length ks ≤ cut = search rules in
    let len : c.len-2.result ≡ length ks = search rules in
    let left : entries_in c.behind-left.result.now ≡ left_of leaf =
    ap entries_in (c.behind-left.ensures.behind ∙ ap (drop leaf.moved) c.as_slice.ensures.value) in
    let count = length-map c.behind-left.result.now (λ (one : FreshEntry). one.entry) in
    let within : cut ≤ length (history_inside leaf) = subst (λ (v : LeafView). cut ≤ length v.history)
    (sym c.self.view_is)
    c.requires.within in
    let fits = cut_left leaf.replicas.entries ks (left_of leaf) cut c.self.invariant.holds.there within more in
    record {
      within = subst (λ (m : ℕ). cut - m ≤ length c.behind-left.result.now) (sym len)
          (subst (λ (m : ℕ). cut - length ks ≤ m) count
          (subst (λ (es : List Entry). cut - length ks ≤ length es) (sym left) fits));
    }

pub rows_kept-requires-clause-formed : goal.rows_kept-requires-clause-formed
rows_kept-requires-clause-formed c =
    let leaf = c.self.inside in
    front (shown_entries leaf.replicas.entries leaf.kept.items) (left_of leaf) c.self.invariant.holds.formed

pub returns-then-cut-len : goal.returns-then-cut-len
returns-then-cut-len c =
    let leaf = c.self.inside in
    let range = c.args.range in
    let slot = c.args.slot in
    let cut = c.args.cut in
    let ks = leaf.kept.items in
    let replicas = leaf.replicas.entries in
    let less : cut < length ks = search rules in
    record {
      rows = subst (λ (all : List Row). IfOk c.rows_kept.result (λ rows. rows ≡ all))
          (rows_early range slot replicas ks (left_of leaf) cut c.self.invariant.holds.there less
          ∙ ap (λ (v : LeafView). kept_rows range slot (take cut v.history)) c.self.view_is)
          c.rows_kept.ensures.rows;
    }

pub returns : goal.returns
returns c =
    let leaf = c.self.inside in
    let range = c.args.range in
    let slot = c.args.slot in
    let cut = c.args.cut in
    let ks = leaf.kept.items in
    let replicas = leaf.replicas.entries in
    let more : length ks ≤ cut = search rules in
    let len : c.len-2.result ≡ length ks = search rules in
    let left : entries_in c.behind-left.result.now ≡ left_of leaf =
    ap entries_in (c.behind-left.ensures.behind ∙ ap (drop leaf.moved) c.as_slice.ensures.value) in
    let held = c.in_ok-push_held.ensures.added ∙ (λ i. c.new-rows.ensures.empty i
    ++ kept_if_held (rows_held replicas range slot)) in
    let brought : entries_in c.in_front.result.now ≡ take (cut - length ks) (left_of leaf) =
    ap entries_in c.in_front.ensures.front
    ∙ sym (take-map (λ (one : FreshEntry). one.entry) (cut - c.len-2.result) c.behind-left.result.now)
    ∙ (λ i. take (cut - len i) (left i)) in
    record {
      rows = c.in_ok-turn_all.ensures.turned
          ∙ (λ i. after_turns (held i) (replica_steps range slot (brought i)))
          ∙ rows_late range slot replicas ks (left_of leaf) cut c.self.invariant.holds more
          ∙ ap (λ (v : LeafView). kept_rows range slot (take cut v.history)) c.self.view_is;
    }
