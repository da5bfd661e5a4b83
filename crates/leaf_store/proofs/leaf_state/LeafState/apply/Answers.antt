use Rattle.std.proofs.Common.{rules, ◌≡◌, ◌∙◌, ◌≤◌, ◌++◌, ◌∷◌, [], true, None, List, length, drop, sym, ap, subst, arith}
use Rattle.std.specs.List.{count_by}
use Rattle.std.specs.Vec.{vec_len}
use Rattle.std.proofs.lemmas.List.{length-append}
use Rattle.mon_hints.specs.BucketSets.{is_set}
use Rattle.mon_hints.specs.Formulas.{is_among}
use Rattle.mon_value.specs.LeafHistories.{IsWellFormed, is_down, is_switch}
use Rattle.mon_value.specs.declared.histories.Entry.{Entry}
use Rattle.mon_hints.specs.Hints.{history_buckets}
use Rattle.leaf_store.specs.LeafStates.{key_buckets, LeafView}
use Rattle.leaf_store.specs.declared.fresh.FreshEntry.{FreshEntry}
use Rattle.leaf_store.specs.within.FreshEntries.{AreNumbered, entries_in}
use Rattle.leaf_store.specs.within.Replicas.{IsInTwoParts, shown_entries}
use Rattle.leaf_store.specs.within.States.{AllSwitches, history_inside, left_of}
use Rattle.leaf_store.proofs.StateLemmas.{count_switch, down_switch, history_push, holds_push, left_push, numbers_push}
use Rattle.leaf_store.proofs.StateLemmas.{raised_switch, switch_room, waits_push}
use Rattle.leaf_store.proofs.leaf_state.LeafState.apply.Goals as goal

pub overflow_sub-self : goal.overflow_sub-self
overflow_sub-self c =
    let leaf = c.self.inside in
    let formed : IsWellFormed (history_inside leaf ++ c.args.entry ∷ []) =
    subst (λ (v : LeafView). IsWellFormed (v.history ++ c.args.entry ∷ [])) (sym c.self.view_is) c.requires.follows in
    omega (
      arith,
      switch_room (history_inside leaf) c.args.entry (sym c.in-Some.ensures.switch) formed,
      c.self.invariant.switches,
    )

pub push_reserved-requires : goal.push_reserved-requires
push_reserved-requires c =
    let leaf = c.self.inside in
    let formed : IsWellFormed (history_inside leaf ++ c.args.entry ∷ []) =
    subst (λ (v : LeafView). IsWellFormed (v.history ++ c.args.entry ∷ [])) (sym c.self.view_is) c.requires.follows in
    let some : 1 ≤ leaf.switches_left =
    omega (
      arith,
      switch_room (history_inside leaf) c.args.entry (sym c.in-Some.ensures.switch) formed,
      c.self.invariant.switches,
    ) in
    let len : vec_len leaf.fresh ≡ length leaf.fresh.items = search rules in
    omega (arith, some, len, c.self.invariant.room)

pub invariant_of-self : goal.invariant_of-self
invariant_of-self c =
    let leaf = c.self.inside in
    let e = c.args.entry in
    let last : FreshEntry = record { entry = e; series = None } in
    let fresh = leaf.fresh.items in
    let moved = leaf.moved in
    let first = shown_entries leaf.replicas.entries leaf.kept.items in
    let history = history_inside leaf in
    let is : is_switch e ≡ true = sym c.in-Some.ensures.switch in
    let formed : IsWellFormed (history ++ e ∷ []) = subst (λ (v : LeafView). IsWellFormed (v.history ++ e ∷ []))
    (sym c.self.view_is) c.requires.follows in
    let some : 1 ≤ leaf.switches_left = omega (arith, switch_room history e is formed, c.self.invariant.switches) in
    let items : c.push_reserved.new.self.items ≡ fresh ++ last ∷ [] = c.push_reserved.ensures.items in
    let all : first ++ entries_in (drop moved c.push_reserved.new.self.items) ≡ history ++ e ∷ [] =
    ap (λ (es : List FreshEntry). first ++ entries_in (drop moved es)) items
    ∙ history_push first fresh moved last c.self.invariant.within in
    let more = ap length items ∙ length-append fresh (last ∷ []) in
    record {
      within = omega (arith, more, c.self.invariant.within);
      holds = subst (λ (es : List FreshEntry). IsInTwoParts leaf.replicas.entries leaf.kept.items
          (entries_in (drop moved es))) (sym items)
          (holds_push leaf.replicas.entries leaf.kept.items fresh moved last c.self.invariant.within
          c.self.invariant.holds formed);
      numbered = subst (λ (es : List FreshEntry). AreNumbered first (drop moved es)) (sym items)
          (numbers_push first fresh moved last c.self.invariant.within c.self.invariant.numbered tt);
      raised = λ bucket. raised_switch (is_set leaf.raised.words) leaf.buckets leaf.schemas history e is
          c.self.invariant.raised bucket
          ∙ ap (λ (es : List Entry). is_among bucket (history_buckets (key_buckets leaf.buckets leaf.schemas) es))
          (sym all);
      down = down_switch history e c.in-Some.down c.in-Some.ensures.down ∙ ap is_down (sym all);
      switches = let count = ap (count_by is_switch) all ∙ count_switch history e is in
          omega (arith, count, some, c.self.invariant.switches);
      waits = λ settled. subst AllSwitches (sym (ap (λ (es : List FreshEntry). entries_in (drop moved es)) items
          ∙ left_push fresh moved last c.self.invariant.within))
          (waits_push (left_of leaf) e is (c.self.invariant.waits settled));
      room = omega (arith, more, some, c.push_reserved.ensures.capacity, c.self.invariant.room);
      some = c.self.invariant.some;
      most = c.self.invariant.most;
    }

pub line_up-requires : goal.line_up-requires
line_up-requires c = record {
  rows = sym c.in-None.ensures.switch;
  numbered = tt;
  follows = c.requires.follows;
  promised = c.requires.promised (sym c.in-None.ensures.switch);
}
