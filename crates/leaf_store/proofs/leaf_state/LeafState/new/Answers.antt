use Rattle.std.proofs.Common.{rules, ◌≡◌, ◌∙◌, ◌+◌, ℕ, Bool, List, [], length, drop, sym, ap, subst, arith}
use Rattle.std.specs.List.{count_by}
use Rattle.mon_hints.specs.Formulas.{is_among}
use Rattle.mon_value.specs.LeafHistories.{is_down, is_switch}
use Rattle.mon_value.specs.declared.histories.Entry.{Entry}
use Rattle.mon_hints.specs.Hints.{history_buckets}
use Rattle.leaf_store.specs.LeafStates.{key_buckets}
use Rattle.leaf_store.specs.declared.fresh.FreshEntry.{FreshEntry}
use Rattle.leaf_store.specs.within.FreshEntries.{AreNumbered, entries_in}
use Rattle.leaf_store.specs.within.Replicas.{shown_entries}
use Rattle.leaf_store.specs.within.States.{AllSwitches}
use Rattle.leaf_store.proofs.StateLemmas.{no_history, nothing_holds}
use Rattle.leaf_store.proofs.leaf_state.LeafState.new.Goals as goal

pub invariant_of-result : goal.invariant_of-result
invariant_of-result c =
    let replicas = c.new.result.entries in
    let ks = c.new-2.result.items in
    let fresh = c.in_ok-with_capacity.field-0.items in
    let none : replicas ≡ [] = search rules in
    let kept = c.new-2.ensures.empty in
    let left = c.in_ok-with_capacity.ensures.items in
    let history = no_history replicas ks fresh none kept left in
    record {
      within = omega arith;
      holds = nothing_holds replicas ks fresh none kept left;
      numbered = subst (λ (es : List FreshEntry). AreNumbered (shown_entries replicas ks) (drop 0 es)) (sym left) tt;
      raised = λ bucket. ap (λ (f : ℕ → Bool). f bucket) c.new-3.ensures.none
          ∙ sym (ap (λ (es : List Entry). is_among bucket
          (history_buckets (key_buckets c.args.buckets c.in_ok-copy.field-0) es)) history);
      down = sym (ap is_down history);
      switches = ap (λ (es : List Entry). count_by is_switch es + 65536) history;
      waits = λ settled. subst (λ (es : List FreshEntry). AllSwitches (entries_in (drop 0 es))) (sym left) tt;
      room = let count = ap length left in omega (arith, count, c.in_ok-with_capacity.ensures.capacity);
      some = c.requires.some;
      most = c.requires.most;
    }
