-- What a query's table stands on is there, and its caller has seen it and goes on having seen it.
use Rattle.std.proofs.Common.{◌≡◌, ◌∙◌, ◌<◌, ◌≤◌, ℕ, ℤ, zero, suc, true, false, List, [], length, take, sym, ap}
use Rattle.std.proofs.Common.{subst, arith, inl, inr, Ok, Err}
use Rattle.std.specs.Prelude.{IfOk, Result}
use Rattle.std.specs.List.{AllByRecursion as All}
use Rattle.std.proofs.lemmas.Bool.{cases_lt}
use Rattle.std.proofs.lemmas.List.{get_or_past}
use Rattle.history_book.proofs.ListLemmas.{prefix_length}
use Rattle.history_book.specs.Histories.{AreFronts}
use Rattle.know.specs.Knowledge.{Knowledge}
use Rattle.mon_config.specs.declared.config.Config.{Config}
use Rattle.mon_topo.proofs.RangeHistoryLemmas.{all_on}
use Rattle.mon_topo.specs.Settings.{Setting}
use Rattle.mon_topo.specs.Zones.{leaves_in}
use Rattle.mon_topo.specs.declared.zones.ZoneSpec.{ZoneSpec}
use Rattle.mon_value.specs.Histories.{leaf_history}
use Rattle.mon_value.specs.LeafHistories.{is_opened}
use Rattle.mon_value.specs.declared.histories.Entry.{Entry}
use Rattle.mon_value.specs.declared.histories.Histories.{Histories}
use Rattle.mon_value.specs.declared.positions.Leaf.{Leaf}
use Rattle.mon_value.specs.declared.positions.Range.{Range}
use Rattle.mon_value.specs.declared.positions.Slot.{Slot}
use Rattle.typed_trees.specs.Nodes.{TypedTree}
use Rattle.query_traces.specs.Rounds.{typed_of}
use Rattle.query_traces.specs.Traces.{IsTraceOf, cut_of, looked_at}
use Rattle.query_traces.specs.declared.answers.Answer.{Answer}
use Rattle.query_traces.specs.declared.answers.Resolved.{Resolved}
use Rattle.query_traces.specs.declared.answers.Trace.{Trace}
use Rattle.running_query.specs.Looks.{GoesOn}
use Rattle.mon_store.specs.Gathers.{HasSeenTrace}
use Rattle.mon_store.specs.Queries.{IsQueried}
use Rattle.mon_store.specs.Stores.{setting_of}
use Rattle.mon_store.specs.declared.queries.QueryFault.{QueryFault}

-- ---- a leaf on which a slot is opened is there

none_opened : (range : Range) (slot : Slot) (n : ℕ) → is_opened range slot (take n []) ≡ true → ⊥
none_opened range slot zero e = let f : false ≡ true = e in cc
none_opened range slot (suc n) e = let f : false ≡ true = e in cc

opened_there : (seen : Histories) (leaf : Leaf) (range : Range) (slot : Slot) (n : ℕ)
    → is_opened range slot (take n (leaf_history seen leaf)) ≡ true → leaf.0 < length seen.leaves
opened_there seen leaf range slot n opened = elim (cases_lt leaf.0 (length seen.leaves)) [
  | inl there ↦ there
  | inr past ↦
      absurd (none_opened range slot n
      (subst (λ (history : List Entry). is_opened range slot (take n history) ≡ true)
      (get_or_past seen.leaves leaf.0 [] past) opened))
]

-- ---- a trace of what was seen

module _ (zones : List ZoneSpec) (trace : Trace) where
  abbrev IsThere : Resolved → Type 0
  IsThere one = one.leaf.0 < length (leaves_in zones)

  abbrev IsOpenedIn : Histories → Resolved → Type 0
  IsOpenedIn seen one = is_opened one.range one.slot (looked_at seen trace one.leaf) ≡ true

  pub trace_seen : (typed : TypedTree) (moment : ℤ) (at_entry : Histories) (know : Knowledge)
      → length know.seen.leaves ≡ length (leaves_in zones) → IsTraceOf typed moment at_entry know.seen trace
      → HasSeenTrace zones know trace
  trace_seen typed moment at_entry know many of = record {
    cuts = of.cuts ∙ many;
    there = all_on (IsOpenedIn know.seen) IsThere
        (λ one opened. subst (λ (n : ℕ). one.leaf.0 < n) many
        (opened_there know.seen one.leaf one.range one.slot (cut_of trace one.leaf) opened))
        trace.resolved of.opened;
    within = λ leaf there. of.within leaf (subst (λ (n : ℕ). leaf.0 < n) (sym many) there);
  }

  pub still_seen : (before after : Knowledge) → AreFronts before.seen after.seen → HasSeenTrace zones before trace
      → HasSeenTrace zones after trace
  still_seen before after fronts is = record {
    cuts = is.cuts;
    there = is.there;
    within = λ leaf there.
        by (cut_of trace leaf) (length (leaf_history before.seen leaf)) (length (leaf_history after.seen leaf))
        (is.within leaf there)
        (prefix_length (leaf_history before.seen leaf) (leaf_history after.seen leaf) (fronts.0 leaf));
  }
    where
      by : (a b c : ℕ) → a ≤ b → b ≤ c → a ≤ c
      by a b c p q = omega arith

-- ---- a query's table

pub answer_seen : (config : Config) (store : Setting) (text : List ℕ) (moment : ℤ) (limit : ℕ)
    (before after : Knowledge) → store ≡ setting_of config → GoesOn store before after
    → (result : Result Answer QueryFault) → IsQueried config text moment limit before after result
    → IfOk result (λ answer. HasSeenTrace config.topology after answer.trace)
answer_seen config store text moment limit before after set goes (Ok answer) queried =
    trace_seen config.topology answer.trace (typed_of queried.setting) moment before.seen after
    (goes.sound.held.all_leaves ∙ ap (λ (s : Setting). length (leaves_in s.zones)) set) queried.ends.rightly.of
answer_seen config store text moment limit before after set goes (Err why) queried = tt
