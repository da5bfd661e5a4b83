-- What is known of the trace with which a query ends.
use Rattle.std.proofs.Common.{◌≡◌, ◌∙◌, ℕ, ℤ, zero, suc, ◌+◌, ◌<◌, Bool, true, false, cond, List, [], ◌∷◌, ◌++◌}
use Rattle.std.proofs.Common.{length, map, take, drop, get_or, Option, Some, None, Contains, inl, inr, refl, sym, ap}
use Rattle.std.proofs.Common.{subst, arith}
use Rattle.std.specs.List.{AllByRecursion as All, flat_map, list_any, range_with_len}
use Rattle.std.proofs.lemmas.Bool.{or_cases, or_left, or_right}
use Rattle.std.proofs.lemmas.List.{get_or-map, length-map, take-append-drop, take_all}
use Rattle.std.proofs.lemmas.List.Elements.{Contains-append_right}
use Rattle.mon_hints.specs.Formulas.{FormulaTree, any_holds, formula_tree, formulas, holds}
use Rattle.mon_hints.specs.Hints.{series_buckets, history_buckets}
use Rattle.mon_schema.specs.Fits.{fits, fits_both, row_fits}
use Rattle.mon_schema.specs.Names.{SchemaLists, metric_named, target_named}
use Rattle.mon_topo.proofs.RangeHistoryLemmas.{all_at, all_on}
use Rattle.mon_value.specs.Histories.{leaf_history, range_history, range_numbered, same_range}
use Rattle.mon_value.specs.declared.histories.Histories.{Histories}
use Rattle.mon_topo.specs.HeldHistories.{AreHeld, AreWithin}
use Rattle.mon_topo.specs.RangeHistories.{acknowledged_rows, range_turns}
use Rattle.mon_topo.specs.Settings.{Setting}
use Rattle.mon_topo.specs.Zones.{first_leaf}
use Rattle.mon_value.specs.LeafHistories.{IsDownAt, IsWellFormed, is_down, is_opened, leaf_rows, replica_rows}
use Rattle.mon_value.specs.Turns.{StandsOrIsHidden, Turn, is_hidden_by}
use Rattle.mon_value.specs.declared.histories.Entry.{Entry}
use Rattle.mon_value.specs.declared.histories.RangeEntry.{RangeEntry}
use Rattle.mon_value.specs.declared.positions.FoundDown.{FoundDown}
use Rattle.mon_value.specs.declared.positions.Leaf.{Leaf}
use Rattle.mon_value.specs.declared.positions.Range.{Range}
use Rattle.mon_value.specs.declared.rows.Row.{Row}
use Rattle.mon_value.specs.declared.schemas.MetricSchema.{MetricSchema}
use Rattle.mon_value.specs.declared.schemas.TargetSchema.{TargetSchema}
use Rattle.typed_trees.specs.Meaning.{meets}
use Rattle.typed_trees.specs.Nodes.{NodeTree}
use Rattle.typed_trees.specs.Levels.{sent_amount}
use Rattle.typed_trees.specs.Plans.{fetches}
use Rattle.plan_split.proofs.FitLemmas.{fields_of_fitting}
use Rattle.plan_split.specs.Meeting.{AllHoldWhereMet, is_plan_met}
use Rattle.query_traces.proofs.HiddenRows.{either_hides, hidden_behind, hidden_in, hidden_more, kept_or_hidden}
use Rattle.query_traces.proofs.HiddenRows.{shown_on}
use Rattle.query_traces.proofs.HintFacts.{none_wanted}
use Rattle.query_traces.proofs.Spans.{ResolvedSo, StandsAt, StandsIn, look_at, range_of, up_to}
use Rattle.query_core.proofs.TraceClaims as claim
use Rattle.query_traces.proofs.ZoneFacts.{all_leaves, all_ranges}
use Rattle.mon_value.proofs.LeafHistoryLemmas.{front as formed_front}
use Rattle.mon_value.proofs.PlainLemmas.{equal_itself, in_flat_map}
use Rattle.query_traces.specs.Askings.{IsAskedOf}
use Rattle.query_traces.specs.Founds.{IsFoundThen}
use Rattle.query_traces.specs.Rounds.{unread_look, slots_on, QuerySetting, typed_of}
use Rattle.mon_topo.specs.Views.{View}
use Rattle.query_traces.specs.Traces.{IsFirstServing, IsFresh, IsReadRightly, IsTraceOf, cut_of, is_wanted, looked_at}
use Rattle.query_traces.specs.Traces.{resolved_rows, resolved_turns, rows_on, sent_by, sent_if, source_of, turns_over}
use Rattle.query_traces.specs.Traces.{was_read}
use Rattle.mon_meaning.specs.ReadableSlots.{slot_rows}
use Rattle.query_traces.specs.declared.answers.Resolved.{Resolved}
use Rattle.query_traces.specs.declared.answers.Trace.{Trace}
use Rattle.query_traces.specs.declared.looks.Look.{Look}

-- ---- what is wanted has a formula that holds

record AreNamed (t : Option TargetSchema) (m : Option MetricSchema) (row : Row) : Type 0 where
  pub target : TargetSchema
  pub metric : MetricSchema
  pub target_is : t ≡ Some target
  pub metric_is : m ≡ Some metric
  pub is : row_fits target metric row ≡ true

are_named : (t : Option TargetSchema) (m : Option MetricSchema) (row : Row) → fits_both t m row ≡ true
    → AreNamed t m row
are_named (Some target) (Some metric) row e = record {
  target = target;
  metric = metric;
  target_is = refl;
  metric_is =
      refl;
  is = e;
}
are_named None metric row e = absurd (cc)
are_named (Some target) None row e = absurd (cc)

module _ (held : SchemaLists) (buckets : ℕ) (row : Row)
    (is : AreNamed (target_named row.key.target.schema held.targets) (metric_named row.key.metric held.metrics) row)
  where
    abbrev own : List ℕ
    own = series_buckets buckets is.target is.metric row.key

    one_holds : (wanted : List NodeTree) (trees : List FormulaTree) → AllHoldWhereMet held buckets wanted trees
        → list_any (λ fetch. meets fetch row.key) wanted ≡ true → any_holds (formulas trees) own ≡ true
    one_holds [] [] all e = absurd (cc)
    one_holds [] (tree ∷ trees) all e = absurd all
    one_holds (fetch ∷ wanted) [] all e = absurd all
    one_holds (fetch ∷ wanted) (tree ∷ trees) all e =
        elim (or_cases (meets fetch row.key) (list_any (λ fetch. meets fetch row.key) wanted) e) [
          | inl first ↦ or_left (holds tree own) (any_holds (formulas trees) own)
              (all.0 is.target is.metric row.key is.target_is is.metric_is (fields_of_fitting is.target is.metric row
              is.is) first)
          | inr rest ↦ or_right (holds tree own) (any_holds (formulas trees) own) (one_holds wanted trees all.1 rest)
        ]

-- where no formula holds of a leaf's buckets, none of its rows is wanted
pub unmet_rows : (store : Setting) (setting : QuerySetting) → IsAskedOf store setting → (history : List Entry)
    → All (λ row. fits store.held row ≡ true) (leaf_rows history)
    → claim.met store setting (history_buckets store.buckets_of history) ≡ false
    → All (λ row. claim.wanted store setting row ≡ false) (leaf_rows history)
unmet_rows store setting asked history good out =
    none_wanted (formulas (map formula_tree setting.plan.formulas)) store.buckets_of (fits store.held)
    (claim.wanted store setting)
    (λ row fit wanted.
    (let is = are_named (target_named row.key.target.schema store.held.targets)
    (metric_named row.key.metric store.held.metrics) row fit in
    subst (λ (own : List ℕ). any_holds (formulas (map formula_tree setting.plan.formulas)) own ≡ true)
    (sym (asked.hinted is.target is.metric row.key is.target_is is.metric_is))
    (one_holds store.held asked.buckets row is (fetches (typed_of setting).tree)
    (map formula_tree setting.plan.formulas)
    asked.promise wanted)))
    (leaf_rows history) good out

-- ---- the trace

record IsOfRange (xs : List Resolved) (number : ℕ) : Type 0 where
  pub one : Resolved
  pub there : Contains xs one
  pub is : one.range ≡ range_numbered number

of_range : (xs : List Resolved) (base m n : ℕ) → map range_of xs ≡ map range_numbered (range_with_len base m) → n < m
    → IsOfRange xs (base + n)
of_range xs base zero n e lt = absurd (omega (arith, lt))
of_range [] base (suc m) n e lt = absurd (cc)
of_range (x ∷ xs) base (suc m) zero e lt =
    let head : x.range ≡ range_numbered base = cc in
    record { one = x; there = (zero, omega arith, refl); is = head ∙ ap range_numbered (omega arith) }
of_range (x ∷ xs) base (suc m) (suc n) e lt =
    let tail : map range_of xs ≡ map range_numbered (range_with_len (base + 1) m) = cc in
    let rest = of_range xs (base + 1) m n tail (omega (arith, lt)) in
    record {
      one = rest.one;
      there = Contains-append_right (x ∷ []) xs rest.one rest.there;
      is = rest.is ∙ ap range_numbered (omega arith);
    }

module _ (store : Setting) (setting : QuerySetting) (moment : ℤ) (at_entry : Histories) (now : View)
    (held : AreHeld store.held store.zones store.points now.seen) (Skip : Leaf → Type 0) (trace : Trace)
    (is : claim.TraceSo store setting at_entry now Skip trace) where
  abbrev all : ℕ
  all = first_leaf store.zones (length store.zones)

  leaves_are : all ≡ length now.seen.leaves
  leaves_are = omega (arith, all_leaves store.zones (length store.zones) (omega arith), held.all_leaves)

  looks_long : length is.looks ≡ length now.seen.leaves
  looks_long = omega (arith, is.span.long, leaves_are)

  resolved_long : length trace.resolved ≡ length now.seen.ranges
  resolved_long = omega (
    arith,
    is.span.count,
    all_ranges store.zones (length store.zones) (omega arith),
    held.all_ranges,
  )

  cut_is : (leaf : Leaf) → leaf.0 < all → cut_of trace leaf ≡ (look_at 0 is.looks leaf).cut
  cut_is leaf within =
      ap (λ cuts. get_or cuts leaf.0 0) is.cuts
      ∙ get_or-map (λ (look : Look). look.cut) is.looks leaf.0 (unread_look 0) 0
      (omega (arith, within, leaves_are, looks_long))
      ∙ ap (λ n. (get_or is.looks n (unread_look 0)).cut) (omega arith)

  read_is : (leaf : Leaf) → leaf.0 < all → was_read trace leaf ≡ (look_at 0 is.looks leaf).read
  read_is leaf within =
      ap (λ flags. get_or flags leaf.0 false) is.read
      ∙ get_or-map (λ (look : Look). look.read) is.looks leaf.0 (unread_look 0) false
      (omega (arith, within, leaves_are, looks_long))
      ∙ ap (λ n. (get_or is.looks n (unread_look 0)).read) (omega arith)

  looked_is : (leaf : Leaf) → leaf.0 < all → looked_at now.seen trace leaf ≡ up_to now.seen leaf
      (look_at 0 is.looks leaf)
  looked_is leaf within = ap (λ n. take n (leaf_history now.seen leaf)) (cut_is leaf within)

  -- the range's turns, behind those of the slot
  abbrev own_turns : Resolved → List Turn
  own_turns one = resolved_turns now.seen trace one ++ range_turns (range_history now.seen one.range)

  -- what had been acknowledged at entry stands in the slot, or is hidden
  abbrev ShowsAll : Resolved → Type 0
  ShowsAll one = All (StandsOrIsHidden (resolved_rows now.seen trace one) (own_turns one))
      (acknowledged_rows (range_history at_entry one.range))

  formed_at : (leaf : Leaf) → leaf.0 < all → IsWellFormed (looked_at now.seen trace leaf)
  formed_at leaf within =
      let history = leaf_history now.seen leaf in
      let cut = cut_of trace leaf in
      formed_front (take cut history) (drop cut history)
      (subst IsWellFormed (sym (take-append-drop cut history))
      (held.formed leaf (omega (arith, within, leaves_are))))

  stand_by : (some : List Resolved) → All (ResolvedSo at_entry now.seen is.avoided 0 all) some
      → All (StandsAt at_entry now.seen 0 is.looks) some
      → All (λ (one : Resolved). is_opened one.range one.slot (looked_at now.seen trace one.leaf) ≡ true) some
      × All ShowsAll some
  stand_by [] each stand = (record {}, record {})
  stand_by (one ∷ some) each stand =
      let rest = stand_by some each.1 stand.1 in
      let is_here : StandsIn at_entry now.seen (looked_at now.seen trace one.leaf) one =
      subst (λ (history : List Entry). StandsIn at_entry now.seen history one) (sym (looked_is one.leaf each.0.to))
      stand.0 in
      let bounds = range_turns (range_history now.seen one.range) in
      let history = looked_at now.seen trace one.leaf in (
        (is_here.opened, rest.0),
        (
          all_on (StandsOrIsHidden (replica_rows one.range one.slot history) bounds)
              (StandsOrIsHidden (resolved_rows now.seen trace one) (own_turns one))
              (kept_or_hidden one.range one.slot history bounds (formed_at one.leaf each.0.to))
              (acknowledged_rows (range_history at_entry one.range)) is_here.rows,
          rest.1,
        ),
      )

  -- it is of the histories that were seen, but for how much was sent
  pub trace_of_histories : ((leaf : Leaf) → leaf.0 < length now.seen.leaves
      → sent_by trace leaf ≡ sent_if (was_read trace leaf) (sent_amount (typed_of setting) (rows_on now.seen trace leaf)
      moment))
      → IsTraceOf (typed_of setting) moment at_entry now.seen trace
  trace_of_histories sends = record {
    ranges = is.span.ranges ∙ ap (λ n. map range_numbered (range_with_len 0 n)) resolved_long;
    cuts = ap length is.cuts ∙ length-map is.looks (λ (look : Look). look.cut) ∙ looks_long;
    flags = ap length is.read ∙ length-map is.looks (λ (look : Look). look.read) ∙ looks_long;
    counts = is.counts ∙ looks_long;
    resolved = subst (λ (leaves : List Leaf). All (IsFirstServing at_entry now.seen leaves) trace.resolved)
        is.founds.avoids
        (all_on (ResolvedSo at_entry now.seen is.avoided 0 all) (IsFirstServing at_entry now.seen is.avoided)
        (λ one so. so.first)
        trace.resolved is.span.each);
    within = λ leaf within.
        (let low : leaf.0 < all = omega (arith, within, leaves_are) in
        let is_looked = is.span.cuts leaf (omega arith) low in
        omega (arith, is_looked.to, cut_is leaf low));
    opened = (stand_by trace.resolved is.span.each is.span.stand).0;
    down = all_on (IsFoundThen at_entry now.seen)
        (λ (found : FoundDown). IsDownAt (leaf_history now.seen found.leaf) found.cut) (λ found so. so.down) trace.down
        is.founds.were_found;
    sends = sends;
  }

  -- what hides a row of a range's slot is among what may hide rows of the range
  over_range : (one : Resolved) → Contains trace.resolved one → (row : Row) → is_hidden_by (own_turns one) row ≡ true
      → is_hidden_by (turns_over now.seen (length (range_history now.seen one.range)) trace one.range) row ≡ true
  over_range one there row is =
      let history = range_history now.seen one.range in
      let whole : take (length history) history ≡ history = take_all (length history) history (omega arith) in
      let of_slot : Resolved → List Turn =
      λ other. cond (same_range other.range one.range) (resolved_turns now.seen trace other) [] in
      elim (either_hides (resolved_turns now.seen trace one) (range_turns history) row is) [
        | inl here ↦ hidden_more (flat_map of_slot trace.resolved) (range_turns (take (length history) history)) row
            (hidden_in of_slot trace.resolved one row there
            (ap (λ (b : Bool). is_hidden_by (cond b (resolved_turns now.seen trace one) []) row)
            (equal_itself one.range.0) ∙ here))
        | inr hidden ↦ hidden_behind (flat_map of_slot trace.resolved) (range_turns (take (length history) history)) row
            (ap (λ (front : List RangeEntry). is_hidden_by (range_turns front) row) whole ∙ hidden)
      ]

  -- a row stands among those of the query, or may be hidden
  abbrev IsShown : Range → Row → Type 0
  IsShown range =
      StandsOrIsHidden (source_of now.seen trace)
      (turns_over now.seen (length (range_history now.seen range)) trace range)

  pub trace_fresh : AreWithin at_entry now.seen → IsFresh at_entry now.seen trace
  trace_fresh since = record {
    cuts = λ leaf within.
        (let low : leaf.0 < all = omega (arith, within, leaves_are) in
        let is_looked = is.span.cuts leaf (omega arith) low in
        omega (arith, is_looked.from, cut_is leaf low));
    rows = λ range within.
        (let one = of_range trace.resolved 0 (length trace.resolved) range.0 is.span.ranges
        (omega (arith, within, resolved_long)) in
        let same : one.one.range ≡ range = one.is ∙ ap range_numbered (omega arith) in
        let slot = one.one in
        let rows = all_at ShowsAll trace.resolved slot (stand_by trace.resolved is.span.each is.span.stand).1 one.there in
        let over = turns_over now.seen (length (range_history now.seen slot.range)) trace slot.range in
        subst (λ (front : List RangeEntry). All (IsShown range) (acknowledged_rows front)) (sym (since.ranges range))
        (subst (λ (r : Range). All (IsShown r) (acknowledged_rows (range_history at_entry r))) same
        (all_on (StandsOrIsHidden (resolved_rows now.seen trace slot) (own_turns slot)) (IsShown slot.range)
        (λ row. shown_on (resolved_rows now.seen trace slot) (source_of now.seen trace) (own_turns slot) over row
        (in_flat_map (resolved_rows now.seen trace) trace.resolved slot row one.there)
        (over_range slot one.there row))
        (acknowledged_rows (range_history at_entry slot.range)) rows)));
  }

  -- a leaf of which something is told was read, or not, rightly
  pub read_rightly : (leaf : Leaf) → leaf.0 < length now.seen.leaves → (Skip leaf → ⊥)
      → IsReadRightly (typed_of setting) setting.plan store.buckets_of now.seen trace leaf
  read_rightly leaf within told =
      let low : leaf.0 < all = omega (arith, within, leaves_are) in
      let same = sym (looked_is leaf low) in
      elim (is.span.tells leaf (omega arith) low) [
        | inl skip ↦ absurd (told skip)
        | inr tells ↦ record {
          unread = λ e. subst (λ (history : List Entry). All (λ row. is_wanted (typed_of setting) row ≡ false)
              (slot_rows history (slots_on leaf trace.resolved))) same (tells.unread (sym (read_is leaf low) ∙ e));
          read = λ e. subst (λ (history : List Entry). is_plan_met setting.plan
              (history_buckets store.buckets_of history)
              ≡ true) same
              (tells.read (sym (read_is leaf low) ∙ e));
          up = λ e. ap is_down (looked_is leaf low) ∙ tells.up (sym (read_is leaf low) ∙ e);
        }
      ]
