-- What is said of a trace between two moments stays as histories grow, and between an earlier moment and a later one.
use Rattle.std.proofs.Common.{◌≡◌, ◌∙◌, ℕ, ℤ, ◌<◌, ◌≤◌, Bool, true, false, nat_lt, List, ◌++◌, length, take}
use Rattle.std.proofs.Common.{[], cond, drop, inl, inr, Contains, refl, sym, ap, subst, arith}
use Rattle.std.specs.List.{AllByRecursion as All, flat_map}
use Rattle.std.proofs.lemmas.Bool.Decides.{nat_tests}
use Rattle.std.proofs.lemmas.List.{get_or_past, take-append-drop, take-take}
use Rattle.std.proofs.lemmas.List.Concat.{flat_map-append}
use Rattle.mon_hints.specs.Hints.{history_buckets}
use Rattle.mon_topo.proofs.FrontLemmas.{begins_from, take_on}
use Rattle.mon_topo.proofs.HeldLemmas.{down_on}
use Rattle.mon_topo.proofs.RangeHistoryLemmas.{all_front, all_on}
use Rattle.mon_topo.specs.HeldHistories.{BeginsWith}
use Rattle.mon_topo.specs.RangeHistories.{acked_row, acknowledged_rows, first_serving, range_turns}
use Rattle.mon_value.specs.Histories.{leaf_history, range_history, same_range}
use Rattle.mon_value.specs.LeafHistories.{IsDownAt, is_down, is_opened, kept_rows, replica_turns}
use Rattle.mon_value.specs.Turns.{StandsOrIsHidden, Turn, is_hidden_by}
use Rattle.mon_value.specs.declared.histories.Entry.{Entry}
use Rattle.mon_value.specs.declared.histories.Histories.{Histories}
use Rattle.mon_value.specs.declared.histories.RangeEntry.{RangeEntry}
use Rattle.mon_value.specs.declared.positions.FoundDown.{FoundDown}
use Rattle.mon_value.specs.declared.positions.Leaf.{Leaf}
use Rattle.mon_value.specs.declared.positions.Range.{Range}
use Rattle.mon_value.specs.declared.rows.Row.{Row}
use Rattle.mon_value.specs.declared.rows.SeriesKey.{SeriesKey}
use Rattle.typed_trees.specs.Nodes.{TypedTree}
use Rattle.typed_trees.specs.Levels.{sent_amount}
use Rattle.typed_trees.specs.declared.plans.Plan.{Plan}
use Rattle.query_traces.specs.Founds.{IsFoundBetween}
use Rattle.plan_split.specs.Meeting.{is_plan_met}
use Rattle.query_traces.specs.Rounds.{slots_on}
use Rattle.query_traces.specs.Traces.{IsFirstServingBetween, IsFreshBetween, IsReadRightly, IsTraceBetween, Lengths}
use Rattle.query_traces.specs.Traces.{AreWider, IsOfRanges, cut_of, found_leaves, is_wanted, looked_at, resolved_rows}
use Rattle.query_traces.specs.Traces.{resolved_turns, rows_on, sent_if, source_of, turns_over, was_read}
use Rattle.query_traces.proofs.HiddenRows.{either_hides, hidden_behind, hidden_more, hidden_on, shown_on}
use Rattle.mon_meaning.specs.ReadableSlots.{slot_rows}
use Rattle.query_traces.specs.declared.answers.Resolved.{Resolved}
use Rattle.query_traces.specs.declared.answers.Trace.{Trace}

-- a leaf beyond those that there are has no history, and no cut
cut_by : (trace : Trace) (seen : Histories) (leaf : Leaf) → length trace.cuts ≡ length seen.leaves
    → (b : Bool) → nat_lt leaf.0 (length seen.leaves) ≡ b
    → (leaf.0 < length seen.leaves → cut_of trace leaf ≤ length (leaf_history seen leaf))
    → cut_of trace leaf ≤ length (leaf_history seen leaf)
cut_by trace seen leaf long true e within = within (grind (arith, nat_tests))
cut_by trace seen leaf long false e within =
    let past : length trace.cuts ≤ leaf.0 = grind (arith, nat_tests) in
    let none : cut_of trace leaf ≡ 0 = get_or_past trace.cuts leaf.0 0 past in
    omega (arith, none)

-- ---- a trace as histories grow

module _ (typed : TypedTree) (moment : ℤ) (from to earlier later : Lengths) (seen more : Histories)
    (wide : AreWider from to earlier later seen more) (trace : Trace)
    (is : IsTraceBetween typed moment from to seen trace) where
  cut_within : (leaf : Leaf) → cut_of trace leaf ≤ length (leaf_history seen leaf)
  cut_within leaf =
      cut_by trace seen leaf is.cuts (nat_lt leaf.0 (length seen.leaves)) refl
      (λ there. omega (arith, is.within leaf there, wide.within.leaves leaf))

  pub looked_still : (leaf : Leaf) → looked_at more trace leaf ≡ looked_at seen trace leaf
  looked_still leaf =
      take_on (leaf_history more leaf) (leaf_history seen leaf) (cut_of trace leaf) (wide.grown.leaves leaf)
      (cut_within leaf)

  rows_still : (leaf : Leaf) → rows_on more trace leaf ≡ rows_on seen trace leaf
  rows_still leaf =
      ap (λ (history : List Entry). slot_rows history (slots_on leaf trace.resolved)) (looked_still leaf)

  resolved_still : (one : Resolved) → resolved_rows more trace one ≡ resolved_rows seen trace one
  resolved_still one =
      ap (λ (history : List Entry). kept_rows one.range one.slot history) (looked_still one.leaf)

  pub source_still : source_of more trace ≡ source_of seen trace
  source_still = ap (λ (rows : Resolved → List Row). flat_map rows trace.resolved) (λ i one. resolved_still one i)

  first_still : (one : Resolved) → IsFirstServingBetween from to seen (found_leaves trace.down) one
      → IsFirstServingBetween earlier later more (found_leaves trace.down) one
  first_still one so =
      let sooner = wide.sooner.ranges one.range in
      let past = wide.later.ranges one.range in
      let short = wide.within.ranges one.range in
      record {
        found = so.found;
        between = record {
          from = omega (arith, so.between.from, sooner);
          to = omega (arith, so.between.to, past);
        };
        first = ap (first_serving (found_leaves trace.down))
            (take_on (range_history more one.range) (range_history seen one.range) so.found (wide.grown.ranges one.range)
            (omega (arith, so.between.to, short)))
            ∙ so.first;
      }

  pub trace_still : IsTraceBetween typed moment earlier later more trace
  trace_still = record {
    ranges = subst (λ (n : ℕ). IsOfRanges trace n) (sym wide.ranges) is.ranges;
    cuts = is.cuts ∙ sym wide.leaves;
    flags = is.flags ∙ sym wide.leaves;
    counts = is.counts ∙ sym wide.leaves;
    resolved = all_on (IsFirstServingBetween from to seen (found_leaves trace.down))
        (IsFirstServingBetween earlier later more (found_leaves trace.down)) first_still trace.resolved is.resolved;
    within = λ leaf there.
        (let low : leaf.0 < length seen.leaves = omega (arith, there, wide.leaves) in
        omega (arith, is.within leaf low, wide.later.leaves leaf));
    opened = all_on (λ (one : Resolved). is_opened one.range one.slot (looked_at seen trace one.leaf) ≡ true)
        (λ (one : Resolved). is_opened one.range one.slot (looked_at more trace one.leaf) ≡ true)
        (λ one so. ap (is_opened one.range one.slot) (looked_still one.leaf) ∙ so) trace.resolved is.opened;
    down = all_on (λ (found : FoundDown). IsDownAt (leaf_history seen found.leaf) found.cut)
        (λ (found : FoundDown). IsDownAt (leaf_history more found.leaf) found.cut)
        (λ found so. down_on (leaf_history more found.leaf) (leaf_history seen found.leaf) found.cut
        (wide.grown.leaves found.leaf) so) trace.down is.down;
    sends = λ leaf there.
        is.sends leaf (omega (arith, there, wide.leaves))
        ∙ ap (λ rows. sent_if (was_read trace leaf) (sent_amount typed rows moment)) (sym (rows_still leaf));
  }

  pub read_still : (plan : Plan) (buckets_of : SeriesKey → List ℕ) (leaf : Leaf)
      → IsReadRightly typed plan buckets_of seen trace leaf → IsReadRightly typed plan buckets_of more trace leaf
  read_still plan buckets_of leaf so = record {
    unread = λ e. subst (λ rows. All (λ row. is_wanted typed row ≡ false) rows) (sym (rows_still leaf)) (so.unread e);
    read = λ e. ap (λ (history : List Entry). is_plan_met plan (history_buckets buckets_of history))
        (looked_still leaf) ∙ so.read e;
    up = λ e. ap is_down (looked_still leaf) ∙ so.up e;
  }

  -- ---- freshness

  -- what was acknowledged at a length was so at a greater one
  acked_sooner : (history : List RangeEntry) (short long : ℕ) → short ≤ long → (P : Row → Type 0)
      → All P (acknowledged_rows (take long history)) → All P (acknowledged_rows (take short history))
  acked_sooner history short long le P all =
      let front : take short (take long history) ≡ take short history = take-take short long history le in
      let both : acknowledged_rows (take long history)
      ≡ acknowledged_rows (take short history) ++ acknowledged_rows (drop short (take long history)) =
      ap acknowledged_rows (sym (take-append-drop short (take long history)))
      ∙ flat_map-append acked_row (take short (take long history)) (drop short (take long history))
      ∙ ap (λ (front : List RangeEntry).
      acknowledged_rows front ++ acknowledged_rows (drop short (take long history))) front in
      all_front P (acknowledged_rows (take short history)) (acknowledged_rows (drop short (take long history)))
      (subst (λ (rows : List Row). All P rows) both all)

  turns_still : (one : Resolved) → resolved_turns more trace one ≡ resolved_turns seen trace one
  turns_still one =
      ap (λ (history : List Entry). replica_turns one.range one.slot history) (looked_still one.leaf)

  -- what hid a row of a range by a moment hides it by a later one
  hidden_still : (range : Range) (row : Row)
      → is_hidden_by (turns_over seen (to.ranges range) trace range) row ≡ true
      → is_hidden_by (turns_over more (later.ranges range) trace range) row ≡ true
  hidden_still range row is =
      let front = take (to.ranges range) (range_history seen range) in
      let history = take (later.ranges range) (range_history more range) in
      let past = wide.later.ranges range in
      let short = wide.within.ranges range in
      let same : take (to.ranges range) history ≡ front =
      take-take (to.ranges range) (later.ranges range) (range_history more range) past
      ∙ take_on (range_history more range) (range_history seen range) (to.ranges range) (wide.grown.ranges range)
      (omega (arith, short)) in
      let begins : BeginsWith history front =
      begins_from history front (drop (to.ranges range) history)
      (sym (take-append-drop (to.ranges range) history)
      ∙ ap (λ (first : List RangeEntry). first ++ drop (to.ranges range) history) same) in
      let own : (Resolved → List Turn) → List Turn =
      λ turns. flat_map (λ (one : Resolved). cond (same_range one.range range) (turns one) []) trace.resolved in
      let slots : own (resolved_turns more trace) ≡ own (resolved_turns seen trace) = ap own (λ i one. turns_still one i) in
      elim (either_hides (own (resolved_turns seen trace)) (range_turns front) row is) [
        | inl here ↦ hidden_more (own (resolved_turns more trace)) (range_turns history) row
            (ap (λ (turns : List Turn). is_hidden_by turns row) slots ∙ here)
        | inr there ↦ hidden_behind (own (resolved_turns more trace)) (range_turns history) row
            (hidden_on history front row begins there)
      ]

  pub fresh_still : IsFreshBetween from to seen trace → IsFreshBetween earlier later more trace
  fresh_still so = record {
    cuts = λ leaf there. omega (arith, so.cuts leaf (omega (arith, there, wide.leaves)), wide.sooner.leaves leaf);
    rows = λ range there.
        (let sooner = wide.sooner.ranges range in
        let short = wide.begun.ranges range in
        let same : take (earlier.ranges range) (range_history more range)
        ≡ take (earlier.ranges range) (range_history seen range) =
        take_on (range_history more range) (range_history seen range) (earlier.ranges range) (wide.grown.ranges range)
        (omega (arith, sooner, short)) in
        let was = StandsOrIsHidden (source_of seen trace) (turns_over seen (to.ranges range) trace range) in
        let now = StandsOrIsHidden (source_of more trace) (turns_over more (later.ranges range) trace range) in
        let front = acknowledged_rows (take (earlier.ranges range) (range_history seen range)) in
        subst (λ (front : List RangeEntry). All now (acknowledged_rows front)) (sym same)
        (all_on was now
        (λ row. shown_on (source_of seen trace) (source_of more trace) (turns_over seen (to.ranges range) trace range)
        (turns_over more (later.ranges range) trace range) row
        (subst (λ (rows : List Row). Contains rows row) (sym source_still)) (hidden_still range row)) front
        (acked_sooner (range_history seen range) (earlier.ranges range) (from.ranges range) sooner was
        (so.rows range (omega (arith, there, wide.ranges))))));
  }

-- ---- leaves that were found down

pub found_still : (from to earlier later : Lengths) (seen more : Histories) → AreWider from to earlier later seen more
    → (found : FoundDown) → IsFoundBetween from to seen found → IsFoundBetween earlier later more found
found_still from to earlier later seen more wide found so =
    let sooner = wide.sooner.leaves found.leaf in
    let past = wide.later.leaves found.leaf in
    record {
      between = record {
        from = omega (arith, so.between.from, sooner);
        to = omega (arith, so.between.to, past);
      };
      down = down_on (leaf_history more found.leaf) (leaf_history seen found.leaf) found.cut
          (wide.grown.leaves found.leaf) so.down;
    }
