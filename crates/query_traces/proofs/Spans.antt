-- What is known of the leaves and the ranges from one zone to another, once a query is through with them.
use Rattle.std.proofs.Common.{◌≡◌, ◌∙◌, ℕ, zero, suc, ◌+◌, ◌-◌, ◌<◌, ◌≤◌, Bool, true, false, not, cond, ◌||◌, List, []}
use Rattle.std.proofs.Common.{◌∷◌, ◌++◌, length, map, take, drop, filter, get_or, ◌⊎◌, inl, inr, refl, sym}
use Rattle.std.proofs.Common.{ap, subst, append-nil, length-append, arith}
use Rattle.std.specs.List.{AllByRecursion as All, list_any, range_with_len}
use Rattle.std.proofs.lemmas.Bool.{cases_lt}
use Rattle.std.proofs.lemmas.Bool.Decides.{nat_tests}
use Rattle.std.proofs.lemmas.List.{get_or_append_left, get_or-append_right, map-append}
use Rattle.std.proofs.lemmas.List.Elements.{filter-append}
use Rattle.std.proofs.lemmas.List.Folds.{list_any-append}
use Rattle.mon_hints.specs.Hints.{history_buckets}
use Rattle.mon_topo.proofs.FrontLemmas.{begins-flat_map, begins_length, begins_to, contains_on, take_on}
use Rattle.mon_topo.proofs.RangeHistoryLemmas.{all_append, all_on}
use Rattle.mon_value.specs.Histories.{leaf_history, range_history, range_numbered, same_leaf}
use Rattle.mon_value.specs.declared.histories.Histories.{Histories}
use Rattle.mon_topo.specs.HeldHistories.{BeginsWith, AreWithin}
use Rattle.mon_topo.specs.RangeHistories.{acknowledged_rows, first_serving, is_avoided, range_turns, serving}
use Rattle.mon_value.proofs.LeafHistoryLemmas.{is_opened-append}
use Rattle.mon_value.specs.LeafHistories.{entry_rows, is_down, is_opened, replica_rows}
use Rattle.mon_value.specs.Turns.{StandsOrIsHidden}
use Rattle.mon_value.specs.declared.histories.Entry.{Entry}
use Rattle.mon_value.specs.declared.histories.RangeEntry.{RangeEntry}
use Rattle.mon_value.specs.declared.positions.Leaf.{Leaf}
use Rattle.mon_value.specs.declared.positions.Range.{Range}
use Rattle.mon_value.specs.declared.positions.RangeSlot.{RangeSlot}
use Rattle.mon_value.specs.declared.positions.SlotLeaf.{SlotLeaf}
use Rattle.mon_value.specs.declared.rows.Row.{Row}
use Rattle.mon_value.specs.declared.rows.SeriesKey.{SeriesKey}
use Rattle.query_traces.proofs.HiddenRows.{hidden_on, shown_on}
use Rattle.query_traces.specs.Rounds.{unread_look, slot_of, slots_on}
use Rattle.query_traces.specs.Traces.{IsBetween, IsFirstServing}
use Rattle.mon_meaning.specs.ReadableSlots.{slot_rows}
use Rattle.query_traces.specs.declared.answers.Resolved.{Resolved}
use Rattle.query_traces.specs.declared.looks.Look.{Look}

-- ---- what stays as histories grow

pub between_on : (before after later n : ℕ) → after ≤ later → IsBetween before after n → IsBetween before later n
between_on before after later n more is = record { from = is.from; to = omega (arith, is.to, more) }

abbrev pub range_of : Resolved → Range
range_of one = one.range

abbrev pub look_at : ℕ → List Look → Leaf → Look
look_at low looks leaf = get_or looks (leaf.0 - low) (unread_look 0)

-- a replica was opened in its leaf's history, which has the rows that had been acknowledged at entry, but for those that a
-- bound in the range's history hides
pub record StandsIn (at_entry seen : Histories) (history : List Entry) (one : Resolved) : Type 0 where
  pub opened : is_opened one.range one.slot history ≡ true
  pub rows : All (StandsOrIsHidden (replica_rows one.range one.slot history) (range_turns (range_history seen one.range)))
      (acknowledged_rows (range_history at_entry one.range))

pub stands_on : (at_entry seen : Histories) (now was : List Entry) (one : Resolved) → BeginsWith now was
    → StandsIn at_entry seen was one → StandsIn at_entry seen now one
stands_on at_entry seen now was one grows is =
    let turns = range_turns (range_history seen one.range) in
    let before = replica_rows one.range one.slot was in
    let after = replica_rows one.range one.slot now in
    record {
      opened = subst (λ (history : List Entry). is_opened one.range one.slot history ≡ true)
          (sym (begins_to now was grows))
          (is_opened-append one.range one.slot was (drop (length was) now) is.opened);
      rows = all_on (StandsOrIsHidden before turns) (StandsOrIsHidden after turns)
          (λ row. shown_on before after turns turns row
          (contains_on after before row (begins-flat_map (entry_rows one.range one.slot) now was grows)) (λ hidden. hidden))
          (acknowledged_rows (range_history at_entry one.range)) is.rows;
    }

-- so too as histories grow
pub stands_later : (at_entry before after : Histories) → AreWithin before after → (history : List Entry)
    (one : Resolved) → StandsIn at_entry before history one → StandsIn at_entry after history one
stands_later at_entry before after grown history one is =
    let rows = replica_rows one.range one.slot history in
    let was = range_history before one.range in
    let now = range_history after one.range in
    record {
      opened = is.opened;
      rows = all_on (StandsOrIsHidden rows (range_turns was)) (StandsOrIsHidden rows (range_turns now))
          (λ row. shown_on rows rows (range_turns was) (range_turns now) row (λ there. there)
          (hidden_on now was row (grown.ranges one.range)))
          (acknowledged_rows (range_history at_entry one.range)) is.rows;
    }

-- ---- resolved ranges

module _ (at_entry : Histories) where
  -- a range resolved to a leaf of some leaves, on which all its replicas were that served
  pub record ResolvedSo (now : Histories) (avoided : List Leaf) (low high : ℕ) (one : Resolved) : Type 0 where
    pub first : IsFirstServing at_entry now avoided one
    pub near : All (λ (replica : SlotLeaf). (low ≤ replica.leaf.0) × (replica.leaf.0 < high))
        (serving (take first.found (range_history now one.range)))
    pub from : low ≤ one.leaf.0
    pub to : one.leaf.0 < high

  pub resolved_on : (before after : Histories) → AreWithin before after → (avoided : List Leaf) (low high : ℕ)
      (one : Resolved) → ResolvedSo before avoided low high one → ResolvedSo after avoided low high one
  resolved_on before after grown avoided low high one is =
      let begins = grown.ranges one.range in
      let was = range_history before one.range in
      let now = range_history after one.range in
      let same : take is.first.found now ≡ take is.first.found was = take_on now was is.first.found begins
      is.first.between.to in
      record {
        first = record {
          found = is.first.found;
          between = between_on (length (range_history at_entry one.range)) (length was) (length now) is.first.found
              (begins_length now was begins) is.first.between;
          first = ap (first_serving avoided) same ∙ is.first.first;
        };
        near = subst (λ (history : List RangeEntry).
            All (λ (replica : SlotLeaf). (low ≤ replica.leaf.0) × (replica.leaf.0 < high)) (serving history))
            (sym same) is.near;
        from = is.from;
        to = is.to;
      }

  pub resolved_wider : (now : Histories) (avoided : List Leaf) (low high less more : ℕ) → less ≤ low → high ≤ more
      → (one : Resolved) → ResolvedSo now avoided low high one → ResolvedSo now avoided less more one
  resolved_wider now avoided low high less more down up one is = record {
    first = is.first;
    near = all_on (λ (replica : SlotLeaf). (low ≤ replica.leaf.0) × (replica.leaf.0 < high))
        (λ (replica : SlotLeaf). (less ≤ replica.leaf.0) × (replica.leaf.0 < more))
        (λ replica near. (omega (arith, near.0, down), omega (arith, near.1, up)))
        (serving (take is.first.found (range_history now one.range))) is.near;
    from = omega (arith, is.from, down);
    to = omega (arith, is.to, up);
  }

-- ---- leaves that are avoided

same_free : (a b : Bool) → b ≡ false → not (a || b) ≡ not a
same_free true b e = refl
same_free false b e = ap not e

-- other leaves play no part
pub more_avoided : (avoided more : List Leaf) (replicas : List SlotLeaf)
    → All (λ (replica : SlotLeaf). is_avoided more replica ≡ false) replicas
    → filter (λ replica. not (is_avoided (avoided ++ more) replica)) replicas
    ≡ filter (λ replica. not (is_avoided avoided replica)) replicas
more_avoided avoided more [] all = refl
more_avoided avoided more (replica ∷ replicas) all =
    let test : not (is_avoided (avoided ++ more) replica) ≡ not (is_avoided avoided replica) =
    ap not (list_any-append (same_leaf replica.leaf) avoided more)
    ∙ same_free (is_avoided avoided replica) (is_avoided more replica) all.0 in
    ap (λ b. cond b (replica ∷ filter (λ replica. not (is_avoided (avoided ++ more) replica)) replicas)
    (filter (λ replica. not (is_avoided (avoided ++ more) replica)) replicas)) test
    ∙ ap (λ rest. cond (not (is_avoided avoided replica)) (replica ∷ rest) rest) (more_avoided avoided more replicas
    all.1)

apart_test : (a b : Leaf) → (a.0 ≡ b.0 → ⊥) → same_leaf a b ≡ false
apart_test a b differ = grind (arith, nat_tests)

-- a replica on a leaf outside of those is not avoided for them
pub outside : (low high : ℕ) (more : List Leaf) (replica : SlotLeaf) → (low ≤ replica.leaf.0) × (replica.leaf.0 < high)
    → All (λ (leaf : Leaf). (leaf.0 < low) ⊎ (high ≤ leaf.0)) more → is_avoided more replica ≡ false
outside low high [] replica near all = refl
outside low high (leaf ∷ more) replica near all =
    ap (λ b. b || list_any (same_leaf replica.leaf) more)
    (apart_test replica.leaf leaf (λ e. elim all.0 [
      | inl below ↦ absurd (omega (arith, below, near.0, e))
      | inr above ↦ absurd (omega (arith, above, near.1, e))
    ]))
    ∙ outside low high more replica near all.1

-- ---- from one zone to another

counted_on : (first n m next : ℕ) → first + n ≡ next → range_with_len first n ++ range_with_len next m ≡ range_with_len
    first (n + m)
counted_on first zero m next e =
    let start : next ≡ first = omega (arith, e) in
    let whole : m ≡ 0 + m = omega arith in
    ap (λ a. range_with_len a m) start ∙ ap (range_with_len first) whole
counted_on first (suc n) m next e =
    let on : suc (n + m) ≡ suc n + m = omega arith in
    ap (λ rest. first ∷ rest) (counted_on (first + 1) n m next (omega (arith, e))) ∙ ap (range_with_len first) on

-- a leaf's history up to where it was looked at
abbrev pub up_to : Histories → Leaf → Look → List Entry
up_to now leaf look = take look.cut (leaf_history now leaf)

-- a leaf that was not read has no row there that is wanted; one that was read was up, and has a formula that holds
pub record Tells (wanted : Row → Bool) (met : List ℕ → Bool) (buckets_of : SeriesKey → List ℕ) (history : List Entry)
    (slots : List RangeSlot) (look : Look) : Type 0 where
  pub unread : look.read ≡ false → All (λ row. wanted row ≡ false) (slot_rows history slots)
  pub read : look.read ≡ true → met (history_buckets buckets_of history) ≡ true
  pub up : look.read ≡ true → is_down history ≡ false

abbrev pub IsLookedAt : Histories → Histories → Leaf → Look → Type 0
IsLookedAt at_entry now leaf look =
    IsBetween (length (leaf_history at_entry leaf)) (length (leaf_history now leaf)) look.cut

abbrev pub StandsAt : Histories → Histories → ℕ → List Look → Resolved → Type 0
StandsAt at_entry now low looks one = StandsIn at_entry now (up_to now one.leaf (look_at low looks one.leaf)) one

module _ (at_entry : Histories) (wanted : Row → Bool) (met : List ℕ → Bool) (buckets_of : SeriesKey → List ℕ) where
  -- the leaves from one number on and below another, and the ranges; of some leaves nothing is told yet
  pub record SpanSo (now : Histories) (avoided : List Leaf) (Skip : Leaf → Type 0) (low high first last : ℕ)
      (resolved : List Resolved) (looks : List Look) : Type 0 where
    pub long : low + length looks ≡ high
    pub count : first + length resolved ≡ last
    pub ranges : map range_of resolved ≡ map range_numbered (range_with_len first (length resolved))
    pub each : All (ResolvedSo at_entry now avoided low high) resolved
    pub cuts : (leaf : Leaf) → low ≤ leaf.0 → leaf.0 < high → IsLookedAt at_entry now leaf (look_at low looks leaf)
    pub stand : All (StandsAt at_entry now low looks) resolved
    pub tells : (leaf : Leaf) → low ≤ leaf.0 → leaf.0 < high
        → Skip leaf
        ⊎ Tells wanted met buckets_of (up_to now leaf (look_at low looks leaf)) (slots_on leaf resolved)
        (look_at low looks leaf)

  -- ---- as histories grow

  same_up_to : (before after : Histories) → AreWithin before after → (leaf : Leaf) (look : Look)
      → IsLookedAt at_entry before leaf look → up_to after leaf look ≡ up_to before leaf look
  same_up_to before after grown leaf look is =
      take_on (leaf_history after leaf) (leaf_history before leaf) look.cut (grown.leaves leaf) is.to

  looked_on : (before after : Histories) → AreWithin before after → (leaf : Leaf) (look : Look)
      → IsLookedAt at_entry before leaf look → IsLookedAt at_entry after leaf look
  looked_on before after grown leaf look is =
      between_on (length (leaf_history at_entry leaf)) (length (leaf_history before leaf))
      (length (leaf_history after leaf))
      look.cut (begins_length (leaf_history after leaf) (leaf_history before leaf) (grown.leaves leaf)) is

  stand_all_on : (before after : Histories) → AreWithin before after → (avoided : List Leaf) (low high : ℕ)
      (looks : List Look) → ((leaf : Leaf) → low ≤ leaf.0 → leaf.0 < high → IsLookedAt at_entry before leaf
      (look_at low looks leaf))
      → (resolved : List Resolved) → All (ResolvedSo at_entry before avoided low high) resolved
      → All (StandsAt at_entry before low looks) resolved → All (StandsAt at_entry after low looks) resolved
  stand_all_on before after grown avoided low high looks cuts [] each stand = record {}
  stand_all_on before after grown avoided low high looks cuts (one ∷ resolved) each stand = (
    subst (λ (history : List Entry). StandsIn at_entry after history one)
        (sym (same_up_to before after grown one.leaf (look_at low looks one.leaf)
        (cuts one.leaf each.0.from each.0.to)))
        (stands_later at_entry before after grown (up_to before one.leaf (look_at low looks one.leaf)) one stand.0),
    stand_all_on before after grown avoided low high looks cuts resolved each.1 stand.1,
  )

  pub span_on : (before after : Histories) → AreWithin before after → (avoided : List Leaf) (Skip : Leaf → Type 0)
      (low high first last : ℕ) (resolved : List Resolved) (looks : List Look)
      → SpanSo before avoided Skip low high first last resolved looks
      → SpanSo after avoided Skip low high first last resolved looks
  span_on before after grown avoided Skip low high first last resolved looks is = record {
    long = is.long;
    count = is.count;
    ranges = is.ranges;
    each = all_on (ResolvedSo at_entry before avoided low high) (ResolvedSo at_entry after avoided low high)
        (λ one. resolved_on at_entry before after grown avoided low high one) resolved is.each;
    cuts = λ leaf from to. looked_on before after grown leaf (look_at low looks leaf) (is.cuts leaf from to);
    stand = stand_all_on before after grown avoided low high looks is.cuts resolved is.each is.stand;
    tells = λ leaf from to. elim (is.tells leaf from to) [
      | inl skip ↦ inl skip
      | inr tells ↦ inr (subst
          (λ (history : List Entry). Tells wanted met buckets_of history (slots_on leaf resolved)
          (look_at low looks leaf))
          (sym (same_up_to before after grown leaf (look_at low looks leaf) (is.cuts leaf from to))) tells)
    ];
  }

  pub span_skips : (now : Histories) (avoided : List Leaf) (Skip More : Leaf → Type 0)
      → ((leaf : Leaf) → Skip leaf → More leaf) → (low high first last : ℕ) (resolved : List Resolved)
      (looks : List Look)
      → SpanSo now avoided Skip low high first last resolved looks
      → SpanSo now avoided More low high first last resolved looks
  span_skips now avoided Skip More weaker low high first last resolved looks is = record {
    long = is.long;
    count = is.count;
    ranges = is.ranges;
    each = is.each;
    cuts = is.cuts;
    stand = is.stand;
    tells = λ leaf from to. elim (is.tells leaf from to) [
      | inl skip ↦ inl (weaker leaf skip)
      | inr tells ↦ inr tells
    ];
  }

  -- ---- one span behind another

  front_look : (low : ℕ) (looks more : List Look) (leaf : Leaf) → low ≤ leaf.0 → leaf.0 < low + length looks
      → look_at low (looks ++ more) leaf ≡ look_at low looks leaf
  front_look low looks more leaf from to =
      get_or_append_left looks more (unread_look 0) (leaf.0 - low) (omega (arith, from, to))

  back_look : (low middle : ℕ) (looks more : List Look) (leaf : Leaf) → low + length looks ≡ middle → middle ≤ leaf.0
      → leaf.0 < middle + length more → look_at low (looks ++ more) leaf ≡ look_at middle more leaf
  back_look low middle looks more leaf long from to =
      get_or-append_right looks more (length looks) (leaf.0 - low) (unread_look 0) refl (omega (arith, long, from))
      ∙ ap (λ n. get_or more n (unread_look 0)) (omega (arith, long, from))

  none_on : (leaf : Leaf) (low high : ℕ) (now : Histories) (avoided : List Leaf) → (leaf.0 < low) ⊎ (high ≤ leaf.0)
      → (resolved : List Resolved) → All (ResolvedSo at_entry now avoided low high) resolved → slots_on leaf resolved
      ≡ []
  none_on leaf low high now avoided outside [] each = refl
  none_on leaf low high now avoided outside (one ∷ resolved) each =
      let differ : same_leaf one.leaf leaf ≡ false = apart_test one.leaf leaf (λ e. elim outside [
        | inl below ↦ absurd (omega (arith, below, each.0.from, e))
        | inr above ↦ absurd (omega (arith, above, each.0.to, e))
      ]) in
      ap (λ b. map slot_of (cond b (one ∷ filter (λ other. same_leaf other.leaf leaf) resolved)
      (filter (λ other. same_leaf other.leaf leaf) resolved))) differ
      ∙ none_on leaf low high now avoided outside resolved each.1

  both_on : (leaf : Leaf) (resolved more : List Resolved)
      → slots_on leaf (resolved ++ more) ≡ slots_on leaf resolved ++ slots_on leaf more
  both_on leaf resolved more =
      ap (map slot_of) (filter-append (λ one. same_leaf one.leaf leaf) resolved more)
      ∙ map-append slot_of (filter (λ one. same_leaf one.leaf leaf) resolved) (filter (λ one. same_leaf one.leaf leaf)
      more)

  module _ (now : Histories) (avoided : List Leaf) (Skip : Leaf → Type 0) (low middle high first between last : ℕ)
      (resolved more : List Resolved) (looks others : List Look)
      (one : SpanSo now avoided Skip low middle first between resolved looks)
      (two : SpanSo now avoided Skip middle high between last more others) where
    longer_front : All (StandsAt at_entry now low (looks ++ others)) resolved
    longer_front = by resolved one.each one.stand
      where
        by : (some : List Resolved) → All (ResolvedSo at_entry now avoided low middle) some
            → All (StandsAt at_entry now low looks) some
            → All (StandsAt at_entry now low (looks ++ others)) some
        by [] each stand = record {}
        by (x ∷ some) each stand = (
          subst (λ (look : Look). StandsIn at_entry now (up_to now x.leaf look) x)
              (sym (front_look low looks others x.leaf each.0.from (omega (arith, one.long, each.0.to)))) stand.0,
          by some each.1 stand.1,
        )

    longer_back : All (StandsAt at_entry now low (looks ++ others)) more
    longer_back = by more two.each two.stand
      where
        by : (some : List Resolved) → All (ResolvedSo at_entry now avoided middle high) some
            → All (StandsAt at_entry now middle others) some → All (StandsAt at_entry now low (looks ++ others)) some
        by [] each stand = record {}
        by (x ∷ some) each stand = (
          subst (λ (look : Look). StandsIn at_entry now (up_to now x.leaf look) x)
              (sym (back_look low middle looks others x.leaf one.long each.0.from
              (omega (arith, two.long, each.0.to)))) stand.0,
          by some each.1 stand.1,
        )

    abbrev AtLeaf : Leaf → Look → List RangeSlot → Type 0
    AtLeaf leaf look slots = Skip leaf ⊎ Tells wanted met buckets_of (up_to now leaf look) slots look

    told_front : (leaf : Leaf) → low ≤ leaf.0 → leaf.0 < middle
        → AtLeaf leaf (look_at low (looks ++ others) leaf) (slots_on leaf (resolved ++ more))
    told_front leaf from to =
        subst (λ (slots : List RangeSlot). AtLeaf leaf (look_at low (looks ++ others) leaf) slots)
        (sym (both_on leaf resolved more ∙ ap (λ slots. slots_on leaf resolved ++ slots)
        (none_on leaf middle high now avoided (inl to) more two.each) ∙ append-nil (slots_on leaf resolved)))
        (subst (λ (look : Look). AtLeaf leaf look (slots_on leaf resolved))
        (sym (front_look low looks others leaf from (omega (arith, one.long, to)))) (one.tells leaf from to))

    told_back : (leaf : Leaf) → middle ≤ leaf.0 → leaf.0 < high
        → AtLeaf leaf (look_at low (looks ++ others) leaf) (slots_on leaf (resolved ++ more))
    told_back leaf from to =
        subst (λ (slots : List RangeSlot). AtLeaf leaf (look_at low (looks ++ others) leaf) slots)
        (sym (both_on leaf resolved more ∙ ap (λ slots. slots ++ slots_on leaf more)
        (none_on leaf low middle now avoided (inr from) resolved one.each)))
        (subst (λ (look : Look). AtLeaf leaf look (slots_on leaf more))
        (sym (back_look low middle looks others leaf one.long from (omega (arith, two.long, to))))
        (two.tells leaf from to))

    looked_front : (leaf : Leaf) → low ≤ leaf.0 → leaf.0 < middle → IsLookedAt at_entry now leaf
        (look_at low (looks ++ others) leaf)
    looked_front leaf from to =
        subst (IsLookedAt at_entry now leaf) (sym (front_look low looks others leaf from (omega (arith, one.long, to))))
        (one.cuts leaf from to)

    looked_back : (leaf : Leaf) → middle ≤ leaf.0 → leaf.0 < high → IsLookedAt at_entry now leaf
        (look_at low (looks ++ others) leaf)
    looked_back leaf from to =
        subst (IsLookedAt at_entry now leaf)
        (sym (back_look low middle looks others leaf one.long from (omega (arith, two.long, to))))
        (two.cuts leaf from to)

    more_ranges : (n : ℕ) → first + length resolved ≡ n
        → map range_numbered (range_with_len first (length resolved)) ++ map range_numbered
        (range_with_len n (length more))
        ≡ map range_numbered (range_with_len first (length resolved + length more))
    more_ranges n e =
        sym (map-append range_numbered (range_with_len first (length resolved)) (range_with_len n (length more)))
        ∙ ap (map range_numbered) (counted_on first (length resolved) (length more) n e)

    pub span_append : SpanSo now avoided Skip low high first last (resolved ++ more) (looks ++ others)
    span_append = record {
      long = omega (arith, one.long, two.long, length-append looks others);
      count = omega (arith, one.count, two.count, length-append resolved more);
      ranges = map-append range_of resolved more
          ∙ ap (λ front. front ++ map range_of more) one.ranges
          ∙ ap (λ back. map range_numbered (range_with_len first (length resolved)) ++ back) two.ranges
          ∙ more_ranges between one.count
          ∙ ap (λ n. map range_numbered (range_with_len first n)) (sym (length-append resolved more));
      each = all_append (ResolvedSo at_entry now avoided low high) resolved more
          (all_on (ResolvedSo at_entry now avoided low middle) (ResolvedSo at_entry now avoided low high)
          (λ x. resolved_wider at_entry now avoided low middle low high (omega arith) (omega (arith, two.long)) x)
          resolved one.each)
          (all_on (ResolvedSo at_entry now avoided middle high) (ResolvedSo at_entry now avoided low high)
          (λ x. resolved_wider at_entry now avoided middle high low high (omega (arith, one.long)) (omega arith) x)
          more two.each);
      cuts = λ leaf from to. elim (cases_lt leaf.0 middle) [
        | inl before ↦ looked_front leaf from before
        | inr behind ↦ looked_back leaf behind to
      ];
      stand = all_append (StandsAt at_entry now low (looks ++ others)) resolved more longer_front longer_back;
      tells = λ leaf from to. elim (cases_lt leaf.0 middle) [
        | inl before ↦ told_front leaf from before
        | inr behind ↦ told_back leaf behind to
      ];
    }
