-- What a query knows once it has looked at a leaf, and at its end.
use Rattle.std.proofs.Common.{◌≡◌, ◌∙◌, ℕ, zero, suc, ◌+◌, ◌-◌, ◌<◌, ◌≤◌, true, false, cond, nat_le, List, [], ◌∷◌}
use Rattle.std.proofs.Common.{◌++◌, length, map, drop, set, get_or, Contains, ◌⊎◌, inl, inr, refl, sym, ap, subst}
use Rattle.std.proofs.Common.{arith}
use Rattle.std.specs.List.{AllByRecursion as All}
use Rattle.std.proofs.lemmas.Bool.{cases_eq}
use Rattle.std.proofs.lemmas.Bool.Decides.{nat_tests}
use Rattle.std.proofs.lemmas.List.{get_or-set_other, get_or-set_same, length-map, length-set}
use Rattle.mon_hints.specs.Hints.{history_buckets}
use Rattle.mon_schema.specs.Fits.{fits}
use Rattle.mon_topo.proofs.FrontLemmas.{begins_length}
use Rattle.mon_topo.proofs.HeldLemmas.{leaf_same}
use Rattle.mon_value.specs.Histories.{leaf_history, range_numbered}
use Rattle.mon_value.specs.declared.histories.Histories.{Histories}
use Rattle.mon_topo.specs.Replicas.{HasReplicas}
use Rattle.mon_topo.specs.HeldHistories.{AreWithin}
use Rattle.mon_topo.specs.Settings.{Setting}
use Rattle.mon_topo.specs.Zones.{first_leaf, first_range, ranges_in}
use Rattle.mon_value.specs.LeafHistories.{leaf_rows}
use Rattle.mon_value.specs.declared.histories.Entry.{Entry}
use Rattle.mon_value.specs.declared.positions.Leaf.{Leaf}
use Rattle.query_traces.proofs.Spans.{IsLookedAt, ResolvedSo, StandsAt, StandsIn, Tells, look_at, span_on}
use Rattle.query_traces.proofs.Spans.{stands_later, stands_on, up_to}
use Rattle.query_traces.proofs.FindingLemmas.{KeepsFounds}
use Rattle.query_core.proofs.TraceClaims as claim
use Rattle.query_core.proofs.TraceVisits.{fronts_begin}
use Rattle.query_core.proofs.TraceWords.{rest_seen}
use Rattle.query_core.specs.Courses.{all_looks, trace_of}
use Rattle.query_traces.specs.Rounds.{unread_look, slots_on, QuerySetting}
use Rattle.mon_topo.specs.Views.{IsViewWithin, View}
use Rattle.query_traces.specs.Traces.{IsBetween}
use Rattle.query_traces.specs.Visits.{Visits, with_look}
use Rattle.query_traces.specs.declared.answers.Resolved.{Resolved}
use Rattle.query_core.specs.declared.courses.Course.{Course}
use Rattle.query_traces.specs.declared.looks.Look.{Look}

-- ---- a look at a leaf

module _ (store : Setting) (setting : QuerySetting) (at_entry : Histories) (before after : View)
    (grown : IsViewWithin before after)
    (since : AreWithin at_entry before.seen) (avoided : List Leaf) (Skip : Leaf → Type 0) (low high first last : ℕ)
    (resolved : List Resolved) (looks : List Look) (leaf : Leaf) (left : List Leaf) (look : Look)
    (was : claim.Span store setting at_entry before.seen avoided (Contains (leaf ∷ left)) low high first last resolved
    looks)
    (from : low ≤ leaf.0) (to : leaf.0 < high)
    (between : IsBetween (length (leaf_history before.seen leaf)) (length (leaf_history after.seen leaf)) look.cut)
    (others : (other : Leaf) → Contains left other → Skip other)
    (own : Skip leaf ⊎ Tells (claim.wanted store setting) (claim.met store setting) store.buckets_of
    (up_to after.seen leaf look) (slots_on leaf resolved) look) where
  abbrev now_looks : List Look
  now_looks = set looks (leaf.0 - low) look

  abbrev On : Leaf → Look → Type 0
  On other it = Skip other ⊎ Tells (claim.wanted store setting) (claim.met store setting) store.buckets_of
      (up_to after.seen other it) (slots_on other resolved) it

  is : claim.Span store setting at_entry after.seen avoided (Contains (leaf ∷ left)) low high first last resolved looks
  is = span_on at_entry (claim.wanted store setting) (claim.met store setting) store.buckets_of before.seen after.seen
      grown.seen
      avoided (Contains (leaf ∷ left)) low high first last resolved looks was

  look_here : (other : Leaf) → other.0 ≡ leaf.0 → look_at low now_looks other ≡ look
  look_here other e =
      ap (λ n. get_or now_looks (n - low) (unread_look 0)) e
      ∙ get_or-set_same looks (leaf.0 - low) look (unread_look 0) (omega (arith, from, to, was.long))

  look_there : (other : Leaf) → low ≤ other.0 → (other.0 ≡ leaf.0 → ⊥) → look_at low now_looks other ≡ look_at low
      looks other
  look_there other above differ =
      get_or-set_other looks (leaf.0 - low) (other.0 - low) look (unread_look 0)
      (λ e. differ (omega (arith, e, from, above)))

  looked_here : IsLookedAt at_entry after.seen leaf look
  looked_here = record {
    from = omega (
      arith,
      between.from,
      begins_length (leaf_history before.seen leaf) (leaf_history at_entry leaf)
          (since.leaves leaf),
    );
    to = between.to;
  }

  cut_of : (other : Leaf) → low ≤ other.0 → other.0 < high → IsLookedAt at_entry after.seen other
      (look_at low now_looks other)
  cut_of other above below = elim (cases_eq other.0 leaf.0) [
    | inl e ↦ subst (λ (it : Leaf). IsLookedAt at_entry after.seen it (look_at low now_looks other))
        (leaf_same leaf other (sym e))
        (subst (IsLookedAt at_entry after.seen leaf) (sym (look_here other e)) looked_here)
    | inr differ ↦ subst (IsLookedAt at_entry after.seen other) (sym (look_there other above differ))
        (is.cuts other above below)
  ]

  stand_here : (one : Resolved) → low ≤ one.leaf.0 → one.leaf.0 < high → one.leaf.0 ≡ leaf.0
      → StandsAt at_entry before.seen low looks one → StandsAt at_entry after.seen low now_looks one
  stand_here one above below e stands =
      let same : one.leaf ≡ leaf = leaf_same one.leaf leaf e in
      let old = look_at low looks one.leaf in
      let is_old = was.cuts one.leaf above below in
      let longer : length (leaf_history before.seen one.leaf) ≤ look.cut =
      subst (λ (it : Leaf). length (leaf_history before.seen it) ≤ look.cut) (sym same) between.from in
      subst (λ (it : Look). StandsIn at_entry after.seen (up_to after.seen one.leaf it) one) (sym (look_here one.leaf e))
      (stands_on at_entry after.seen (up_to after.seen one.leaf look) (up_to before.seen one.leaf old) one
      (fronts_begin (leaf_history after.seen one.leaf) (leaf_history before.seen one.leaf) old.cut look.cut
      (grown.seen.leaves one.leaf) is_old.to (omega (arith, is_old.to, longer)))
      (stands_later at_entry before.seen after.seen grown.seen (up_to before.seen one.leaf old) one stands))

  stand_by : (some : List Resolved) → All (ResolvedSo at_entry before.seen avoided low high) some
      → All (StandsAt at_entry before.seen low looks) some → All (StandsAt at_entry after.seen low looks) some
      → All (StandsAt at_entry after.seen low now_looks) some
  stand_by [] each old new = record {}
  stand_by (one ∷ some) each old new = (
    elim (cases_eq one.leaf.0 leaf.0) [
      | inl e ↦ stand_here one each.0.from each.0.to e old.0
      | inr differ ↦ subst (λ (it : Look). StandsIn at_entry after.seen (up_to after.seen one.leaf it) one)
          (sym (look_there one.leaf each.0.from differ)) new.0
    ],
    stand_by some each.1 old.1 new.1,
  )

  behind_first : (other : Leaf) → (other.0 ≡ leaf.0 → ⊥) → Contains (leaf ∷ left) other → Contains left other
  behind_first other differ (zero, l, e) = absurd (differ (ap (λ (it : Leaf). it.0) (sym e)))
  behind_first other differ (suc n, l, e) = (n, omega (arith, l), e)

  told_of : (other : Leaf) → low ≤ other.0 → other.0 < high → On other (look_at low now_looks other)
  told_of other above below = elim (cases_eq other.0 leaf.0) [
    | inl e ↦ subst (λ (it : Leaf). On it (look_at low now_looks other)) (leaf_same leaf other (sym e))
        (subst (On leaf) (sym (look_here other e)) own)
    | inr differ ↦ subst (On other) (sym (look_there other above differ)) (elim (is.tells other above below) [
      | inl there ↦ inl (others other (behind_first other differ there))
      | inr told ↦ inr told
    ])
  ]

  pub look_so : claim.Span store setting at_entry after.seen avoided Skip low high first last resolved now_looks
  look_so = record {
    long = omega (arith, was.long, length-set looks (leaf.0 - low) look);
    count = was.count;
    ranges = was.ranges;
    each = is.each;
    cuts = cut_of;
    stand = stand_by resolved was.each was.stand is.stand;
    tells = told_of;
  }

-- the looks of visits that looked at a leaf of theirs
pub looked_is : (visits : Visits) (leaf : Leaf) (look : Look) (low : ℕ) → visits.first.0 ≡ low → low ≤ leaf.0
    → (with_look visits leaf look).looks ≡ set visits.looks (leaf.0 - low) look
looked_is visits leaf look low e from =
    let above : nat_le visits.first.0 leaf.0 ≡ true = grind (arith, nat_tests) in
    ap (λ b. cond b (set visits.looks (leaf.0 - visits.first.0) look) visits.looks) above
    ∙ ap (λ n. set visits.looks (leaf.0 - n) look) e

-- ---- the trace at the end

module _ (store : Setting) (setting : QuerySetting) (at_entry : Histories)
    (replicated : (r : ℕ) → r < length (ranges_in store.zones) → HasReplicas store.zones (range_numbered r))
    (unmet : (history : List Entry) → All (λ row. fits store.held row ≡ true) (leaf_rows history)
    → claim.met store setting (history_buckets store.buckets_of history) ≡ false
    → All (λ row. claim.wanted store setting row ≡ false) (leaf_rows history))
    (now : View) (avoided : List Leaf) (Skip : Leaf → Type 0) where
  -- leaves and ranges that the query did not come to stand as they had been seen by the first root word
  pub trace_so : (course : Course) (k n : ℕ) → k + n ≡ length store.zones → (0 < n → (leaf : Leaf) → Skip leaf)
      → claim.Span store setting at_entry now.seen avoided Skip 0 (first_leaf store.zones k) 0
      (first_range store.zones k)
      course.resolved course.looks
      → KeepsFounds at_entry now.seen avoided course.founds → claim.Below (first_leaf store.zones k) avoided
      → (then : View) → claim.SeenThen store setting at_entry now course.seen then
      → claim.TraceSo store setting at_entry now Skip (trace_of course)
  trace_so course k n e skips span founds below then is =
      let ranges : first_range store.zones k ≡ length course.resolved = omega (arith, span.count) in
      let leaves : first_leaf store.zones k ≡ length course.looks = omega (arith, span.long) in
      let all = rest_seen store setting at_entry replicated unmet now avoided Skip course.seen then is n k
      course.resolved
      course.looks e skips below span in
      record {
        looks = all_looks course;
        avoided = avoided;
        span = subst (λ (a : ℕ). claim.Span store setting at_entry now.seen avoided Skip 0
            (first_leaf store.zones (length store.zones)) 0
            (first_range store.zones (length store.zones)) (course.resolved ++ drop a course.seen.firsts)
            (all_looks course)) ranges
            (subst (λ (b : ℕ). claim.Span store setting at_entry now.seen avoided Skip 0
            (first_leaf store.zones (length store.zones)) 0
            (first_range store.zones (length store.zones)) (course.resolved ++ drop (first_range store.zones k)
            course.seen.firsts)
            (course.looks ++ map unread_look (drop b course.seen.cuts))) leaves all);
        cuts = refl;
        read = refl;
        counts = length-map (all_looks course) (λ (look : Look). look.sent);
        founds = founds;
      }
