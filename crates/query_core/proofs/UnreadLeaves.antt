-- Rows on leaves that were not read, of which none is wanted.
use Rattle.std.proofs.Common.{◌≡◌, ◌∙◌, ◌<◌, ◌+◌, ℕ, ℤ, suc, Bool, true, false, cond, List, [], ◌∷◌, ◌++◌, length, map}
use Rattle.std.proofs.Common.{take, drop, get_or, refl, sym, ap, subst, append-nil, arith}
use Rattle.std.specs.List.{AllByRecursion, filter, flat_map, list_any}
use Rattle.std.proofs.lemmas.Bool.{false≢true}
use Rattle.std.proofs.lemmas.Bool.Decides.{nat_tests}
use Rattle.std.proofs.lemmas.List.{map-append}
use Rattle.mon_value.specs.Histories.{leaf_history, same_leaf}
use Rattle.mon_value.specs.declared.histories.Histories.{Histories}
use Rattle.mon_topo.specs.Zones.{first_leaf, first_range, leaf_zones}
use Rattle.mon_value.specs.declared.positions.Leaf.{Leaf}
use Rattle.mon_value.specs.declared.rows.Row.{Row}
use Rattle.typed_rows.proofs.JoinedRows.{all-front, all-map}
use Rattle.mon_topo.specs.Settings.{Setting}
use Rattle.query_traces.specs.declared.answers.Resolved.{Resolved}
use Rattle.query_traces.specs.declared.answers.Trace.{Trace}
use Rattle.query_core.specs.declared.courses.Course.{Course}
use Rattle.query_traces.specs.declared.looks.Look.{Look}
use Rattle.query_core.specs.Courses.{trace_of}
use Rattle.query_traces.specs.Rounds.{unread_look, slots_on, QuerySetting, typed_of}
use Rattle.query_traces.specs.Traces.{cut_of, is_wanted}
use Rattle.mon_meaning.specs.ReadableSlots.{slot_rows}
use Rattle.query_core.proofs.DividedRows.{SomeLeaves, all_both, all_leaves, rows_at}
use Rattle.query_core.proofs.ReadLeaves.{cuts_of, flags_of}
use Rattle.query_core.proofs.TraceRows.{IsLeftOut, on_leaf, own_rows}
use Rattle.query_core.proofs.ThroughZones.{IsThrough, trace_ranges}
use Rattle.query_core.proofs.ZoneRows.{AllZoned, IsZoned, no_slots, none_behind, ranges_above, ranges_later}
use Rattle.query_core.proofs.ZoneRows.{slots_append}
use Rattle.mon_value.proofs.PlainLemmas.{get_or-front}

-- ---- rows that are not wanted

module _ (exit : Histories) (of : Trace) (P : Row → Type 0) where
  abbrev AllOnLeaf : List Resolved → Leaf → Type 0
  AllOnLeaf some leaf = AllByRecursion P (rows_at (own_rows exit of) some leaf)

  front_by : (one : Resolved) (some : List Resolved) (b : Bool) → b ≡ true
      → AllByRecursion P (flat_map (own_rows exit of) (cond b (one ∷ some) some)) → AllByRecursion P
      (own_rows exit of one)
  front_by one some true e all = (all-front P (own_rows exit of one) (flat_map (own_rows exit of) some) all).0
  front_by one some false e all = absurd (false≢true e)

  rest_by : (one : Resolved) (some : List Resolved) (b : Bool)
      → AllByRecursion P (flat_map (own_rows exit of) (cond b (one ∷ some) some))
      → AllByRecursion P (flat_map (own_rows exit of) some)
  rest_by one some true all = (all-front P (own_rows exit of one) (flat_map (own_rows exit of) some) all).1
  rest_by one some false all = all

  -- what holds of the rows on a leaf holds of those of each range there
  own_on_leaf : (some : List Resolved)
      → AllByRecursion (λ (one : Resolved). AllOnLeaf some one.leaf → AllByRecursion P (own_rows exit of one)) some
  own_on_leaf [] = tt
  own_on_leaf (one ∷ some) =
      let same : same_leaf one.leaf one.leaf ≡ true = grind (arith, nat_tests) in (
        front_by one (filter (λ (other : Resolved). same_leaf other.leaf one.leaf) some) (same_leaf one.leaf one.leaf)
            same,
        all-map (λ (other : Resolved). AllOnLeaf some other.leaf → AllByRecursion P (own_rows exit of other))
            (λ (other : Resolved). AllOnLeaf (one ∷ some) other.leaf → AllByRecursion P (own_rows exit of other)) some
            (λ other holds all. holds (rest_by one (filter (λ (own : Resolved). same_leaf own.leaf other.leaf) some)
            (same_leaf one.leaf other.leaf) all))
            (own_on_leaf some),
      )

-- what is known of leaves that were not read
abbrev pub TellsOf : QuerySetting → Histories → Course → Type 0
TellsOf setting now course = (leaf : Leaf) → leaf.0 < length course.looks
    → get_or (flags_of course.looks) leaf.0 false ≡ false
    → AllByRecursion (λ row. is_wanted (typed_of setting) row ≡ false)
    (slot_rows (take (get_or (cuts_of course.looks) leaf.0 0) (leaf_history now leaf)) (slots_on leaf course.resolved))

module _ (store : Setting) (setting : QuerySetting) (moment : ℤ) (exit : Histories) where
  abbrev Unwanted : Row → Type 0
  Unwanted row = is_wanted (typed_of setting) row ≡ false

  -- ---- what a course knows of the leaves that it did not read, by its trace

  tells_on_leaf : (k : ℕ) (course : Course) → IsThrough setting moment store.zones exit k course
      → AllZoned store.zones (trace_of course).resolved → TellsOf setting exit course → (leaf : Leaf) → leaf.0
      < first_leaf store.zones k
      → get_or (flags_of course.looks) leaf.0 false ≡ false
      → AllByRecursion Unwanted (rows_at (own_rows exit (trace_of course)) (trace_of course).resolved leaf)
  tells_on_leaf k course so zoned tells leaf below flag =
      let of = trace_of course in
      let back = drop (length course.resolved) course.seen.firsts in
      let later : AllByRecursion (λ (one : Resolved). same_leaf one.leaf leaf ≡ false) back =
      none_behind store.zones k leaf back below
      (ranges_above (0 + length course.resolved) (first_range store.zones k) back
      (ranges_later 0 course.resolved back (trace_ranges setting moment store.zones exit k course so))
      (omega (arith, so.ranges_count)))
      (all-front (IsZoned store.zones) course.resolved back zoned).1 in
      let slots : slots_on leaf course.resolved ≡ slots_on leaf of.resolved =
      sym (slots_append leaf course.resolved back
      ∙ ap (λ slots. slots_on leaf course.resolved ++ slots) (no_slots leaf back later)
      ∙ append-nil (slots_on leaf course.resolved)) in
      let within : leaf.0 < length (cuts_of course.looks) =
      omega (arith, below, so.leaves_count, looks_long course.looks) in
      let rest = map unread_look (drop (length course.looks) course.seen.cuts) in
      let cut : get_or (cuts_of course.looks) leaf.0 0 ≡ cut_of of leaf =
      sym (ap (λ cuts. get_or cuts leaf.0 0) (map-append (λ (look : Look). look.cut) course.looks rest)
      ∙ get_or-front (cuts_of course.looks) (cuts_of rest) leaf.0 0 within) in
      let rows : slot_rows (take (get_or (cuts_of course.looks) leaf.0 0) (leaf_history exit leaf))
      (slots_on leaf course.resolved)
      ≡ rows_at (own_rows exit of) of.resolved leaf =
      (λ i. slot_rows (take (cut i) (leaf_history exit leaf)) (slots i)) ∙ sym (on_leaf exit of leaf) in
      subst (AllByRecursion Unwanted) rows (tells leaf (omega (arith, below, so.leaves_count)) flag)
    where
      looks_long : (looks : List Look) → length (cuts_of looks) ≡ length looks
      looks_long [] = refl
      looks_long (look ∷ looks) = ap suc (looks_long looks)

  -- leaves that are not among some, which have all that were read
  pub left_out_by : (k : ℕ) (course : Course) → IsThrough setting moment store.zones exit k course
      → AllZoned store.zones (trace_of course).resolved → TellsOf setting exit course → (chosen : List SomeLeaves)
      → ((leaf : Leaf) → list_any (same_leaf leaf) (all_leaves chosen) ≡ false → leaf.0
      < length (leaf_zones store.zones)
      → (leaf.0 < first_leaf store.zones k) × (get_or (flags_of course.looks) leaf.0 false ≡ false))
      → AllByRecursion (IsLeftOut (typed_of setting) exit (trace_of course) chosen) (trace_of course).resolved
  left_out_by k course so zoned tells chosen rest =
      let of = trace_of course in
      all_both (IsZoned store.zones)
      (λ (one : Resolved). AllOnLeaf exit of Unwanted of.resolved one.leaf → AllByRecursion Unwanted
      (own_rows exit of one))
      (IsLeftOut (typed_of setting) exit of chosen) of.resolved
      (λ one zone on lacks. (let known = rest one.leaf lacks zone.0 in
      on (tells_on_leaf k course so zoned tells one.leaf known.0 known.1)))
      zoned (own_on_leaf exit of Unwanted of.resolved)
