-- What each leaf sent, over the rows on it.
use Rattle.std.proofs.Common.{◌≡◌, ◌∙◌, ◌<◌, ◌≤◌, ◌≤ℤ◌, ◌+◌, ◌-◌, ◌⊎◌, inl, inr, ℕ, ℤ, pos, zero, suc, Bool, true}
use Rattle.std.proofs.Common.{false, cond, List, [], ◌∷◌, ◌++◌, length, map, drop, get_or, refl, sym, ap, subst, arith}
use Rattle.std.specs.List.{AllByRecursion, flat_map}
use Rattle.std.proofs.lemmas.Bool.{cases_lt}
use Rattle.std.proofs.lemmas.List.{map-append}
use Rattle.mon_value.specs.declared.histories.Histories.{Histories}
use Rattle.mon_topo.specs.HeldHistories.{AreHeld}
use Rattle.mon_topo.specs.Settings.{Setting}
use Rattle.mon_value.specs.Histories.{leaf_numbered}
use Rattle.mon_topo.specs.Zones.{first_leaf}
use Rattle.mon_value.specs.declared.positions.Leaf.{Leaf}
use Rattle.mon_value.specs.declared.rows.Row.{Row}
use Rattle.mon_fold.specs.declared.answers.LeafAnswer.{LeafAnswer}
use Rattle.typed_trees.specs.Levels.{sent_amount}
use Rattle.query_traces.specs.Askings.{IsAskedOf}
use Rattle.query_traces.specs.declared.answers.Resolved.{Resolved}
use Rattle.query_traces.specs.declared.answers.Trace.{Trace}
use Rattle.query_traces.specs.declared.areas.Area.{Area}
use Rattle.query_core.specs.declared.courses.Course.{Course}
use Rattle.query_traces.specs.declared.looks.Look.{Look}
use Rattle.query_traces.specs.Rounds.{area_of, unread_look, QuerySetting, typed_of}
use Rattle.query_core.specs.Courses.{with_zone_behind, trace_of}
use Rattle.query_traces.specs.Traces.{rows_on, sent_by, sent_if, was_read}
use Rattle.query_core.proofs.DividedRows.{all_both}
use Rattle.query_core.proofs.MixedParts.{stand_before}
use Rattle.query_core.proofs.PartClaims.{CourseIn, CourseThrough}
use Rattle.query_core.proofs.ReadLeaves.{LeafRead, SendsNothing, flags_of, leaf_read, no_reads, reads_append}
use Rattle.query_core.proofs.ReadLeaves.{reads_from}
use Rattle.query_core.proofs.SegmentFacts.{AreFrom, IsSent, IsWhole, Mixed, PartsSo, Passed, RangesFrom, Segment}
use Rattle.query_core.proofs.SegmentFacts.{SegmentSo, area_in, looks_in, read_rows, resolved_in}
use Rattle.query_core.proofs.StoppedTraces.{before_so, ranges_of, stands_so}
use Rattle.query_core.proofs.ThroughZones.{none_first}
use Rattle.query_core.proofs.WholeTraces.{AllStand, first_stands, others_stand, ranges_all, stand}
use Rattle.query_core.proofs.ZoneRows.{AllZoned, Stands, get_back, rows_on_each}
use Rattle.query_traces.proofs.ZoneFacts.{leaves_next}
use Rattle.mon_value.proofs.PlainLemmas.{all_append, get_or-front}

abbrev sents_of : List Look → List ℕ
sents_of looks = map (λ (look : Look). look.sent) looks

-- ---- by place

module _ (most : Leaf → ℕ) where
  abbrev pub SendsSo : LeafRead → Type 0
  SendsSo one = one.sent ≡ most one.leaf

  first_by : (n : ℕ) (look : Look) (rest : List LeafRead) (b : Bool) → look.read ≡ b → SendsNothing look
      → AllByRecursion SendsSo (cond b (leaf_read n look ∷ rest) rest) → look.sent ≡ sent_if look.read
      (most (leaf_numbered n))
  first_by n look rest true e silent all = all.0 ∙ sym (ap (λ b. sent_if b (most (leaf_numbered n))) e)
  first_by n look rest false e silent all = silent e ∙ sym (ap (λ b. sent_if b (most (leaf_numbered n))) e)

  rest_by : (n : ℕ) (look : Look) (rest : List LeafRead) (b : Bool)
      → AllByRecursion SendsSo (cond b (leaf_read n look ∷ rest) rest) → AllByRecursion SendsSo rest
  rest_by n look rest true all = all.1
  rest_by n look rest false all = all

  sent_at : (n : ℕ) (looks : List Look) → AllByRecursion SendsSo (reads_from n looks) → AllByRecursion SendsNothing
      looks
      → (i : ℕ) → i < length looks
      → get_or (sents_of looks) i 0 ≡ sent_if (get_or (flags_of looks) i false) (most (leaf_numbered (n + i)))
  sent_at n [] all silent i there = absurd (omega (arith, there))
  sent_at n (look ∷ looks) all silent zero there =
      let same : n ≡ n + 0 = omega arith in
      first_by n look (reads_from (suc n) looks) look.read refl silent.0 all
      ∙ ap (λ k. sent_if look.read (most (leaf_numbered k))) same
  sent_at n (look ∷ looks) all silent (suc i) there =
      let same : suc n + i ≡ n + suc i = omega arith in
      sent_at (suc n) looks (rest_by n look (reads_from (suc n) looks) look.read all) silent.1 i (omega (arith, there))
      ∙ ap (λ k. sent_if (get_or (flags_of looks) i false) (most (leaf_numbered k))) same

  nothing_sent : (cuts : List ℕ) (i : ℕ) → get_or (sents_of (map unread_look cuts)) i 0 ≡ 0
  nothing_sent [] zero = refl
  nothing_sent [] (suc i) = refl
  nothing_sent (cut ∷ cuts) zero = refl
  nothing_sent (cut ∷ cuts) (suc i) = nothing_sent cuts i

  none_read : (cuts : List ℕ) (i : ℕ) → get_or (flags_of (map unread_look cuts)) i false ≡ false
  none_read [] zero = refl
  none_read [] (suc i) = refl
  none_read (cut ∷ cuts) zero = refl
  none_read (cut ∷ cuts) (suc i) = none_read cuts i

  sents_long : (looks : List Look) → length (sents_of looks) ≡ length looks
  sents_long [] = refl
  sents_long (look ∷ looks) = ap suc (sents_long looks)

  flags_long : (looks : List Look) → length (flags_of looks) ≡ length looks
  flags_long [] = refl
  flags_long (look ∷ looks) = ap suc (flags_long looks)

  module _ (course : Course) (all : AllByRecursion SendsSo (reads_from 0 course.looks))
      (silent : AllByRecursion SendsNothing course.looks) (leaf : Leaf) where
    abbrev rest : List ℕ
    rest = drop (length course.looks) course.seen.cuts

    abbrev IsSentBy : Type 0
    IsSentBy = sent_by (trace_of course) leaf ≡ sent_if (was_read (trace_of course) leaf) (most leaf)

    sents_are : (trace_of course).sent ≡ sents_of course.looks ++ sents_of (map unread_look rest)
    sents_are = map-append (λ (look : Look). look.sent) course.looks (map unread_look rest)

    flags_are : (trace_of course).read ≡ flags_of course.looks ++ flags_of (map unread_look rest)
    flags_are = map-append (λ (look : Look). look.read) course.looks (map unread_look rest)

    by_place : (leaf.0 < length course.looks) ⊎ (length course.looks ≤ leaf.0) → IsSentBy
    by_place (inl there) =
        let number : 0 + leaf.0 ≡ leaf.0 = omega arith in
        ap (λ sents. get_or sents leaf.0 0) sents_are
        ∙ get_or-front (sents_of course.looks) (sents_of (map unread_look rest)) leaf.0 0
        (omega (arith, there, sents_long course.looks))
        ∙ sent_at 0 course.looks all silent leaf.0 there
        ∙ ap (λ n. sent_if (get_or (flags_of course.looks) leaf.0 false) (most (leaf_numbered n))) number
        ∙ sym (ap (λ b. sent_if b (most leaf)) (ap (λ flags. get_or flags leaf.0 false) flags_are
        ∙ get_or-front (flags_of course.looks) (flags_of (map unread_look rest)) leaf.0 false
        (omega (arith, there, flags_long course.looks))))
    by_place (inr past) =
        let i : ℕ = leaf.0 - length course.looks in
        ap (λ sents. get_or sents leaf.0 0) sents_are
        ∙ get_back (sents_of course.looks) (sents_of (map unread_look rest)) leaf.0 i 0
        (omega (arith, past, sents_long course.looks))
        ∙ nothing_sent rest i
        ∙ sym (ap (λ b. sent_if b (most leaf)) (ap (λ flags. get_or flags leaf.0 false) flags_are
        ∙ get_back (flags_of course.looks) (flags_of (map unread_look rest)) leaf.0 i false
        (omega (arith, past, flags_long course.looks))
        ∙ none_read rest i))

    sent_so : IsSentBy
    sent_so = by_place (cases_lt leaf.0 (length course.looks))

-- ---- zones of a trace

module _ (store : Setting) (setting : QuerySetting) (asked : IsAskedOf store setting) (moment : ℤ)
    (from : pos 0 ≤ℤ moment) (exit : Histories) (held : AreHeld store.held store.zones store.points exit) where
  abbrev pub most_of : Trace → Leaf → ℕ
  most_of of leaf = sent_amount (typed_of setting) (rows_on exit of leaf) moment

  module _ (of : Trace) (ranges : RangesFrom 0 of.resolved) (zoned : AllZoned store.zones of.resolved) where
    reads_sent : (k : ℕ) (resolved : List Resolved) (looks : List Look) (parts : List LeafAnswer)
        → Stands store.zones k resolved looks of
        → PartsSo setting moment exit resolved (first_leaf store.zones k) looks parts
        → AllByRecursion (SendsSo (most_of of)) (reads_from (first_leaf store.zones k) looks)
    reads_sent k resolved looks parts stands so =
        all_both (λ (one : LeafRead). read_rows setting moment exit resolved one ≡ rows_on exit of one.leaf)
        (IsSent setting moment exit resolved) (SendsSo (most_of of)) (reads_from (first_leaf store.zones k) looks)
        (λ one rows told. told ∙ ap (λ (some : List Row). sent_amount (typed_of setting) some moment) rows)
        (rows_on_each store.zones k resolved looks of ranges zoned stands setting moment exit) so.sends

    segment_sent : (k : ℕ) (one : Segment) → area_in one ≡ area_of store.zones k → SegmentSo setting moment exit one
        → Stands store.zones k (resolved_in one) (looks_in one) of
        → AllByRecursion (SendsSo (most_of of)) (reads_from (first_leaf store.zones k) (looks_in one))
    segment_sent k (Passed area resolved looks) is so stands =
        subst (AllByRecursion (SendsSo (most_of of))) (sym (no_reads (first_leaf store.zones k) looks so.1)) tt
    segment_sent k (Mixed area resolved looks parts answer) is so stands =
        reads_sent k resolved looks parts stands
        (subst (λ (a : Area). PartsSo setting moment exit resolved a.first_leaf.0 looks parts) is so.1)

    all_sent : (k : ℕ) (segments : List Segment) → AreFrom store.zones k segments
        → AllByRecursion (SegmentSo setting moment exit) segments → k + length segments ≤ length store.zones
        → AllStand store setting asked moment from exit held of ranges zoned k segments
        → AllByRecursion (SendsSo (most_of of)) (reads_from (first_leaf store.zones k) (flat_map looks_in segments))
    all_sent k [] areas each within stands = tt
    all_sent k (one ∷ segments) areas each within stands =
        let there : k < length store.zones = omega (arith, within) in
        let own = first_stands store setting asked moment from exit held of ranges zoned k one segments there areas.0
        each.0
        stands in
        let rest = all_sent (suc k) segments areas.1 each.1 (omega (arith, within))
        (others_stand store setting asked moment from exit held of ranges zoned k one segments own stands) in
        let next : suc k ≡ k + 1 = omega arith in
        let after : first_leaf store.zones (suc k) ≡ first_leaf store.zones k + length (looks_in one) =
        omega (arith, ap (first_leaf store.zones) next, leaves_next store.zones k there, own.looks_count) in
        subst (AllByRecursion (SendsSo (most_of of)))
        (sym (reads_append (first_leaf store.zones k) (looks_in one) (flat_map looks_in segments)))
        (all_append (SendsSo (most_of of)) (reads_from (first_leaf store.zones k) (looks_in one))
        (reads_from (first_leaf store.zones k + length (looks_in one)) (flat_map looks_in segments))
        (segment_sent k one areas.0 each.0 own)
        (subst (λ (n : ℕ). AllByRecursion (SendsSo (most_of of)) (reads_from n (flat_map looks_in segments))) after
        rest))

  silent_in : (one : Segment) → SegmentSo setting moment exit one → AllByRecursion SendsNothing (looks_in one)
  silent_in (Passed area resolved looks) so = so.2
  silent_in (Mixed area resolved looks parts answer) so = so.1.silent

  all_silent : (segments : List Segment) → AllByRecursion (SegmentSo setting moment exit) segments
      → AllByRecursion SendsNothing (flat_map looks_in segments)
  all_silent [] each = tt
  all_silent (one ∷ segments) each =
      all_append SendsNothing (looks_in one) (flat_map looks_in segments) (silent_in one each.0)
      (all_silent segments each.1)

  -- each leaf sent as much as it was to send
  abbrev pub AllSent : Trace → Type 0
  AllSent of = (leaf : Leaf)
      → sent_by of leaf ≡ sent_if (was_read of leaf) (sent_amount (typed_of setting) (rows_on exit of leaf) moment)

  pub whole_sends : (course : Course) (through : CourseThrough store setting moment exit course)
      → AllZoned store.zones (trace_of course).resolved → AllSent (trace_of course)
  whole_sends course through zoned leaf =
      let of = trace_of course in
      let none = none_first setting moment store.zones exit in
      let reads = all_sent of (ranges_all store setting asked moment from exit held course through zoned) zoned 0
      through.segments through.behind.areas through.behind.each (omega (arith, through.all))
      (stand store setting asked moment from exit held course through zoned) in
      sent_so (most_of of) course
      (subst (λ (looks : List Look). AllByRecursion (SendsSo (most_of of)) (reads_from 0 looks))
      (sym through.behind.looks)
      (subst (λ (n : ℕ). AllByRecursion (SendsSo (most_of of)) (reads_from n (flat_map looks_in through.segments)))
      none.1 reads))
      (subst (AllByRecursion SendsNothing) (sym through.behind.looks) (all_silent through.segments through.behind.each))
      leaf

  module _ (before : Course) (area : Area) (resolved : List Resolved) (looks : List Look)
      (inside : CourseIn store setting moment exit before area) (whole : IsWhole area resolved looks)
      (zoned : AllZoned store.zones (trace_of (with_zone_behind before resolved looks)).resolved) where
    abbrev course : Course
    course = with_zone_behind before resolved looks

    abbrev of_course : Trace
    of_course = trace_of (with_zone_behind before resolved looks)

    abbrev ranges_so : RangesFrom 0 of_course.resolved
    ranges_so = ranges_of store setting asked moment from exit held before area resolved looks inside whole zoned

    pub stopped_sends : (parts : List LeafAnswer) → PartsSo setting moment exit resolved area.first_leaf.0 looks parts
        → AllSent of_course
    stopped_sends parts so leaf =
        let k = length inside.segments in
        let none = none_first setting moment store.zones exit in
        let number : 0 + length before.looks ≡ first_leaf store.zones k =
        omega (
          arith,
          (before_so store setting asked moment from exit held before area resolved looks inside whole
              zoned).leaves_count,
        ) in
        let earlier = all_sent of_course ranges_so zoned 0 inside.segments inside.behind.areas inside.behind.each
        (omega (arith, inside.there))
        (stand_before store setting asked moment from exit held before area resolved looks inside whole zoned) in
        let own = reads_sent of_course ranges_so zoned k resolved looks parts
        (stands_so store setting asked moment from exit held before area resolved looks inside whole zoned)
        (subst (λ (a : Area). PartsSo setting moment exit resolved a.first_leaf.0 looks parts) inside.here so) in
        sent_so (most_of of_course) course
        (subst (AllByRecursion (SendsSo (most_of of_course))) (sym (reads_append 0 before.looks looks))
        (all_append (SendsSo (most_of of_course)) (reads_from 0 before.looks) (reads_from (0 + length before.looks)
        looks)
        (subst (λ (some : List Look). AllByRecursion (SendsSo (most_of of_course)) (reads_from 0 some))
        (sym inside.behind.looks)
        (subst (λ (n : ℕ). AllByRecursion (SendsSo (most_of of_course))
        (reads_from n (flat_map looks_in inside.segments))) none.1
        earlier))
        (subst (λ (n : ℕ). AllByRecursion (SendsSo (most_of of_course)) (reads_from n looks)) (sym number) own)))
        (all_append SendsNothing before.looks looks
        (subst (AllByRecursion SendsNothing) (sym inside.behind.looks) (all_silent inside.segments inside.behind.each))
        so.silent)
        leaf
