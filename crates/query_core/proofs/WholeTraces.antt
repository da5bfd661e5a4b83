-- A query that is through with all zones: what it mixed are its leaves' parts over the rows of its trace.
use Rattle.std.proofs.Common.{◌≡◌, ◌∙◌, ◌<◌, ◌≤◌, ◌≤ℤ◌, ◌+◌, ℕ, ℤ, pos, suc, Bool, true, false, List, [], ◌∷◌, ◌++◌}
use Rattle.std.proofs.Common.{length, map, drop, get_or, refl, sym, ap, subst, append-nil, append_assoc, arith}
use Rattle.std.specs.List.{AllByRecursion, flat_map, list_any}
use Rattle.std.proofs.lemmas.List.{length-append, map-append}
use Rattle.std.proofs.lemmas.List.Concat.{flat_map-append}
use Rattle.mixer.proofs.RefusedParts.{zone_asked}
use Rattle.mixer.specs.Divisions.{IsDivided, all_rows}
use Rattle.mixer.specs.ZoneAnswers.{AllLeafParts, AllZoneParts, AreZoneParts, HasZoneParts}
use Rattle.mixer.specs.declared.zone_answers.ZoneAnswer.{ZoneAnswer}
use Rattle.mon_fold.specs.declared.answers.LeafAnswer.{LeafAnswer}
use Rattle.mon_meaning.specs.Central.{IsMeant, IsOver}
use Rattle.mon_meaning.specs.declared.meter.OverLimit.{OverLimit}
use Rattle.mon_value.specs.declared.histories.Histories.{Histories}
use Rattle.mon_topo.specs.HeldHistories.{AreHeld}
use Rattle.mon_value.specs.Histories.{leaf_numbered, same_leaf}
use Rattle.mon_topo.specs.Zones.{first_leaf, first_range}
use Rattle.mon_value.specs.declared.positions.Leaf.{Leaf}
use Rattle.mon_value.specs.declared.rows.Row.{Row}
use Rattle.mon_value.specs.declared.tables.Table.{Table}
use Rattle.typed_trees.specs.Meaning.{load}
use Rattle.mon_topo.specs.Settings.{Setting}
use Rattle.query_traces.specs.Askings.{IsAskedOf}
use Rattle.query_traces.specs.declared.answers.Resolved.{Resolved}
use Rattle.query_traces.specs.declared.answers.Trace.{Trace}
use Rattle.query_traces.specs.declared.areas.Area.{Area}
use Rattle.query_core.specs.declared.courses.Course.{Course}
use Rattle.query_traces.specs.declared.looks.Look.{Look}
use Rattle.query_traces.specs.Rounds.{area_of, unread_look, QuerySetting, typed_of}
use Rattle.query_core.specs.Courses.{trace_of}
use Rattle.query_traces.specs.Traces.{source_of}
use Rattle.query_core.proofs.ChosenLeaves.{ChosenAscend, chosen_append, chosen_leaves, chosen_once}
use Rattle.query_core.proofs.DividedRows.{SomeLeaves, all_leaves, divided_rows, rows_at, zone_rows}
use Rattle.query_core.proofs.PartClaims.{CourseThrough}
use Rattle.query_core.proofs.ReadLeaves.{LeafRead, cuts_of, flags_of, leaves_read, no_reads, read_among, reads_append}
use Rattle.query_core.proofs.ReadLeaves.{reads_from}
use Rattle.query_core.proofs.SegmentFacts.{AreFrom, MixesSo, Mixed, Passed, PartsSo, RangesFrom, Segment, SegmentSo}
use Rattle.query_core.proofs.SegmentFacts.{answers_in, area_in, looks_in, resolved_in}
use Rattle.query_core.proofs.TraceRows.{IsLeftOut, is_divided, meant, over_load, own_rows}
use Rattle.query_traces.proofs.ZoneFacts.{leaves_next, ranges_next}
use Rattle.query_core.proofs.ThroughZones.{IsThrough, none_first, through_so, trace_ranges, whole_in}
use Rattle.query_core.proofs.UnreadLeaves.{TellsOf, left_out_by}
use Rattle.query_core.proofs.ZoneRows.{AllZoned, Stands, leaves_below, reads_up, rows_there}

module _ (store : Setting) (setting : QuerySetting) (asked : IsAskedOf store setting) (moment : ℤ)
    (from : pos 0 ≤ℤ moment) (exit : Histories) (held : AreHeld store.held store.zones store.points exit) where
  abbrev pub chosen_in : Segment → List SomeLeaves
  chosen_in (Passed area resolved looks) = []
  chosen_in (Mixed area resolved looks parts answer) =
      (area.zone.0, leaves_read (reads_from area.first_leaf.0 looks)) ∷ []

  chosen_reads : (k : ℕ) (segments : List Segment) → AreFrom store.zones k segments
      → AllByRecursion (SegmentSo setting moment exit) segments → k + length segments ≤ length store.zones
      → all_leaves (flat_map chosen_in segments)
      ≡ leaves_read (reads_from (first_leaf store.zones k) (flat_map looks_in segments))
  chosen_reads k [] areas each within = refl
  chosen_reads k (one ∷ segments) areas each within =
      let there : k < length store.zones = omega (arith, within) in
      let next : suc k ≡ k + 1 = omega arith in
      let own = whole_in setting moment store.zones exit one each.0 in
      let leaves : length (looks_in one) ≡ (area_of store.zones k).leaves =
      own.all_leaves ∙ ap (λ (area : Area). area.leaves) areas.0 in
      let after : first_leaf store.zones (suc k) ≡ first_leaf store.zones k + length (looks_in one) =
      omega (arith, ap (first_leaf store.zones) next, leaves_next store.zones k there, leaves) in
      flat_map-append (λ (some : SomeLeaves). some.1) (chosen_in one) (flat_map chosen_in segments)
      ∙ (λ i. head one each.0 (ap (λ (area : Area). area.first_leaf.0) areas.0) i
      ++ chosen_reads (suc k) segments areas.1 each.1 (omega (arith, within)) i)
      ∙ ap (λ n. leaves_read (reads_from (first_leaf store.zones k) (looks_in one))
      ++ leaves_read (reads_from n (flat_map looks_in segments))) after
      ∙ sym (ap leaves_read (reads_append (first_leaf store.zones k) (looks_in one) (flat_map looks_in segments))
      ∙ map-append (λ (one : LeafRead). one.leaf) (reads_from (first_leaf store.zones k) (looks_in one))
      (reads_from (first_leaf store.zones k + length (looks_in one)) (flat_map looks_in segments)))
    where
      head : (one : Segment) → SegmentSo setting moment exit one → (area_in one).first_leaf.0 ≡ first_leaf store.zones k
          → all_leaves (chosen_in one) ≡ leaves_read (reads_from (first_leaf store.zones k) (looks_in one))
      head (Passed area resolved looks) so first = sym (ap leaves_read (no_reads (first_leaf store.zones k) looks so.1))
      head (Mixed area resolved looks parts answer) so first =
          append-nil (leaves_read (reads_from area.first_leaf.0 looks)) ∙ ap (λ n. leaves_read (reads_from n looks))
          first

  module _ (of : Trace) (ranges : RangesFrom 0 of.resolved) (zoned : AllZoned store.zones of.resolved) where
    abbrev pub rows_of_zones : List SomeLeaves → List (List (List Row))
    rows_of_zones chosen = divided_rows (own_rows exit of) of.resolved chosen

    pub divided_so : (a : ℕ) (chosen : List SomeLeaves) (b : ℕ) → ChosenAscend store.zones a chosen b
        → IsDivided (typed_of setting) (rows_of_zones chosen)
    divided_so a chosen b ascends =
        is_divided store setting asked moment from exit held of ranges zoned chosen
        (chosen_leaves store.zones a chosen b ascends)

    pub record PartsIn (k : ℕ) (chosen : List SomeLeaves) (to : ℕ) (answers : List ZoneAnswer) : Type 0 where
      pub ascend : ChosenAscend store.zones k chosen to
      pub each : AllZoneParts (typed_of setting) (rows_of_zones chosen) moment setting.limit answers

    zone_part : (k : ℕ) (resolved : List Resolved) (looks : List Look) (parts : List LeafAnswer) (answer : ZoneAnswer)
        → Stands store.zones k resolved looks of
        → PartsSo setting moment exit resolved (first_leaf store.zones k) looks parts → MixesSo setting moment parts
        answer
        → PartsIn k ((k, leaves_read (reads_from (first_leaf store.zones k) looks)) ∷ []) (k + 1) (answer ∷ [])
    zone_part k resolved looks parts answer stands so mixes =
        let leaves = leaves_read (reads_from (first_leaf store.zones k) looks) in
        let ascends : ChosenAscend store.zones k ((k, leaves) ∷ []) (k + 1) =
        (omega arith, stands.there, reads_up store.zones k resolved looks of ranges zoned stands, omega arith) in
        let each : AllLeafParts (typed_of setting) (map (rows_at (own_rows exit of) of.resolved) leaves) moment
        setting.limit parts =
        subst (λ (rows : List (List Row)). AllLeafParts (typed_of setting) rows moment setting.limit parts)
        (rows_there store.zones k resolved looks of ranges zoned stands setting moment exit) so.each in
        record {
          ascend = ascends;
          each = (
            mixes (map (rows_at (own_rows exit of) of.resolved) leaves)
                (zone_asked (typed_of setting) [] (map (rows_at (own_rows exit of) of.resolved) leaves) [] moment
                setting.limit
                parts from (divided_so k ((k, leaves) ∷ []) (k + 1) ascends) each),
            tt,
          );
        }

    segment_part : (k : ℕ) (one : Segment) → area_in one ≡ area_of store.zones k → SegmentSo setting moment exit one
        → Stands store.zones k (resolved_in one) (looks_in one) of → PartsIn k (chosen_in one) (k + 1) (answers_in one)
    segment_part k (Passed area resolved looks) is so stands = record { ascend = omega arith; each = tt }
    segment_part k (Mixed area resolved looks parts answer) is so stands =
        subst (λ (a : Area). PartsIn k ((a.zone.0, leaves_read (reads_from a.first_leaf.0 looks)) ∷ []) (k + 1)
        (answer ∷ []))
        (sym is)
        (zone_part k resolved looks parts answer stands
        (subst (λ (a : Area). PartsSo setting moment exit resolved a.first_leaf.0 looks parts) is so.1) so.2)

    all_parts_append : (some more : List (List (List Row))) (answers rest : List ZoneAnswer)
        → AllZoneParts (typed_of setting) some moment setting.limit answers
        → AllZoneParts (typed_of setting) more moment setting.limit rest
        → AllZoneParts (typed_of setting) (some ++ more) moment setting.limit (answers ++ rest)
    all_parts_append [] more [] rest all later = later
    all_parts_append [] more (answer ∷ answers) rest all later = absurd all
    all_parts_append (zone ∷ some) more [] rest all later = absurd all
    all_parts_append (zone ∷ some) more (answer ∷ answers) rest all later =
        (all.0, all_parts_append some more answers rest all.1 later)

    parts_append : (k middle to : ℕ) (chosen more : List SomeLeaves) (answers rest : List ZoneAnswer)
        → PartsIn k chosen middle answers → PartsIn middle more to rest → PartsIn k (chosen ++ more) to
        (answers ++ rest)
    parts_append k middle to chosen more answers rest all later = record {
      ascend = chosen_append store.zones k chosen middle more to all.ascend later.ascend;
      each = subst (λ (zones : List (List (List Row))). AllZoneParts (typed_of setting) zones moment setting.limit
          (answers ++ rest))
          (sym (map-append (zone_rows (own_rows exit of) of.resolved) chosen more))
          (all_parts_append (rows_of_zones chosen) (rows_of_zones more) answers rest all.each later.each);
    }

    -- where a list of zones stands in the trace
    pub record AllStand (k : ℕ) (segments : List Segment) : Type 0 where
      pub front : List Resolved
      pub back : List Resolved
      pub resolved_is : of.resolved ≡ front ++ (flat_map resolved_in segments ++ back)
      pub front_count : length front ≡ first_range store.zones k
      pub looks_front : List Look
      pub looks_back : List Look
      pub cuts_are : of.cuts ≡ cuts_of (looks_front ++ (flat_map looks_in segments ++ looks_back))
      pub looks_front_count : length looks_front ≡ first_leaf store.zones k

    pub first_stands : (k : ℕ) (one : Segment) (segments : List Segment) → k < length store.zones
        → area_in one ≡ area_of store.zones k → SegmentSo setting moment exit one → AllStand k (one ∷ segments)
        → Stands store.zones k (resolved_in one) (looks_in one) of
    first_stands k one segments there is so all =
        let own = whole_in setting moment store.zones exit one so in
        record {
          there = there;
          front = all.front;
          back = flat_map resolved_in segments ++ all.back;
          resolved_is = all.resolved_is
              ∙ ap (λ rest. all.front ++ rest) (append_assoc (resolved_in one) (flat_map resolved_in segments)
              all.back);
          front_count = all.front_count;
          count = own.all_ranges ∙ ap (λ (area : Area). area.ranges) is;
          looks_front = all.looks_front;
          looks_back = flat_map looks_in segments ++ all.looks_back;
          cuts_are = all.cuts_are
              ∙ ap (λ rest. cuts_of (all.looks_front ++ rest))
              (append_assoc (looks_in one) (flat_map looks_in segments) all.looks_back);
          looks_front_count = all.looks_front_count;
          looks_count = own.all_leaves ∙ ap (λ (area : Area). area.leaves) is;
        }

    pub others_stand : (k : ℕ) (one : Segment) (segments : List Segment)
        → Stands store.zones k (resolved_in one) (looks_in one) of → AllStand k (one ∷ segments) → AllStand (suc k)
        segments
    others_stand k one segments own all =
        let next : suc k ≡ k + 1 = omega arith in
        record {
          front = all.front ++ resolved_in one;
          back = all.back;
          resolved_is = all.resolved_is
              ∙ ap (λ rest. all.front ++ rest) (append_assoc (resolved_in one) (flat_map resolved_in segments) all.back)
              ∙ sym (append_assoc all.front (resolved_in one) (flat_map resolved_in segments ++ all.back));
          front_count = omega (
            arith,
            length-append all.front (resolved_in one),
            all.front_count,
            own.count,
            ranges_next store.zones k own.there,
            ap (first_range store.zones) next,
          );
          looks_front = all.looks_front ++ looks_in one;
          looks_back = all.looks_back;
          cuts_are = all.cuts_are
              ∙ ap (λ rest. cuts_of (all.looks_front ++ rest))
              (append_assoc (looks_in one) (flat_map looks_in segments) all.looks_back)
              ∙ ap cuts_of (sym (append_assoc all.looks_front (looks_in one) (flat_map looks_in segments
              ++ all.looks_back)));
          looks_front_count = omega (
            arith,
            length-append all.looks_front (looks_in one),
            all.looks_front_count,
            own.looks_count,
            leaves_next store.zones k own.there,
            ap (first_leaf store.zones) next,
          );
        }

    pub all_parts : (k : ℕ) (segments : List Segment) → AreFrom store.zones k segments
        → AllByRecursion (SegmentSo setting moment exit) segments → k + length segments ≤ length store.zones
        → AllStand k segments
        → PartsIn k (flat_map chosen_in segments) (k + length segments) (flat_map answers_in segments)
    all_parts k [] areas each within stand = record { ascend = omega arith; each = tt }
    all_parts k (one ∷ segments) areas each within stand =
        let there : k < length store.zones = omega (arith, within) in
        let own = first_stands k one segments there areas.0 each.0 stand in
        let rest = all_parts (suc k) segments areas.1 each.1 (omega (arith, within)) (others_stand k one segments own
        stand) in
        let next : suc k ≡ k + 1 = omega arith in
        let last : suc k + length segments ≡ k + suc (length segments) = omega arith in
        parts_append k (k + 1) (k + suc (length segments)) (chosen_in one) (flat_map chosen_in segments)
        (answers_in one)
        (flat_map answers_in segments) (segment_part k one areas.0 each.0 own)
        (subst (λ (n : ℕ). PartsIn n (flat_map chosen_in segments) (k + suc (length segments))
        (flat_map answers_in segments)) next
        (subst (λ (n : ℕ). PartsIn (suc k) (flat_map chosen_in segments) n (flat_map answers_in segments)) last rest))

  -- ---- a table, and a whole load that is above the limit

  module _ (course : Course) (through : CourseThrough store setting moment exit course)
      (zoned : AllZoned store.zones (trace_of course).resolved) where
    abbrev count : ℕ
    count = length through.segments

    abbrev chosen : List SomeLeaves
    chosen = flat_map chosen_in through.segments

    pub so : IsThrough setting moment store.zones exit count course
    so = through_so setting moment store.zones exit through.segments course through.behind (omega (arith, through.all))

    pub ranges_all : RangesFrom 0 (trace_of course).resolved
    ranges_all = trace_ranges setting moment store.zones exit count course so

    pub stand : AllStand (trace_of course) ranges_all zoned 0 through.segments
    stand =
        let none = none_first setting moment store.zones exit in
        record {
          front = [];
          back = drop (length course.resolved) course.seen.firsts;
          resolved_is = ap (λ front. front ++ drop (length course.resolved) course.seen.firsts) through.behind.resolved;
          front_count = sym none.0;
          looks_front = [];
          looks_back = map unread_look (drop (length course.looks) course.seen.cuts);
          cuts_are = ap (λ looks. cuts_of (looks ++ map unread_look (drop (length course.looks) course.seen.cuts)))
              through.behind.looks;
          looks_front_count = sym none.1;
        }

    parts_all : PartsIn (trace_of course) ranges_all zoned 0 chosen (0 + count) (flat_map answers_in through.segments)
    parts_all =
        all_parts (trace_of course) ranges_all zoned 0 through.segments through.behind.areas through.behind.each
        (omega (arith, through.all)) stand

    zones_asked : AreZoneParts (typed_of setting) (rows_of_zones (trace_of course) ranges_all zoned chosen) moment
        setting.limit
        course.answers
    zones_asked = record {
      from = from;
      divided = divided_so (trace_of course) ranges_all zoned 0 chosen (0 + count) parts_all.ascend;
      each = subst (λ (answers : List ZoneAnswer). AllZoneParts (typed_of setting)
          (rows_of_zones (trace_of course) ranges_all zoned chosen) moment setting.limit answers)
          (sym through.behind.answers)
          parts_all.each;
    }

    pub zones_mix : HasZoneParts (typed_of setting) setting.limit course.answers
    zones_mix = record {
      zones = rows_of_zones (trace_of course) ranges_all zoned chosen;
      moment = moment;
      are = zones_asked;
    }

    chosen_are : all_leaves chosen ≡ leaves_read (reads_from 0 course.looks)
    chosen_are =
        chosen_reads 0 through.segments through.behind.areas through.behind.each (omega (arith, through.all))
        ∙ ap (λ n. leaves_read (reads_from n (flat_map looks_in through.segments)))
        (none_first setting moment store.zones exit).1
        ∙ ap (λ looks. leaves_read (reads_from 0 looks)) (sym through.behind.looks)

    not_read : (leaf : Leaf) → list_any (same_leaf leaf) (all_leaves chosen) ≡ false → (b : Bool)
        → get_or (flags_of course.looks) leaf.0 false ≡ b → b ≡ false
    not_read leaf lacks true flag =
        let number : 0 + leaf.0 ≡ leaf.0 = omega arith in
        let there : list_any (same_leaf leaf) (leaves_read (reads_from 0 course.looks)) ≡ true =
        subst (λ (n : ℕ). list_any (same_leaf (leaf_numbered n)) (leaves_read (reads_from 0 course.looks)) ≡ true)
        number
        (read_among 0 course.looks leaf.0 flag) in
        let clash : list_any (same_leaf leaf) (all_leaves chosen) ≡ true = ap (list_any (same_leaf leaf)) chosen_are
        ∙ there in
        absurd cc
    not_read leaf lacks false flag = refl

    module _ (tells : TellsOf setting exit course) where
      left : AllByRecursion (IsLeftOut (typed_of setting) exit (trace_of course) chosen) (trace_of course).resolved
      left =
          left_out_by store setting moment exit count course so zoned tells chosen
          (λ leaf lacks there. (
            leaves_below store.zones count leaf through.all there,
            not_read leaf lacks (get_or (flags_of course.looks) leaf.0 false) refl,
          ))

      pub table_meant : (table : Table)
          → ((zones : List (List (List Row))) → AreZoneParts (typed_of setting) zones moment setting.limit
          course.answers
          → IsMeant (typed_of setting) (all_rows zones) moment setting.limit table)
          → IsMeant (typed_of setting) (source_of exit (trace_of course)) moment setting.limit table
      table_meant table mixes =
          meant store setting asked moment from exit held (trace_of course) ranges_all zoned chosen
          (chosen_leaves store.zones 0 chosen (0 + count) parts_all.ascend)
          (chosen_once store.zones 0 chosen (0 + count) parts_all.ascend) left setting.limit table
          (mixes (rows_of_zones (trace_of course) ranges_all zoned chosen) zones_asked)

      pub root_over : (over : OverLimit)
          → ((zones : List (List (List Row))) → AreZoneParts (typed_of setting) zones moment setting.limit
          course.answers
          → IsOver (typed_of setting) (all_rows zones) moment setting.limit over)
          → setting.limit < load (typed_of setting) (source_of exit (trace_of course)) moment
      root_over over mixes =
          over_load store setting asked moment from exit held (trace_of course) ranges_all zoned chosen
          (chosen_leaves store.zones 0 chosen (0 + count) parts_all.ascend)
          (chosen_once store.zones 0 chosen (0 + count) parts_all.ascend) left setting.limit over
          (mixes (rows_of_zones (trace_of course) ranges_all zoned chosen) zones_asked)
