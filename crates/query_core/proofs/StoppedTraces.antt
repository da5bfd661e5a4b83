-- A query that met its limit in a zone: so much is the load over the rows of its trace, too.
use Rattle.std.proofs.Common.{◌≡◌, ◌∙◌, ◌<◌, ◌≤◌, ◌≤ℤ◌, ◌+◌, ◌-◌, ◌⊎◌, inl, inr, ℕ, ℤ, pos, suc, Bool, true, false}
use Rattle.std.proofs.Common.{List, [], ◌∷◌, ◌++◌, length, map, take, drop, get_or, refl, sym, ap, subst, append_assoc}
use Rattle.std.proofs.Common.{arith}
use Rattle.std.specs.List.{AllByRecursion, list_any}
use Rattle.std.proofs.lemmas.Bool.{cases_lt}
use Rattle.std.proofs.lemmas.List.{map-append}
use Rattle.mixer.proofs.RefusedParts.{leaf_refused, zone_asked, zone_refused}
use Rattle.mixer.specs.Divisions.{IsDivided, all_rows}
use Rattle.mixer.specs.ZoneAnswers.{AllLeafParts, AreLeafParts, IsOverZone}
use Rattle.mon_fold.specs.declared.answers.LeafAnswer.{LeafAnswer}
use Rattle.mon_meaning.specs.Central.{IsOver}
use Rattle.mon_meaning.specs.LeafAnswers.{IsOverLeaf}
use Rattle.mon_meaning.specs.declared.meter.OverLimit.{OverLimit}
use Rattle.mon_value.specs.Histories.{leaf_history, leaf_numbered, same_leaf}
use Rattle.mon_value.specs.declared.histories.Histories.{Histories}
use Rattle.mon_topo.specs.HeldHistories.{AreHeld}
use Rattle.mon_topo.specs.Zones.{first_leaf, leaf_zones}
use Rattle.mon_value.specs.declared.positions.Leaf.{Leaf}
use Rattle.mon_value.specs.declared.refusals.Refusal.TheVariants as refusal
use Rattle.mon_value.specs.declared.rows.Row.{Row}
use Rattle.typed_rows.proofs.JoinedRows.{all-map}
use Rattle.typed_trees.specs.Meaning.{load}
use Rattle.mon_topo.specs.Settings.{Setting}
use Rattle.query_traces.specs.Askings.{IsAskedOf}
use Rattle.query_traces.specs.declared.answers.Resolved.{Resolved}
use Rattle.query_traces.specs.declared.answers.Trace.{Trace}
use Rattle.query_traces.specs.declared.areas.Area.{Area}
use Rattle.query_core.specs.declared.courses.Course.{Course}
use Rattle.query_traces.specs.declared.looks.Look.{Look}
use Rattle.query_traces.specs.Rounds.{area_of, leaf_at, unread_look, slots_on, QuerySetting, typed_of}
use Rattle.query_core.specs.Courses.{with_zone_behind, trace_of}
use Rattle.query_traces.specs.Traces.{source_of}
use Rattle.mon_meaning.specs.ReadableSlots.{slot_rows}
use Rattle.query_core.proofs.ChosenLeaves.{ChosenAscend, among_append, among_behind, among_zones, front_among}
use Rattle.query_core.proofs.ChosenLeaves.{chosen_append, chosen_leaves, chosen_once, zone_ascends, zones_ascend}
use Rattle.query_core.proofs.ChosenLeaves.{zones_from}
use Rattle.query_core.proofs.DividedRows.{SomeLeaves, all_leaves, divided_rows, rows_at, zone_rows}
use Rattle.query_core.proofs.PartClaims.{CourseIn}
use Rattle.query_core.proofs.ReadLeaves.{Ascend, LeafRead, among_from, cuts_of, flags_of, leaves_append, leaves_from}
use Rattle.query_core.proofs.ReadLeaves.{leaves_read, read_among, reads_from}
use Rattle.query_core.proofs.SegmentFacts.{IsWhole, PartsSo, RangesFrom}
use Rattle.query_core.proofs.TraceRows.{IsLeftOut, is_divided, over_load, own_rows}
use Rattle.query_traces.proofs.ZoneFacts.{leaves_next}
use Rattle.query_core.proofs.ThroughZones.{IsThrough, closed_so, none_first, through_so, trace_ranges}
use Rattle.query_core.proofs.UnreadLeaves.{TellsOf, left_out_by}
use Rattle.query_core.proofs.ZoneRows.{AllZoned, IsZoned, Stands, cut_there, get_back, leaf_rows, leaves_below}
use Rattle.query_core.proofs.ZoneRows.{reads_up, rows_there}

module _ (store : Setting) (setting : QuerySetting) (asked : IsAskedOf store setting) (moment : ℤ)
    (from : pos 0 ≤ℤ moment) (exit : Histories) (held : AreHeld store.held store.zones store.points exit) where
  module _ (before : Course) (area : Area) (resolved : List Resolved) (looks : List Look)
      (inside : CourseIn store setting moment exit before area) (whole : IsWhole area resolved looks)
      (zoned : AllZoned store.zones (trace_of (with_zone_behind before resolved looks)).resolved) where
    abbrev k : ℕ
    k = length inside.segments

    abbrev course : Course
    course = with_zone_behind before resolved looks

    abbrev whole_trace : Trace
    whole_trace = trace_of (with_zone_behind before resolved looks)

    abbrev after : ℕ
    after = length store.zones - (k + 1)

    pub before_so : IsThrough setting moment store.zones exit k before
    before_so =
        through_so setting moment store.zones exit inside.segments before inside.behind (omega (arith, inside.there))

    course_so : IsThrough setting moment store.zones exit (k + 1) course
    course_so =
        closed_so setting moment store.zones exit k before area resolved looks inside.there inside.here before_so whole

    pub ranges_of : RangesFrom 0 whole_trace.resolved
    ranges_of = trace_ranges setting moment store.zones exit (k + 1) course course_so

    pub stands_so : Stands store.zones k resolved looks whole_trace
    stands_so = record {
      there = inside.there;
      front = before.resolved;
      back = drop (length course.resolved) course.seen.firsts;
      resolved_is = append_assoc before.resolved resolved (drop (length course.resolved) course.seen.firsts);
      front_count = before_so.ranges_count;
      count = whole.all_ranges ∙ ap (λ (area : Area). area.ranges) inside.here;
      looks_front = before.looks;
      looks_back = map unread_look (drop (length course.looks) course.seen.cuts);
      cuts_are = ap cuts_of (append_assoc before.looks looks
          (map unread_look (drop (length course.looks) course.seen.cuts)));
      looks_front_count = before_so.leaves_count;
      looks_count = whole.all_leaves ∙ ap (λ (area : Area). area.leaves) inside.here;
    }

    -- all zones, and of this one some leaves
    abbrev chosen_with : List Leaf → List SomeLeaves
    chosen_with leaves = zones_from store.zones 0 k ++ (k, leaves) ∷ zones_from store.zones (k + 1) after

    module _ (leaves : List Leaf) (ascends : Ascend (first_leaf store.zones k) leaves (first_leaf store.zones (k + 1)))
      where
        chosen_ascend : ChosenAscend store.zones 0 (chosen_with leaves) (length store.zones)
        chosen_ascend =
            chosen_append store.zones 0 (zones_from store.zones 0 k) k ((k, leaves) ∷ zones_from store.zones (k + 1)
            after)
            (length store.zones) (zones_ascend store.zones 0 k k (omega arith) (omega (arith, inside.there))) (
              omega arith,
              inside.there,
              ascends,
              zones_ascend store.zones (k + 1) after (length store.zones) (omega (arith, inside.there)) (omega arith),
            )

        -- a leaf that is not among them is one of the zone's
        record IsMissing (leaf : Leaf) : Type 0 where
          low : first_leaf store.zones k ≤ leaf.0
          high : leaf.0 < first_leaf store.zones (k + 1)
          lacks : list_any (same_leaf leaf) leaves ≡ false

        module _ (leaf : Leaf) (there : leaf.0 < length (leaf_zones store.zones))
            (out : list_any (same_leaf leaf) (all_leaves (chosen_with leaves)) ≡ false) where
          none_low : first_leaf store.zones 0 ≤ leaf.0
          none_low = omega (arith, (none_first setting moment store.zones exit).1)

          not_earlier : leaf.0 < first_leaf store.zones k → ⊥
          not_earlier below =
              let clash : list_any (same_leaf leaf) (all_leaves (chosen_with leaves)) ≡ true =
              among_append store.zones leaf (zones_from store.zones 0 k) ((k, leaves) ∷ zones_from store.zones (k + 1)
              after)
              (among_zones store.zones leaf 0 k k (omega arith) (omega (arith, inside.there)) none_low below) in
              absurd cc

          not_later : first_leaf store.zones (k + 1) ≤ leaf.0 → ⊥
          not_later past =
              let last = leaves_below store.zones (length store.zones) leaf refl there in
              let clash : list_any (same_leaf leaf) (all_leaves (chosen_with leaves)) ≡ true =
              among_behind store.zones leaf (zones_from store.zones 0 k) ((k, leaves) ∷ zones_from store.zones (k + 1)
              after)
              (among_behind store.zones leaf ((k, leaves) ∷ []) (zones_from store.zones (k + 1) after)
              (among_zones store.zones leaf (k + 1) after (length store.zones) (omega (arith, inside.there))
              (omega arith) past last)) in
              absurd cc

          lacks_by : (b : Bool) → list_any (same_leaf leaf) leaves ≡ b → b ≡ false
          lacks_by true e =
              let clash : list_any (same_leaf leaf) (all_leaves (chosen_with leaves)) ≡ true =
              among_behind store.zones leaf (zones_from store.zones 0 k) ((k, leaves) ∷ zones_from store.zones (k + 1)
              after)
              (front_among store.zones leaf leaves (all_leaves (zones_from store.zones (k + 1) after)) e) in
              absurd cc
          lacks_by false e = refl

          low_by : (leaf.0 < first_leaf store.zones k) ⊎ (first_leaf store.zones k ≤ leaf.0) → first_leaf store.zones k
              ≤ leaf.0
          low_by (inl below) = absurd (not_earlier below)
          low_by (inr from) = from

          high_by : (leaf.0 < first_leaf store.zones (k + 1)) ⊎ (first_leaf store.zones (k + 1) ≤ leaf.0)
              → leaf.0 < first_leaf store.zones (k + 1)
          high_by (inl below) = below
          high_by (inr past) = absurd (not_later past)

          is_missing : IsMissing leaf
          is_missing = record {
            low = low_by (cases_lt leaf.0 (first_leaf store.zones k));
            high = high_by (cases_lt leaf.0 (first_leaf store.zones (k + 1)));
            lacks = lacks_by (list_any (same_leaf leaf) leaves) refl;
          }

        abbrev front_rows : List (List (List Row))
        front_rows = divided_rows (own_rows exit whole_trace) whole_trace.resolved (zones_from store.zones 0 k)

        abbrev back_rows : List (List (List Row))
        back_rows = divided_rows (own_rows exit whole_trace) whole_trace.resolved (zones_from store.zones (k + 1) after)

        abbrev own_zone : List (List Row)
        own_zone = map (rows_at (own_rows exit whole_trace) whole_trace.resolved) leaves

        rows_split : divided_rows (own_rows exit whole_trace) whole_trace.resolved (chosen_with leaves) ≡ front_rows
            ++ own_zone ∷ back_rows
        rows_split =
            map-append (zone_rows (own_rows exit whole_trace) whole_trace.resolved) (zones_from store.zones 0 k)
            ((k, leaves) ∷ zones_from store.zones (k + 1) after)

        divided_split : IsDivided (typed_of setting) (front_rows ++ own_zone ∷ back_rows)
        divided_split =
            subst (IsDivided (typed_of setting)) rows_split
            (is_divided store setting asked moment from exit held whole_trace ranges_of zoned (chosen_with leaves)
            (chosen_leaves store.zones 0 (chosen_with leaves) (length store.zones) chosen_ascend))

        over_split : AllByRecursion (IsLeftOut (typed_of setting) exit whole_trace (chosen_with leaves))
            whole_trace.resolved
            → (over : OverLimit)
            → IsOver (typed_of setting) (all_rows (front_rows ++ own_zone ∷ back_rows)) moment setting.limit over
            → setting.limit < load (typed_of setting) (source_of exit whole_trace) moment
        over_split left_out over is =
            over_load store setting asked moment from exit held whole_trace ranges_of zoned (chosen_with leaves)
            (chosen_leaves store.zones 0 (chosen_with leaves) (length store.zones) chosen_ascend)
            (chosen_once store.zones 0 (chosen_with leaves) (length store.zones) chosen_ascend) left_out setting.limit
            over
            (subst (λ (zones : List (List (List Row))). IsOver (typed_of setting) (all_rows zones) moment setting.limit
            over)
            (sym rows_split) is)

    -- ---- a zone's

    abbrev reads : List LeafRead
    reads = reads_from (first_leaf store.zones k) looks

    reads_ascend_so : Ascend (first_leaf store.zones k) (leaves_read reads) (first_leaf store.zones (k + 1))
    reads_ascend_so = reads_up store.zones k resolved looks whole_trace ranges_of zoned stands_so

    flag_by : (leaf : Leaf) → first_leaf store.zones k ≤ leaf.0 → list_any (same_leaf leaf) (leaves_read reads) ≡ false
        → (b : Bool) → get_or (flags_of course.looks) leaf.0 false ≡ b → b ≡ false
    flag_by leaf low lacks true flag =
        let place : ℕ = leaf.0 - first_leaf store.zones k in
        let number : leaf.0 ≡ length (flags_of before.looks) + place =
        omega (arith, low, before_so.leaves_count, flags_long before.looks) in
        let own : get_or (flags_of looks) place false ≡ true =
        sym (ap (λ flags. get_or flags leaf.0 false) (map-append (λ (look : Look). look.read) before.looks looks)
        ∙ get_back (flags_of before.looks) (flags_of looks) leaf.0 place false number) ∙ flag in
        let same : first_leaf store.zones k + place ≡ leaf.0 = omega (arith, low) in
        let clash : list_any (same_leaf leaf) (leaves_read reads) ≡ true =
        subst (λ (n : ℕ). list_any (same_leaf (leaf_numbered n)) (leaves_read reads) ≡ true) same
        (read_among (first_leaf store.zones k) looks place own) in
        absurd cc
      where
        flags_long : (looks : List Look) → length (flags_of looks) ≡ length looks
        flags_long [] = refl
        flags_long (look ∷ looks) = ap suc (flags_long looks)
    flag_by leaf low lacks false flag = refl

    pub zone_over : (parts : List LeafAnswer) (over : OverLimit) → PartsSo setting moment exit resolved
        area.first_leaf.0 looks parts
        → TellsOf setting exit course
        → ((leaves : List (List Row)) → AreLeafParts (typed_of setting) leaves moment setting.limit parts
        → IsOverZone (typed_of setting) leaves moment setting.limit over)
        → setting.limit < load (typed_of setting) (source_of exit whole_trace) moment
    zone_over parts over parts_so tells mixes =
        let leaves = leaves_read reads in
        let own = own_zone leaves reads_ascend_so in
        let front = front_rows leaves reads_ascend_so in
        let back = back_rows leaves reads_ascend_so in
        let divided = divided_split leaves reads_ascend_so in
        let so : PartsSo setting moment exit resolved (first_leaf store.zones k) looks parts =
        subst (λ (a : Area). PartsSo setting moment exit resolved a.first_leaf.0 looks parts) inside.here parts_so in
        let each : AllLeafParts (typed_of setting) own moment setting.limit parts =
        subst (λ (rows : List (List Row)). AllLeafParts (typed_of setting) rows moment setting.limit parts)
        (rows_there store.zones k resolved looks whole_trace ranges_of zoned stands_so setting moment exit) so.each in
        over_split leaves reads_ascend_so
        (left_out_by store setting moment exit (k + 1) course course_so zoned tells (chosen_with leaves)
        (λ leaf out there. (let missing = is_missing leaves reads_ascend_so leaf there out in
        (missing.high, flag_by leaf missing.low missing.lacks (get_or (flags_of course.looks) leaf.0 false) refl))))
        over
        (zone_refused (typed_of setting) front own back moment setting.limit (refusal.Fault over) from divided
        (mixes own (zone_asked (typed_of setting) front own back moment setting.limit parts from divided each)))

    -- ---- a leaf's

    abbrev every_leaf : List Leaf
    every_leaf = leaves_from (first_leaf store.zones k) (area_of store.zones k).leaves

    every_ascends : Ascend (first_leaf store.zones k) every_leaf (first_leaf store.zones (k + 1))
    every_ascends = zone_ascends store.zones k inside.there

    none_missing : (leaf : Leaf) → IsMissing every_leaf every_ascends leaf → ⊥
    none_missing leaf missing =
        let there : list_any (same_leaf leaf) every_leaf ≡ true =
        among_from leaf (first_leaf store.zones k) (area_of store.zones k).leaves missing.low
        (omega (arith, missing.high, leaves_next store.zones k inside.there)) in
        let none : list_any (same_leaf leaf) every_leaf ≡ false = missing.lacks in
        absurd cc

    pub leaf_over : (place cut : ℕ) (over : OverLimit) → place < area.leaves → get_or (cuts_of looks) place 0 ≡ cut
        → IsOverLeaf (typed_of setting)
        (slot_rows (take cut (leaf_history exit (leaf_at area place))) (slots_on (leaf_at area place) resolved)) moment
        setting.limit over
        → setting.limit < load (typed_of setting) (source_of exit whole_trace) moment
    leaf_over place cut over there told is =
        let first = first_leaf store.zones k in
        let leaf : Leaf = leaf_numbered (first + place) in
        let rest : ℕ = (area_of store.zones k).leaves - (place + 1) in
        let leaves_are : area.leaves ≡ (area_of store.zones k).leaves = ap (λ (area : Area). area.leaves) inside.here in
        let within : place < (area_of store.zones k).leaves = omega (arith, there, leaves_are) in
        let count : (area_of store.zones k).leaves ≡ place + suc rest = omega (arith, within) in
        let rows_on_leaf = rows_at (own_rows exit whole_trace) whole_trace.resolved in
        let earlier : List (List Row) = map rows_on_leaf (leaves_from first place) in
        let later : List (List Row) = map rows_on_leaf (leaves_from (suc (first + place)) rest) in
        let front = front_rows every_leaf every_ascends in
        let back = back_rows every_leaf every_ascends in
        let split : own_zone every_leaf every_ascends ≡ earlier ++ rows_on_leaf leaf ∷ later =
        ap (λ n. map rows_on_leaf (leaves_from first n)) count
        ∙ ap (map rows_on_leaf) (leaves_append first place (suc rest))
        ∙ map-append rows_on_leaf (leaves_from first place) (leaf ∷ leaves_from (suc (first + place)) rest) in
        let divided : IsDivided (typed_of setting) (front ++ (earlier ++ rows_on_leaf leaf ∷ later) ∷ back) =
        subst (λ (own : List (List Row)). IsDivided (typed_of setting) (front ++ own ∷ back)) split
        (divided_split every_leaf every_ascends) in
        let low : first ≤ leaf.0 = omega arith in
        let high : leaf.0 < first_leaf store.zones (k + 1) =
        omega (arith, within, leaves_next store.zones k inside.there) in
        let same : leaf_at area place ≡ leaf = ap (λ (a : Area). leaf_at a place) inside.here in
        let rows : slot_rows (take cut (leaf_history exit (leaf_at area place)))
        (slots_on (leaf_at area place) resolved)
        ≡ rows_on_leaf leaf =
        ap (λ (l : Leaf). slot_rows (take cut (leaf_history exit l)) (slots_on l resolved)) same
        ∙ sym (leaf_rows store.zones k resolved looks whole_trace ranges_of zoned stands_so setting moment exit leaf
        cut low high
        (cut_there store.zones k resolved looks whole_trace ranges_of zoned stands_so place within ∙ told)) in
        let own_over : IsOverLeaf (typed_of setting) (rows_on_leaf leaf) moment setting.limit over =
        subst (λ (some : List Row). IsOverLeaf (typed_of setting) some moment setting.limit over) rows is in
        over_split every_leaf every_ascends
        (all-map (IsZoned store.zones) (IsLeftOut (typed_of setting) exit whole_trace (chosen_with every_leaf))
        whole_trace.resolved
        (λ one zone out. absurd (none_missing one.leaf (is_missing every_leaf every_ascends one.leaf zone.0 out)))
        zoned)
        over
        (subst (λ (own : List (List Row)). IsOver (typed_of setting) (all_rows (front ++ own ∷ back)) moment
        setting.limit over)
        (sym split)
        (leaf_refused (typed_of setting) front earlier (rows_on_leaf leaf) later back moment setting.limit
        (refusal.Fault over)
        from divided own_over))
