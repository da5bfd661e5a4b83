-- Where the leaves of a zone were visited, what is mixed are answers over rows that are divided.
use Rattle.std.proofs.Common.{◌∙◌, ◌≤ℤ◌, ◌+◌, ℕ, ℤ, pos, List, [], ◌∷◌, ◌++◌, length, map, drop, sym, ap, subst}
use Rattle.std.proofs.Common.{append_assoc, arith}
use Rattle.std.specs.List.{flat_map}
use Rattle.std.proofs.lemmas.List.{map-append}
use Rattle.mixer.specs.Divisions.{IsDivided}
use Rattle.mixer.specs.ZoneAnswers.{AllLeafParts, AllZoneParts}
use Rattle.mixer.specs.declared.zone_answers.ZoneAnswer.{ZoneAnswer}
use Rattle.mon_fold.specs.declared.answers.LeafAnswer.{LeafAnswer}
use Rattle.mon_value.specs.declared.histories.Histories.{Histories}
use Rattle.mon_topo.specs.HeldHistories.{AreHeld}
use Rattle.mon_topo.specs.Settings.{Setting}
use Rattle.mon_topo.specs.Zones.{first_leaf}
use Rattle.mon_value.specs.declared.positions.Leaf.{Leaf}
use Rattle.mon_value.specs.declared.rows.Row.{Row}
use Rattle.query_traces.specs.Askings.{IsAskedOf}
use Rattle.query_traces.specs.declared.answers.Resolved.{Resolved}
use Rattle.query_traces.specs.declared.answers.Trace.{Trace}
use Rattle.query_traces.specs.declared.areas.Area.{Area}
use Rattle.query_core.specs.declared.courses.Course.{Course}
use Rattle.query_traces.specs.declared.looks.Look.{Look}
use Rattle.query_core.specs.Courses.{with_zone_behind, trace_of}
use Rattle.query_traces.specs.Rounds.{unread_look, QuerySetting, typed_of}
use Rattle.query_core.specs.Mixtures.{HasParts}
use Rattle.query_core.proofs.ChosenLeaves.{ChosenAscend, chosen_append, chosen_leaves}
use Rattle.query_core.proofs.DividedRows.{SomeLeaves, divided_rows, rows_at, zone_rows}
use Rattle.query_core.proofs.PartClaims.{CourseIn}
use Rattle.query_core.proofs.ReadLeaves.{cuts_of, leaves_read, reads_from}
use Rattle.query_core.proofs.SegmentFacts.{IsWhole, PartsSo, RangesFrom, answers_in}
use Rattle.query_core.proofs.StoppedTraces.{ranges_of, stands_so}
use Rattle.query_core.proofs.ThroughZones.{none_first}
use Rattle.query_core.proofs.TraceRows.{is_divided, own_rows}
use Rattle.query_core.proofs.WholeTraces.{AllStand, PartsIn, all_parts, chosen_in}
use Rattle.query_core.proofs.ZoneRows.{AllZoned, Stands, reads_up, rows_there}

module _ (store : Setting) (setting : QuerySetting) (asked : IsAskedOf store setting) (moment : ℤ)
    (from : pos 0 ≤ℤ moment) (exit : Histories) (held : AreHeld store.held store.zones store.points exit)
    (before : Course) (area : Area)
    (resolved : List Resolved) (looks : List Look) (inside : CourseIn store setting moment exit before area)
    (whole : IsWhole area resolved looks)
    (zoned : AllZoned store.zones (trace_of (with_zone_behind before resolved looks)).resolved) where
  abbrev k : ℕ
  k = length inside.segments

  abbrev course : Course
  course = with_zone_behind before resolved looks

  abbrev of : Trace
  of = trace_of (with_zone_behind before resolved looks)

  abbrev ranges : RangesFrom 0 of.resolved
  ranges = ranges_of store setting asked moment from exit held before area resolved looks inside whole zoned

  pub stand_before : AllStand store setting asked moment from exit held of
      (ranges_of store setting asked moment from exit held before area resolved looks inside whole zoned) zoned 0
      inside.segments
  stand_before =
      let none = none_first setting moment store.zones exit in
      let firsts = drop (length course.resolved) course.seen.firsts in
      let cuts : List Look = map unread_look (drop (length course.looks) course.seen.cuts) in
      record {
        front = [];
        back = resolved ++ firsts;
        resolved_is = append_assoc before.resolved resolved firsts
            ∙ ap (λ front. front ++ (resolved ++ firsts)) inside.behind.resolved;
        front_count = sym none.0;
        looks_front = [];
        looks_back = looks ++ cuts;
        cuts_are = ap cuts_of (append_assoc before.looks looks cuts
            ∙ ap (λ front. front ++ (looks ++ cuts)) inside.behind.looks);
        looks_front_count = sym none.1;
      }

  -- the zones that are behind, and the leaves of this one that were read
  abbrev chosen : List SomeLeaves
  chosen = flat_map (chosen_in store setting asked moment from exit held) inside.segments

  abbrev leaves : List Leaf
  leaves = leaves_read (reads_from (first_leaf store.zones k) looks)

  earlier : PartsIn store setting asked moment from exit held of ranges zoned 0 chosen (0 + k)
      (flat_map answers_in inside.segments)
  earlier =
      all_parts store setting asked moment from exit held of ranges zoned 0 inside.segments inside.behind.areas
      inside.behind.each (omega (arith, inside.there)) stand_before

  stands : Stands store.zones k resolved looks of
  stands = stands_so store setting asked moment from exit held before area resolved looks inside whole zoned

  last_ascends : ChosenAscend store.zones (0 + k) ((k, leaves) ∷ []) (k + 1)
  last_ascends =
      (omega arith, inside.there, reads_up store.zones k resolved looks of ranges zoned stands, omega arith)

  all_ascend : ChosenAscend store.zones 0 (chosen ++ (k, leaves) ∷ []) (k + 1)
  all_ascend = chosen_append store.zones 0 chosen (0 + k) ((k, leaves) ∷ []) (k + 1) earlier.ascend last_ascends

  all_divided : IsDivided (typed_of setting)
      (divided_rows (own_rows exit of) of.resolved chosen ++ map (rows_at (own_rows exit of) of.resolved) leaves ∷ [])
  all_divided =
      subst (IsDivided (typed_of setting))
      (map-append (zone_rows (own_rows exit of) of.resolved) chosen ((k, leaves) ∷ []))
      (is_divided store setting asked moment from exit held of ranges zoned (chosen ++ (k, leaves) ∷ [])
      (chosen_leaves store.zones 0 (chosen ++ (k, leaves) ∷ []) (k + 1) all_ascend))

  pub zone_mixes : (parts : List LeafAnswer) → PartsSo setting moment exit resolved area.first_leaf.0 looks parts
      → HasParts setting before.answers parts
  zone_mixes parts so =
      let own : PartsSo setting moment exit resolved (first_leaf store.zones k) looks parts =
      subst (λ (a : Area). PartsSo setting moment exit resolved a.first_leaf.0 looks parts) inside.here so in
      record {
        zones = divided_rows (own_rows exit of) of.resolved chosen;
        leaves = map (rows_at (own_rows exit of) of.resolved) leaves;
        moment = moment;
        from = from;
        divided = all_divided;
        of_zones = subst (λ (answers : List ZoneAnswer). AllZoneParts (typed_of setting)
            (divided_rows (own_rows exit of) of.resolved chosen) moment setting.limit answers)
            (sym inside.behind.answers) earlier.each;
        of_leaves = subst (λ (rows : List (List Row)). AllLeafParts (typed_of setting) rows moment setting.limit parts)
            (rows_there store.zones k resolved looks of ranges zoned stands setting moment exit) own.each;
      }
