-- A query that is through with so many zones has their ranges and their leaves, in order.
use Rattle.std.proofs.Common.{◌≡◌, ◌∙◌, ◌<◌, ◌≤◌, ◌+◌, ℕ, ℤ, suc, List, [], ◌∷◌, length, drop, refl, sym, ap, subst}
use Rattle.std.proofs.Common.{arith}
use Rattle.std.specs.List.{AllByRecursion, flat_map}
use Rattle.std.proofs.lemmas.List.{length-append}
use Rattle.mon_value.specs.declared.histories.Histories.{Histories}
use Rattle.mon_topo.specs.Zones.{first_leaf, first_range}
use Rattle.mon_topo.specs.declared.zones.ZoneSpec.{ZoneSpec}
use Rattle.query_traces.specs.declared.answers.Resolved.{Resolved}
use Rattle.query_traces.specs.declared.areas.Area.{Area}
use Rattle.query_core.specs.declared.courses.Course.{Course}
use Rattle.query_traces.specs.declared.looks.Look.{Look}
use Rattle.query_traces.specs.Rounds.{area_of, QuerySetting}
use Rattle.query_core.specs.Courses.{with_zone_behind, trace_of}
use Rattle.query_core.proofs.SegmentFacts.{AreFrom, Behind, IsWhole, Mixed, Passed, RangesFrom, Segment, SegmentSo}
use Rattle.query_core.proofs.SegmentFacts.{SeenSo, area_in, looks_in, ranges_append, ranges_behind, resolved_in}
use Rattle.query_traces.proofs.ZoneFacts.{leaves_next, ranges_next}

module _ (setting : QuerySetting) (moment : ℤ) (zones : List ZoneSpec) (now : Histories) where
  pub whole_in : (one : Segment) → SegmentSo setting moment now one → IsWhole (area_in one) (resolved_in one)
      (looks_in one)
  whole_in (Passed area resolved looks) so = so.0
  whole_in (Mixed area resolved looks parts answer) so = so.0

  -- as many ranges and leaves as their zones have, in order
  record AreWhole (k : ℕ) (segments : List Segment) : Type 0 where
    ranges : RangesFrom (first_range zones k) (flat_map resolved_in segments)
    ranges_count : first_range zones k + length (flat_map resolved_in segments) ≡ first_range zones
        (k + length segments)
    leaves_count : first_leaf zones k + length (flat_map looks_in segments) ≡ first_leaf zones (k + length segments)

  are_whole : (k : ℕ) (segments : List Segment) → AreFrom zones k segments
      → AllByRecursion (SegmentSo setting moment now) segments
      → k + length segments ≤ length zones → AreWhole k segments
  are_whole k [] areas each within =
      let last : k + 0 ≡ k = omega arith in
      record {
        ranges = tt;
        ranges_count = omega (arith, ap (first_range zones) last);
        leaves_count = omega (arith, ap (first_leaf zones) last);
      }
  are_whole k (one ∷ segments) areas each within =
      let there : k < length zones = omega (arith, within) in
      let next : suc k ≡ k + 1 = omega arith in
      let last : suc k + length segments ≡ k + suc (length segments) = omega arith in
      let own = whole_in one each.0 in
      let rest = are_whole (suc k) segments areas.1 each.1 (omega (arith, within)) in
      let count : length (resolved_in one) ≡ (area_of zones k).ranges =
      own.all_ranges ∙ ap (λ (area : Area). area.ranges) areas.0 in
      let leaves : length (looks_in one) ≡ (area_of zones k).leaves =
      own.all_leaves ∙ ap (λ (area : Area). area.leaves) areas.0 in
      let ranges_after : first_range zones (suc k) ≡ first_range zones k + length (resolved_in one) =
      omega (arith, ap (first_range zones) next, ranges_next zones k there, count) in
      let leaves_after : first_leaf zones (suc k) ≡ first_leaf zones k + length (looks_in one) =
      omega (arith, ap (first_leaf zones) next, leaves_next zones k there, leaves) in
      record {
        ranges = ranges_append (first_range zones k) (resolved_in one) (flat_map resolved_in segments)
            (subst (λ (n : ℕ). RangesFrom n (resolved_in one)) (ap (λ (area : Area). area.first_range.0) areas.0)
            own.ranges)
            (subst (λ (n : ℕ). RangesFrom n (flat_map resolved_in segments)) ranges_after rest.ranges);
        ranges_count = omega (
          arith,
          length-append (resolved_in one) (flat_map resolved_in segments),
          ranges_after,
          rest.ranges_count,
          ap (first_range zones) last,
        );
        leaves_count = omega (
          arith,
          length-append (looks_in one) (flat_map looks_in segments),
          leaves_after,
          rest.leaves_count,
          ap (first_leaf zones) last,
        );
      }

  -- a course that is through with so many zones
  pub record IsThrough (k : ℕ) (course : Course) : Type 0 where
    pub ranges : RangesFrom 0 course.resolved
    pub ranges_count : length course.resolved ≡ first_range zones k
    pub leaves_count : length course.looks ≡ first_leaf zones k
    pub seen : SeenSo zones course.seen

  pub none_first : (first_range zones 0 ≡ 0) × (first_leaf zones 0 ≡ 0)
  none_first = by_zones zones
    where
      by_zones : (zones : List ZoneSpec) → (first_range zones 0 ≡ 0) × (first_leaf zones 0 ≡ 0)
      by_zones [] = (refl, refl)
      by_zones (zone ∷ zones) = (refl, refl)

  pub through_so : (segments : List Segment) (course : Course) → Behind setting moment zones now segments course
      → length segments ≤ length zones → IsThrough (length segments) course
  through_so segments course behind few =
      let number : 0 + length segments ≡ length segments = omega arith in
      let so = are_whole 0 segments behind.areas behind.each (omega (arith, few)) in
      record {
        ranges = subst (RangesFrom 0) (sym behind.resolved)
            (subst (λ (n : ℕ). RangesFrom n (flat_map resolved_in segments)) none_first.0 so.ranges);
        ranges_count = ap length behind.resolved
            ∙ omega (arith, so.ranges_count, none_first.0, ap (first_range zones) number);
        leaves_count = ap length behind.looks
            ∙ omega (arith, so.leaves_count, none_first.1, ap (first_leaf zones) number);
        seen = behind.seen;
      }

  -- one zone more
  pub closed_so : (k : ℕ) (before : Course) (area : Area) (resolved : List Resolved) (looks : List Look)
      → k < length zones
      → area ≡ area_of zones k → IsThrough k before → IsWhole area resolved looks
      → IsThrough (k + 1) (with_zone_behind before resolved looks)
  closed_so k before area resolved looks there is so whole =
      let count : length resolved ≡ (area_of zones k).ranges = whole.all_ranges ∙ ap (λ (area : Area). area.ranges)
      is in
      let leaves : length looks ≡ (area_of zones k).leaves = whole.all_leaves ∙ ap (λ (area : Area). area.leaves) is in
      let first : area.first_range.0 ≡ 0 + length before.resolved =
      ap (λ (area : Area). area.first_range.0) is ∙ sym so.ranges_count ∙ omega arith in
      record {
        ranges = ranges_append 0 before.resolved resolved so.ranges
            (subst (λ (n : ℕ). RangesFrom n resolved) first whole.ranges);
        ranges_count = omega (
          arith,
          length-append before.resolved resolved,
          so.ranges_count,
          count,
          ranges_next zones k there,
        );
        leaves_count = omega (
          arith,
          length-append before.looks looks,
          so.leaves_count,
          leaves,
          leaves_next zones k there,
        );
        seen = so.seen;
      }

  pub trace_ranges : (k : ℕ) (course : Course) → IsThrough k course → RangesFrom 0 (trace_of course).resolved
  trace_ranges k course so =
      ranges_append 0 course.resolved (drop (length course.resolved) course.seen.firsts) so.ranges
      (ranges_behind 0 (length course.resolved) course.seen.firsts so.seen.from)
