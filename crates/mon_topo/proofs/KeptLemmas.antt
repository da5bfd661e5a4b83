-- What is kept beside the zones says what is asked of them.
use Rattle.std.proofs.Common.{◌≡◌, ◌∙◌, ℕ, ◌+◌, ◌-◌, ◌<◌, ◌≤◌, true, false, List, Some, get_or, length, ap, sym, subst}
use Rattle.std.proofs.Common.{arith}
use Rattle.std.specs.List.Sorted.{IsPartitionedBy, IsPartitionPoint}
use Rattle.std.specs.Option.{option_map}
use Rattle.mon_value.specs.declared.rows.Target.{Target}
use Rattle.mon_topo.proofs.BoundLemmas.{has_one, point_found}
use Rattle.mon_topo.proofs.LawfulLemmas.{few, zone_in_order}
use Rattle.mon_topo.proofs.SizeLemmas.{parts_so_far}
use Rattle.mon_topo.proofs.SpanLemmas.{get_or-spans_from}
use Rattle.mon_topo.specs.Locations.{is_bound_below, last_within, HasOneRange, IsHeldAt}
use Rattle.mon_topo.specs.Faults.{AreLawfulZones}
use Rattle.mon_topo.specs.Indexed.{spans_from}
use Rattle.mon_value.specs.Histories.{range_numbered}
use Rattle.mon_topo.specs.Zones.{first_leaf, first_range, no_zone, ranges_in, zone_at}
use Rattle.mon_topo.specs.declared.spans.ZoneSpan.{ZoneSpan}
use Rattle.mon_topo.specs.declared.zones.RangeSpec.{RangeSpec}
use Rattle.mon_topo.specs.declared.zones.ZoneSpec.{ZoneSpec}

-- the span of a zone
pub record IsSpanOf (zones : List ZoneSpec) (i : ℕ) (span : ZoneSpan) : Type 0 where
  pub first_leaf : span.first_leaf ≡ first_leaf zones i
  pub leaves : span.leaves ≡ length (zone_at zones i).leaves
  pub first_range : span.first_range ≡ first_range zones i
  pub ranges : span.ranges ≡ length (zone_at zones i).ranges

pub span_kept : (zones : List ZoneSpec) (spans : List ZoneSpan) (i : ℕ) (span : ZoneSpan) → spans ≡ spans_from 0 0 zones
    → i < length zones → span ≡ get_or spans i span → IsSpanOf zones i span
span_kept zones spans i span is there at =
    let same = at ∙ ap (λ (all : List ZoneSpan). get_or all i span) is ∙ get_or-spans_from 0 0 zones i span there in
    record {
      first_leaf = ap (λ (s : ZoneSpan). s.first_leaf) same ∙ omega arith;
      leaves = ap (λ (s : ZoneSpan). s.leaves) same;
      first_range = ap (λ (s : ZoneSpan). s.first_range) same ∙ omega arith;
      ranges = ap (λ (s : ZoneSpan). s.ranges) same;
    }

-- ---- the range that a binary search finds

pub ranges_parted : (zones : List ZoneSpec) (i : ℕ) (target : Target) (ranges : List RangeSpec) → AreLawfulZones zones
    → i < length zones
    → ranges ≡ (zone_at zones i).ranges → IsPartitionedBy (λ range. is_bound_below range.from target) ranges
ranges_parted zones i target ranges lawful there is =
    subst (λ (rs : List RangeSpec). IsPartitionedBy (λ (range : RangeSpec). is_bound_below range.from target) rs)
    (sym is)
    ((zone_in_order zones lawful.ordered i there).parts target)

-- which is behind the place that is wanted
pub range_searched : (zones : List ZoneSpec) (i : ℕ) (target : Target) (ranges : List RangeSpec) (p : ℕ)
    → AreLawfulZones zones → i < length zones
    → ranges ≡ (zone_at zones i).ranges → p ≤ length ranges
    → IsPartitionPoint (λ range. is_bound_below range.from target ≡ true) (λ range. is_bound_below range.from target
    ≡ false)
    ranges p
    → (0 < p) × (last_within target (zone_at zones i).ranges ≡ Some (p - 1))
range_searched zones i target ranges p lawful there is le point =
    let own = (zone_at zones i).ranges in
    let order = zone_in_order zones lawful.ordered i there in
    let at : IsPartitionPoint (λ (range : RangeSpec). is_bound_below range.from target ≡ true) (λ (range : RangeSpec).
    is_bound_below range.from target ≡ false) own p =
    subst (λ (rs : List RangeSpec). IsPartitionPoint (λ (range : RangeSpec). is_bound_below range.from target ≡ true)
    (λ (range : RangeSpec). is_bound_below range.from target ≡ false) rs p) is point in
    let long : length ranges ≡ length own = ap length is in
    point_found target own p order (omega arith) at

-- a place that holds the target is the one that is wanted
pub held_last : (zones : List ZoneSpec) (i : ℕ) (target : Target) (ranges : List RangeSpec) (place : ℕ)
    → AreLawfulZones zones → i < length zones → ranges ≡ (zone_at zones i).ranges → IsHeldAt target ranges place
    → last_within target (zone_at zones i).ranges ≡ Some place
held_last zones i target ranges place lawful there is held =
    let one = has_one target (zone_at zones i).ranges (zone_in_order zones lawful.ordered i there) in
    let same : place ≡ one.0 = one.3 place (subst (λ (rs : List RangeSpec). IsHeldAt target rs place) is held) in
    one.1 ∙ ap Some (sym same)

-- ---- the range at a place of a zone

pub record IsRangeAt (zones : List ZoneSpec) (i place number : ℕ) : Type 0 where
  pub numbered : number ≡ first_range zones i + place
  pub small : number < 512
  pub within : number < length (ranges_in zones)

pub range_there : (own zones : List ZoneSpec) (spans : List ZoneSpan) (i place : ℕ) (span : ZoneSpan)
    → own ≡ zones → AreLawfulZones own → spans ≡ spans_from 0 0 own → i < length zones
    → place < length (zone_at zones i).ranges → span ≡ get_or spans i span
    → IsRangeAt zones i place (span.first_range + place)
range_there own zones spans i place span is lawful kept there within at =
    let these = span_kept zones spans i span (kept ∙ ap (spans_from 0 0) is) there at in
    let most = few zones (subst AreLawfulZones is lawful).few in
    let so_far = parts_so_far (λ (zone : ZoneSpec). zone.ranges) zones i no_zone there in
    record {
      numbered = ap (λ first. first + place) these.first_range;
      small = omega (arith, within, so_far, these.first_range, most.ranges_few);
      within = omega (arith, within, so_far, these.first_range);
    }

-- each target has one range
pub one_range : (zones : List ZoneSpec) → AreLawfulZones zones → (zone : ℕ) (target : Target) → zone < length zones
    → HasOneRange zones zone target
one_range zones lawful zone target there =
    let one = has_one target (zone_at zones zone).ranges (zone_in_order zones lawful.ordered zone there) in
    record {
      place = one.0;
      held = one.2;
      only = one.3;
      found = ap (option_map (λ (j : ℕ). range_numbered (first_range zones zone + j))) one.1;
    }
