use Rattle.std.proofs.Common.{◌≡◌, ◌∙◌, ◌<◌, List, ap, arith, length, rules, sym}
use Rattle.std.proofs.lemmas.List.Sorted.{IsPartitionPoint-from_clause}
use Rattle.std.proofs.lemmas.Option.{get_or_from_slice_get}
use Rattle.mon_topo.proofs.KeptLemmas.{range_searched, ranges_parted}
use Rattle.mon_topo.specs.Locations.{is_bound_below, last_within}
use Rattle.mon_topo.specs.Zones.{no_zone, zone_at}
use Rattle.mon_topo.specs.declared.zones.RangeSpec.{RangeSpec}
use Rattle.mon_topo.specs.declared.zones.ZoneSpec.{ZoneSpec}
use Rattle.mon_topo.proofs.topology.Topology.place_of.Goals as goal

pub overflow_sub-result : goal.overflow_sub-result
overflow_sub-result c =
    let zones = c.self.inside.zones in
    let i = c.args.zone.0 in
    let target = c.args.target.now in
    let ranges : List RangeSpec = c.as_slice-ranges.result.now in
    let there : i < length zones = omega (arith, c.requires, ap length c.self.view_is) in
    let is : ranges ≡ (zone_at zones i).ranges = c.as_slice-ranges.ensures.items
    ∙ ap (λ (zone : ZoneSpec). zone.ranges)
    (sym (get_or_from_slice_get zones i c.get.result.now no_zone c.get.ensures.item)) in
    let parted = ranges_parted zones i target ranges c.self.invariant.0 there is in
    let point = IsPartitionPoint-from_clause (λ (range : RangeSpec). is_bound_below range.from target) ranges
    c.partition_point-above.result c.partition_point-above.ensures.partitioned parted (λ a r q k. search rules) in
    let found = range_searched zones i target ranges c.partition_point-above.result c.self.invariant.0 there is
    c.partition_point-above.ensures.bound point in
    omega (arith, found.0)

pub returns : goal.returns
returns c =
    let zones = c.self.inside.zones in
    let i = c.args.zone.0 in
    let target = c.args.target.now in
    let ranges : List RangeSpec = c.as_slice-ranges.result.now in
    let there : i < length zones = omega (arith, c.requires, ap length c.self.view_is) in
    let is : ranges ≡ (zone_at zones i).ranges = c.as_slice-ranges.ensures.items
    ∙ ap (λ (zone : ZoneSpec). zone.ranges)
    (sym (get_or_from_slice_get zones i c.get.result.now no_zone c.get.ensures.item)) in
    let parted = ranges_parted zones i target ranges c.self.invariant.0 there is in
    let point = IsPartitionPoint-from_clause (λ (range : RangeSpec). is_bound_below range.from target) ranges
    c.partition_point-above.result c.partition_point-above.ensures.partitioned parted (λ a r q k. search rules) in
    let found = range_searched zones i target ranges c.partition_point-above.result c.self.invariant.0 there is
    c.partition_point-above.ensures.bound point in
    record {
      last = ap (λ (all : List ZoneSpec). last_within target (zone_at all i).ranges) (sym c.self.view_is)
          ∙ found.1;
    }
