use Rattle.std.proofs.Common.{◌≡◌, ◌∙◌, ◌<◌, List, arith, ap, length, refl, sym}
use Rattle.std.proofs.lemmas.Option.{get_or_from_slice_get}
use Rattle.mon_topo.proofs.KeptLemmas.{held_last}
use Rattle.mon_topo.specs.Locations.{last_within}
use Rattle.mon_topo.specs.Zones.{no_zone, zone_at}
use Rattle.mon_topo.specs.declared.zones.RangeSpec.{RangeSpec}
use Rattle.mon_topo.specs.declared.zones.ZoneSpec.{ZoneSpec}
use Rattle.mon_topo.proofs.topology.Topology.place_near.Goals as goal

pub returns-then-is_held_at : goal.returns-then-is_held_at
returns-then-is_held_at c =
    let zones = c.self.inside.zones in
    let i = c.args.zone.0 in
    let target = c.args.target.now in
    let ranges : List RangeSpec = c.as_slice-ranges.result.now in
    let there : i < length zones = omega (arith, c.requires, ap length c.self.view_is) in
    let is : ranges ≡ (zone_at zones i).ranges = c.as_slice-ranges.ensures.items
    ∙ ap (λ (zone : ZoneSpec). zone.ranges)
    (sym (get_or_from_slice_get zones i c.get.result.now no_zone c.get.ensures.item)) in
    record {
      last = ap (λ (all : List ZoneSpec). last_within target (zone_at all i).ranges) (sym c.self.view_is)
          ∙ held_last zones i target ranges c.args.guess c.self.invariant.0 there is
          (c.if-is_held_at.ensures.held refl);
    }
