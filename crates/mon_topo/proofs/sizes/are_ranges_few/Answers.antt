use Rattle.std.proofs.Common.{◌<◌, ap, arith, length}
use Rattle.std.proofs.lemmas.Bool.Decides.{nat_tests}
use Rattle.mon_topo.proofs.SizeLemmas.{parts_so_far}
use Rattle.mon_topo.specs.Zones.{ranges_in}
use Rattle.mon_topo.specs.declared.zones.ZoneSpec.{ZoneSpec}
use Rattle.mon_topo.proofs.sizes.are_ranges_few.Goals as goal

-- with those of the zone at hand there are more than may be
pub returns-in_default : goal.returns-in_default
returns-in_default c =
    let so_far = parts_so_far (λ (zone : ZoneSpec). zone.ranges) c.args.zones.now c.loop-zone.zone-index
    c.zone-item.result (omega (arith, c.loop-zone-test.true)) in
    let item = ap (λ (zone : ZoneSpec). length zone.ranges) c.zone-item.is in
    let over : 512 < length (ranges_in c.args.zones.now) =
    omega (arith, c.loop-zone.invariant, c.in_default.ensures, c.len.ensures.count, so_far, item) in
    record { few = grind (arith, nat_tests) }
