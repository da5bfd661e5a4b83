use Rattle.std.proofs.Common.{ap, arith, length}
use Rattle.mon_topo.proofs.LawfulLemmas.{few}
use Rattle.mon_topo.proofs.SizeLemmas.{parts_so_far}
use Rattle.mon_topo.specs.declared.zones.ZoneSpec.{ZoneSpec}
use Rattle.mon_topo.proofs.spans.spans_of.Goals as goal

pub overflow_cast-leaves : goal.overflow_cast-leaves
overflow_cast-leaves c =
    let most = few c.args.zones.now c.requires.few in
    let so_far = parts_so_far (λ (zone : ZoneSpec). zone.leaves) c.args.zones.now c.loop-zone.zone-index
    c.zone-item.result (omega (arith, c.loop-zone-test.true)) in
    let item = ap (λ (zone : ZoneSpec). length zone.leaves) c.zone-item.is in
    omega (arith, c.len-leaves.ensures.count)

pub overflow_cast-ranges : goal.overflow_cast-ranges
overflow_cast-ranges c =
    let most = few c.args.zones.now c.requires.few in
    let so_far = parts_so_far (λ (zone : ZoneSpec). zone.ranges) c.args.zones.now c.loop-zone.zone-index
    c.zone-item.result (omega (arith, c.loop-zone-test.true)) in
    let item = ap (λ (zone : ZoneSpec). length zone.ranges) c.zone-item.is in
    omega (arith, c.len-ranges.ensures.count)

pub overflow_add-first_leaf : goal.overflow_add-first_leaf
overflow_add-first_leaf c =
    let most = few c.args.zones.now c.requires.few in
    let so_far = parts_so_far (λ (zone : ZoneSpec). zone.leaves) c.args.zones.now c.loop-zone.zone-index
    c.zone-item.result (omega (arith, c.loop-zone-test.true)) in
    let item = ap (λ (zone : ZoneSpec). length zone.leaves) c.zone-item.is in
    omega (arith, c.len-leaves.ensures.count, c.loop-zone.invariant.1)

pub overflow_add-first_range : goal.overflow_add-first_range
overflow_add-first_range c =
    let most = few c.args.zones.now c.requires.few in
    let so_far = parts_so_far (λ (zone : ZoneSpec). zone.ranges) c.args.zones.now c.loop-zone.zone-index
    c.zone-item.result (omega (arith, c.loop-zone-test.true)) in
    let item = ap (λ (zone : ZoneSpec). length zone.ranges) c.zone-item.is in
    omega (arith, c.len-ranges.ensures.count, c.loop-zone.invariant.2)
