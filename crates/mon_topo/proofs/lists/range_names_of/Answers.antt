use Rattle.std.proofs.Common.{◌∙◌, ◌+◌, ◌++◌, ℕ, List, ap, arith, length, length-append, subst, sym, take}
use Rattle.mon_topo.proofs.LawfulLemmas.{few}
use Rattle.mon_topo.proofs.RangeNameLemmas.{length-names_from, length-range_names, range_names_more}
use Rattle.mon_topo.proofs.SizeLemmas.{parts_so_far}
use Rattle.mon_topo.specs.Indexed.{FindsPlaces}
use Rattle.mon_topo.specs.Zones.{names_from, range_names}
use Rattle.mon_topo.specs.declared.zones.RangeSpec.{RangeSpec}
use Rattle.mon_topo.specs.declared.zones.ZoneSpec.{ZoneSpec}
use Rattle.mon_topo.proofs.lists.range_names_of.Goals as goal

pub add_range_names-requires : goal.add_range_names-requires
add_range_names-requires c =
    let zones = c.args.zones.now in
    let i = c.loop-zone.zone-index in
    let most = few zones c.requires.few in
    let so_far = parts_so_far (λ (zone : ZoneSpec). zone.ranges) zones i c.zone-item.result
    (omega (arith, c.loop-zone-test.true)) in
    let item = ap (λ (zone : ZoneSpec). length zone.ranges) c.zone-item.is in
    let first = c.loop-zone.invariant.1 ∙ length-range_names (take i zones) in
    let given = ap length c.as_slice.ensures.items in
    omega arith

pub overflow_cast-first : goal.overflow_cast-first
overflow_cast-first c =
    let zones = c.args.zones.now in
    let i = c.loop-zone.zone-index in
    let most = few zones c.requires.few in
    let so_far = parts_so_far (λ (zone : ZoneSpec). zone.ranges) zones i c.zone-item.result
    (omega (arith, c.loop-zone-test.true)) in
    let item = ap (λ (zone : ZoneSpec). length zone.ranges) c.zone-item.is in
    omega (arith, c.len.ensures.count)

pub overflow_add-first : goal.overflow_add-first
overflow_add-first c =
    let zones = c.args.zones.now in
    let i = c.loop-zone.zone-index in
    let most = few zones c.requires.few in
    let so_far = parts_so_far (λ (zone : ZoneSpec). zone.ranges) zones i c.zone-item.result
    (omega (arith, c.loop-zone-test.true)) in
    let item = ap (λ (zone : ZoneSpec). length zone.ranges) c.zone-item.is in
    let first = c.loop-zone.invariant.1 ∙ length-range_names (take i zones) in
    omega (arith, c.len.ensures.count)

pub loop-zone-preserved : goal.loop-zone-preserved
loop-zone-preserved c =
    let zones = c.args.zones.now in
    let i = c.loop-zone.zone-index in
    let zone : ZoneSpec = c.zone-item.result in
    let before = range_names (take i zones) in
    let more = range_names_more zones i zone (omega (arith, c.loop-zone-test.true)) c.zone-item.is in
    let given : List RangeSpec = c.as_slice.result.now in
    let found : FindsPlaces c.add_range_names.new.names (before ++ names_from zone.name 0 given) =
    c.in_ok-add_range_names.ensures.added before (sym c.loop-zone.invariant.1) c.loop-zone.invariant.0 in
    let all : FindsPlaces c.add_range_names.new.names (before ++ names_from zone.name 0 zone.ranges) =
    subst (λ (ranges : List RangeSpec). FindsPlaces c.add_range_names.new.names (before ++ names_from zone.name 0
    ranges)) c.as_slice.ensures.items found in
    let count = ap length (sym more) ∙ length-append before (names_from zone.name 0 zone.ranges)
    ∙ ap (λ (n : ℕ). length before + n) (length-names_from zone.name 0 zone.ranges) in (
      subst (λ (texts : List (List ℕ)). FindsPlaces c.add_range_names.new.names texts) more all,
      omega (arith, c.len.ensures.count, c.loop-zone.invariant.1),
    )
