use Rattle.std.proofs.Common.{◌∙◌, ◌<◌, List, ap, arith, length}
use Rattle.mon_topo.proofs.KeptLemmas.{span_kept}
use Rattle.mon_topo.proofs.SpanLemmas.{length-spans_from}
use Rattle.mon_topo.specs.Zones.{first_leaf, zone_at}
use Rattle.mon_topo.specs.declared.zones.ZoneSpec.{ZoneSpec}
use Rattle.mon_topo.proofs.topology.Topology.leaves_of.Goals as goal

pub index-span-requires : goal.index-span-requires
index-span-requires c =
    let long = ap length c.self.invariant.1 ∙ length-spans_from 0 0 c.self.inside.zones ∙ ap length c.self.view_is in
    omega arith

pub returns-clause-first : goal.returns-clause-first
returns-clause-first c =
    let zones = c.self.inside.zones in
    let there : c.args.zone.0 < length zones = omega (arith, c.requires, ap length c.self.view_is) in
    let span = span_kept zones c.self.inside.spans.items c.args.zone.0 c.index-span.result.now c.self.invariant.1 there
    c.index-span.ensures in
    span.first_leaf ∙ ap (λ (all : List ZoneSpec). first_leaf all c.args.zone.0) c.self.view_is

pub returns-clause-count : goal.returns-clause-count
returns-clause-count c =
    let zones = c.self.inside.zones in
    let there : c.args.zone.0 < length zones = omega (arith, c.requires, ap length c.self.view_is) in
    let span = span_kept zones c.self.inside.spans.items c.args.zone.0 c.index-span.result.now c.self.invariant.1 there
    c.index-span.ensures in
    span.leaves ∙ ap (λ (all : List ZoneSpec). length (zone_at all c.args.zone.0).leaves) c.self.view_is
