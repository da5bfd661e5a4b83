use Rattle.std.proofs.Common.{◌∙◌, ap, arith, length}
use Rattle.mon_topo.proofs.KeptLemmas.{range_there}
use Rattle.mon_topo.proofs.SpanLemmas.{length-spans_from}
use Rattle.mon_value.specs.Histories.{range_numbered}
use Rattle.mon_topo.proofs.topology.Topology.range_at.Goals as goal

pub index-requires : goal.index-requires
index-requires c =
    let long = ap length c.self.invariant.1 ∙ length-spans_from 0 0 c.self.inside.zones ∙ ap length c.self.view_is in
    omega (arith, c.requires.there, long)

pub overflow_cast-result : goal.overflow_cast-result
overflow_cast-result c =
    let at = range_there c.self.inside.zones c.args.self.now c.self.inside.spans.items c.args.zone.0 c.args.place
    c.index.result.now c.self.view_is c.self.invariant.0 c.self.invariant.1 c.requires.there c.requires.within
    c.index.ensures in
    omega (arith, at.small)

pub overflow_add-result : goal.overflow_add-result
overflow_add-result c =
    let at = range_there c.self.inside.zones c.args.self.now c.self.inside.spans.items c.args.zone.0 c.args.place
    c.index.result.now c.self.view_is c.self.invariant.0 c.self.invariant.1 c.requires.there c.requires.within
    c.index.ensures in
    omega (arith, at.small)

pub returns : goal.returns
returns c =
    let at = range_there c.self.inside.zones c.args.self.now c.self.inside.spans.items c.args.zone.0 c.args.place
    c.index.result.now c.self.view_is c.self.invariant.0 c.self.invariant.1 c.requires.there c.requires.within
    c.index.ensures in
    record {
      range = ap range_numbered at.numbered;
      within = at.within;
      zoned = (omega (arith, at.numbered), omega (arith, at.numbered, c.requires.within));
    }
