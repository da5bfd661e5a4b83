use Rattle.std.proofs.Common.{◌∙◌, List, ap, arith, map}
use Rattle.std.proofs.lemmas.List.{take_all}
use Rattle.mon_topo.proofs.SpanLemmas.{leaves-spans_from}
use Rattle.mon_topo.specs.Zones.{leaf_counts}
use Rattle.mon_topo.specs.declared.spans.ZoneSpan.{ZoneSpan}
use Rattle.mon_topo.proofs.topology.Topology.leaf_counts.Goals as goal

pub returns : goal.returns
returns c =
    let counts = λ (spans : List ZoneSpan). map (λ (span : ZoneSpan). span.leaves) spans in
    record {
      counts = c.loop-span.invariant ∙ ap counts (take_all c.loop-span.span-index c.deref-span-items.result.now
          (omega (arith, c.loop-span-test.false))) ∙ ap counts (c.deref-span-items.ensures.value ∙ c.self.invariant.1)
          ∙ leaves-spans_from 0 0 c.self.inside.zones ∙ ap leaf_counts c.self.view_is;
    }
