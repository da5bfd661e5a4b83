-- the counts so far are those of the spans so far
use Rattle.std.proofs.Common.{◌≡◌, map, take}
use Rattle.mon_topo.specs.declared.spans.ZoneSpan.{ZoneSpan}
use Rattle.mon_topo.proofs.topology.Topology.leaf_counts.Given as goal

abbrev pub invariant-loop-span : goal.invariant-loop-span
invariant-loop-span l = l.counts ≡ map (λ (span : ZoneSpan). span.leaves) (take l.span-index l.span-items)
