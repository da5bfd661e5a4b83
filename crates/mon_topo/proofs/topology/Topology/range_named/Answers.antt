use Rattle.std.proofs.Common.{◌∙◌, ◌<◌, List, arith, length, subst}
use Rattle.mon_value.specs.Same.{same_text}
use Rattle.mon_topo.proofs.PositionLemmas.{found_within}
use Rattle.mon_topo.proofs.RangeNameLemmas.{length-range_names}
use Rattle.mon_topo.specs.Zones.{range_names, ranges_in}
use Rattle.mon_topo.specs.declared.zones.ZoneSpec.{ZoneSpec}
use Rattle.mon_topo.proofs.topology.Topology.range_named.Goals as goal

pub returns-in-Some-clause-within : goal.returns-in-Some-clause-within
returns-in-Some-clause-within c =
    let zones = c.self.inside.zones in
    let found = found_within (same_text c.args.name.now) (range_names zones) c.in-Some.number (c.in-Some.ensures.found
    ∙ c.self.invariant.6 c.args.name.now) in
    subst (λ (all : List ZoneSpec). c.in-Some.number < length (ranges_in all)) c.self.view_is
    (omega (arith, found, length-range_names zones))
