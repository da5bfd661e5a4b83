use Rattle.std.proofs.Common.{◌∙◌, ◌<◌, List, length, subst}
use Rattle.mon_value.specs.Same.{same_text}
use Rattle.mon_topo.proofs.PositionLemmas.{found_within}
use Rattle.mon_topo.specs.Zones.{leaves_in}
use Rattle.mon_topo.specs.declared.zones.ZoneSpec.{ZoneSpec}
use Rattle.mon_topo.proofs.topology.Topology.leaf_named.Goals as goal

pub returns-in-Some-clause-within : goal.returns-in-Some-clause-within
returns-in-Some-clause-within c =
    let zones = c.self.inside.zones in
    let found = found_within (same_text c.args.name.now) (leaves_in zones) c.in-Some.number (c.in-Some.ensures.found
    ∙ c.self.invariant.5 c.args.name.now) in
    subst (λ (all : List ZoneSpec). c.in-Some.number < length (leaves_in all)) c.self.view_is found
