use Rattle.std.proofs.Common.{◌∙◌, ◌<◌, List, length, subst}
use Rattle.std.specs.List.{list_any}
use Rattle.mon_value.specs.Same.{same_text}
use Rattle.mon_topo.proofs.PositionLemmas.{found_within}
use Rattle.mon_topo.specs.declared.zones.ZoneSpec.{ZoneSpec}
use Rattle.mon_topo.proofs.topology.Topology.zone_near.Goals as goal

pub returns-in-Some-clause-within : goal.returns-in-Some-clause-within
returns-in-Some-clause-within c =
    let zones = c.self.inside.zones in
    let found = found_within (λ (zone : ZoneSpec). list_any (same_text c.args.location.now) zone.locations) zones
    c.in-Some.number (c.in-Some.ensures.found ∙ c.self.invariant.4 c.args.location.now) in
    subst (λ (all : List ZoneSpec). c.in-Some.number < length all) c.self.view_is found
