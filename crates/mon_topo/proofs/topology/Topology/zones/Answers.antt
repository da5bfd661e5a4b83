use Rattle.std.proofs.Common.{List, subst}
use Rattle.mon_topo.specs.Faults.{AreLawfulZones}
use Rattle.mon_topo.specs.declared.zones.ZoneSpec.{ZoneSpec}
use Rattle.mon_topo.proofs.topology.Topology.zones.Goals as goal

pub returns-clause-lawful : goal.returns-clause-lawful
returns-clause-lawful c = subst (λ (zones : List ZoneSpec). AreLawfulZones zones) c.self.view_is c.self.invariant.0
