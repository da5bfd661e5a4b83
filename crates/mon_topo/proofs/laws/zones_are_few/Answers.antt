use Rattle.mon_topo.proofs.LawfulLemmas.{few}
use Rattle.mon_topo.proofs.laws.zones_are_few.Goals as goal

pub returns : goal.returns
returns c = record { few = few c.args.topology.now c.zones-zones.ensures.lawful.few }
