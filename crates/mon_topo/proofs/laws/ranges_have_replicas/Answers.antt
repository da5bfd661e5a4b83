use Rattle.mon_topo.proofs.ReplicaLemmas.{has_replicas}
use Rattle.mon_topo.proofs.laws.ranges_have_replicas.Goals as goal

pub returns : goal.returns
returns c = record { replicas = has_replicas c.args.topology.now c.zones-zones.ensures.lawful }
