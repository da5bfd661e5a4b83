use Rattle.mon_topo.proofs.SightLemmas.{joined_seen}
use Rattle.mon_topo.proofs.sight_laws.sights_join.Goals as goal

pub returns : goal.returns
returns c = record { joined = joined_seen }
