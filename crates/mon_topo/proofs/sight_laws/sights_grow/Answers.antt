use Rattle.mon_topo.proofs.SightLemmas.{leaf_seen, range_seen}
use Rattle.mon_topo.proofs.sight_laws.sights_grow.Goals as goal

pub returns : goal.returns
returns c = record { leaf = leaf_seen; range = range_seen }
