use Rattle.mon_topo.proofs.KeptLemmas.{one_range}
use Rattle.mon_topo.proofs.laws.targets_have_one_range.Goals as goal

pub returns : goal.returns
returns c = record { one = one_range c.args.topology.now c.zones-zones.ensures.lawful }
