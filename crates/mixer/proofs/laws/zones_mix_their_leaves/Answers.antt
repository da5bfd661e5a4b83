use Rattle.mixer.proofs.MixedDivisions.{leaf_loads_mixed, zone_joins_mixed, zone_part_mixed}
use Rattle.mixer.proofs.laws.zones_mix_their_leaves.Goals as goal

pub returns : goal.returns
returns c = record { pieces = zone_part_mixed; loads = leaf_loads_mixed; joins = zone_joins_mixed }
