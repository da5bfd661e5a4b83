use Rattle.mixer.proofs.MixedDivisions.{leaf_load_of_parts}
use Rattle.mixer.proofs.laws.leaf_loads_are_of_parts.Goals as goal

pub returns : goal.returns
returns c = record { load = leaf_load_of_parts }
