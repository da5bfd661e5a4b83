use Rattle.raise_table.proofs.OnceLemmas.{leaf_stands_once}
use Rattle.raise_table.proofs.places.leaves_stand_once.Goals as goal

pub returns : goal.returns
returns c = record { once = leaf_stands_once }
