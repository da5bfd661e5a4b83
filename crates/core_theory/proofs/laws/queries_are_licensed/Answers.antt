use Rattle.core_theory.proofs.CoreLemmas.{new_woven, stays_woven}
use Rattle.core_theory.proofs.laws.queries_are_licensed.Goals as goal

pub returns : goal.returns
returns c = record { begins = new_woven; stays = stays_woven }
