use Rattle.core_store.proofs.WordLemmas.{one_raised}
use Rattle.core_store.proofs.kept_laws.one_bit_is_raised.Goals as goal

pub returns : goal.returns
returns c = record { one = one_raised }
