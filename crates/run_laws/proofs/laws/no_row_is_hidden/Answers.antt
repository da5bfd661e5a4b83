use Rattle.run_laws.proofs.HidingLemmas.{no_row_is_hidden}
use Rattle.run_laws.proofs.laws.no_row_is_hidden.Goals as goal

pub returns : goal.returns
returns c = record { stands = no_row_is_hidden }
