use Rattle.run_laws.proofs.StopLemmas.{files_too_long}
use Rattle.run_laws.proofs.laws.files_too_long.Goals as goal

pub returns : goal.returns
returns c = record { long = files_too_long }
