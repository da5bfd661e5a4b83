use Rattle.run_laws.proofs.StopLemmas.{reads_failed}
use Rattle.run_laws.proofs.laws.reads_failed.Goals as goal

pub returns : goal.returns
returns c = record { failed = reads_failed }
