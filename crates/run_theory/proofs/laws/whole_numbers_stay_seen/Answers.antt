use Rattle.run_theory.proofs.Callers.{still_seen}
use Rattle.run_theory.proofs.laws.whole_numbers_stay_seen.Goals as goal

pub returns : goal.returns
returns g c = record { still = still_seen }
