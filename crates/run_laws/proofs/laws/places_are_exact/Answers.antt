use Rattle.run_laws.proofs.PlaceLemmas.{places_exact}
use Rattle.run_laws.proofs.laws.places_are_exact.Goals as goal

pub returns : goal.returns
returns c = record { exact = places_exact }
