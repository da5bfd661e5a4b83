use Rattle.run_theory.proofs.Settled.{placed_in_run}
use Rattle.run_theory.proofs.laws.lines_ran_in_place.Goals as goal

pub returns : goal.returns
returns g c = record {
  placed = λ is_of whole begin end parts mine distinct first all ran.
      placed_in_run _ _ _ _ is_of whole begin end mine distinct first all parts ran;
}
