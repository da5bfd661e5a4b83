use Rattle.run_theory.proofs.Owned.{of_some}
use Rattle.run_theory.proofs.laws.every_entry_is_of_a_line.Goals as goal

pub returns : goal.returns
returns g c = record {
  theirs = λ is_of whole from to parts h k e theirs ran there low high.
      of_some _ _ _ _ is_of whole theirs from to parts h k e ran there low high;
}
