use Rattle.run_theory.proofs.Marks.{parts_grow}
use Rattle.run_theory.proofs.laws.runs_stay.Goals as goal

pub returns : goal.returns
returns g c = record {
  grown = λ whole more from to parts grows within goes ran.
      parts_grow _ _ _ _ _ grows whole more from to parts within goes ran;
}
