use Rattle.run_theory.proofs.Writings.{one_more}
use Rattle.run_theory.proofs.laws.runs_go_on.Goals as goal

pub returns : goal.returns
returns g c = record {
  more = λ begin before after parts part grows ran wrote. one_more _ _ _ _ _ grows begin before after parts part ran
      wrote;
}
