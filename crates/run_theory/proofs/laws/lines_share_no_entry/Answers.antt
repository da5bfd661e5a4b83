use Rattle.run_theory.proofs.Settled.{alone_beside, alone_later}
use Rattle.run_theory.proofs.laws.lines_share_no_entry.Goals as goal

pub returns : goal.returns
returns g c = record {
  later = λ is_of whole begin end parts mine distinct first all ran.
      alone_later _ _ _ _ is_of whole begin end mine distinct first all parts ran;
  beside = λ is_of whole begin end parts mine distinct first all ran.
      alone_beside _ _ _ _ is_of whole begin end mine distinct first all parts ran;
}
