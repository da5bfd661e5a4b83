use Rattle.run_theory.proofs.Tiles.{parts_tell}
use Rattle.run_theory.proofs.laws.lines_tell_all.Goals as goal

pub returns : goal.returns
returns g c = record {
  told = λ told tells whole from to parts n h own other ran.
      parts_tell _ _ _ _ told tells own other whole from to parts n h ran;
}
