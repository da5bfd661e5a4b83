use Rattle.mon_hints.proofs.FormulaLemmas.{holds_more}
use Rattle.mon_hints.proofs.laws.formulas_stay_true.Goals as goal

pub returns : goal.returns
returns c = record { stays = holds_more }
