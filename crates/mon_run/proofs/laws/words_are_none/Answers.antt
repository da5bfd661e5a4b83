use Rattle.mon_run.proofs.LawLemmas.{words_none}
use Rattle.mon_run.proofs.laws.words_are_none.Goals as goal

pub returns : goal.returns
returns c = record { none = words_none }
