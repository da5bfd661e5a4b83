use Rattle.mon_run.proofs.LawLemmas.{end_reached}
use Rattle.mon_run.proofs.laws.ends_are_reached.Goals as goal

pub returns : goal.returns
returns c = record { ends = end_reached }
