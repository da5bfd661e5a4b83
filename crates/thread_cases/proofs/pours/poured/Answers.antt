use Rattle.thread_cases.proofs.PourLemmas.{all_taken}
use Rattle.thread_cases.proofs.pours.poured.Goals as goal

pub pour-requires-clause-first : goal.pour-requires-clause-first
pour-requires-clause-first g c κs within = all_taken _

pub pour-requires-clause-second : goal.pour-requires-clause-second
pour-requires-clause-second g c κs within = all_taken _
