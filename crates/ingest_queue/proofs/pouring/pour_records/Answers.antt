use Rattle.ingest_queue.proofs.EndLemmas.{begun_so, both_taken, poured_on}
use Rattle.ingest_queue.proofs.pouring.pour_records.Goals as goal

pub pour_in-requires-clause-fit : goal.pour_in-requires-clause-fit
pour_in-requires-clause-fit g c κs within = both_taken _ _ _ c.requires.first c.requires.second

pub returns-clause-poured : goal.returns-clause-poured
returns-clause-poured g c =
    poured_on c.pour_in.result _ _ _ _ _ _ c.pour_in.ensures.all c.pour_in.ensures.offered c.pour_in.ensures.told c.pour_in.ensures.ends

pub returns-clause-begun : goal.returns-clause-begun
returns-clause-begun g c = begun_so _ _ _ _ _ _ c.pour_in.ensures.popped c.pour_in.ensures.offered c.pour_in.ensures.told
