use Rattle.ingest_queue.proofs.EndLemmas.{poured_alike}
use Rattle.ingest_queue.proofs.files.pour_files.Goals as goal

pub returns-clause-poured : goal.returns-clause-poured
returns-clause-poured g c =
    poured_alike c.pour_records.result _ _ _ _ _ _ _ c.new.ensures.all c.new-2.ensures.all c.pour_records.ensures.poured
