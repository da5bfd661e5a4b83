use Rattle.ingest_queue.proofs.EndLemmas.{fault_added, row_added}
use Rattle.ingest_queue.proofs.ends.Poured.add.Goals as goal

pub returns-in-Row : goal.returns-in-Row
returns-in-Row c = record { added = λ all was. row_added _ _ _ _ _ _ all _ _ c.in-Row.is was c.answer.ensures.answered }

pub returns-in-Fault : goal.returns-in-Fault
returns-in-Fault c = record { added = λ all was. fault_added _ _ _ _ _ all _ _ c.in-Fault.is was c.refuse.ensures.refused }
