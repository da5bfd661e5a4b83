use Rattle.ingest_queue.proofs.PourLemmas.{is_taken, nothing_written, one_written}
use Rattle.ingest_queue.proofs.writers.keep.Goals as goal

pub answer-requires : goal.answer-requires
answer-requires g c = record { taken = is_taken _ _ _ _ c.requires.fit c.requires.next }

pub returns-in-Ok-clause-written : goal.returns-in-Ok-clause-written
returns-in-Ok-clause-written g c =
    one_written _ c.answer.ensures.takes c.in-Ok.ensures.offered c.in-Ok.ensures.answered c.in-Ok.ensures.told c.note.ensures.noted

pub returns-in-Err-clause-written : goal.returns-in-Err-clause-written
returns-in-Err-clause-written g c = nothing_written c.answer.ensures.takes c.in-Err.ensures.kept c.in-Err.ensures.still
