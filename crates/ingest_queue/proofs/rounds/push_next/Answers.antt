use Rattle.ingest_queue.proofs.PourLemmas.{first_taken, second_taken}
use Rattle.ingest_queue.proofs.rounds.push_next.Goals as goal

pub push_surely-requires-clause-next : goal.push_surely-requires-clause-next
push_surely-requires-clause-next g c =
    first_taken _ _ c.in-Ok-Some.turn _ _ _ _ _ c.in-Ok-Some.field-0-is c.in-Ok-Some.ensures.taken c.requires.way

pub push_surely-requires-in-Ok-Some-take-clause-next : goal.push_surely-requires-in-Ok-Some-take-clause-next
push_surely-requires-in-Ok-Some-take-clause-next g c =
    second_taken _ _ c.in-Ok-Some-take.turn _ _ _ _ _ c.in-Ok-Some-take.field-0-is c.in-Ok-Some-take.ensures.taken c.requires.way
