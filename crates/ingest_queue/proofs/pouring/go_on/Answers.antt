use Rattle.std.proofs.Common.{rules}
use Rattle.ingest_queue.proofs.PourLemmas.{moved_on, still}
use Rattle.ingest_queue.proofs.pouring.go_on.Goals as goal

pub returns-in-Ok-false-clause-moved : goal.returns-in-Ok-false-clause-moved
returns-in-Ok-false-clause-moved g c =
    moved_on c.settle.result _ _ _ _ _ _ _ (still c.in-Ok-false.field-0 _ _ (search rules) c.in-Ok-false.ensures.moved) c.settle.ensures.moved
