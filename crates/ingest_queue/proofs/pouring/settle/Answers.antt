use Rattle.ingest_queue.specs.Coming.{turns}
use Rattle.ingest_queue.proofs.PourLemmas.{popped_by_all}
use Rattle.ingest_queue.proofs.pouring.settle.Goals as goal

pub keep-requires-clause-next : goal.keep-requires-clause-next
keep-requires-clause-next g c = popped_by_all _ (turns c.args.trail.now) c.in-Some.turn _ _ c.requires.got c.in-Some.ensures.popped
