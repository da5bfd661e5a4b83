use Rattle.ingest_queue.proofs.RoleLemmas.{emptied, gets, learns, none_tells}
use Rattle.ingest_queue.proofs.roles.pop_surely.Goals as goal

pub pop_as-requires-clause-rule : goal.pop_as-requires-clause-rule
pop_as-requires-clause-rule g c = (gets _ _ _ c.requires.1.2, learns _ _ _ c.requires.1)

pub returns-clause-popped : goal.returns-clause-popped
returns-clause-popped g c =
    none_tells c.pop_as.result _ _ _ (λ empty. (empty.0, emptied _ empty.1.0 empty.1.1 empty.1.2)) c.pop_as.ensures.rule
