use Rattle.ingest_queue.proofs.RoleLemmas.{learns, never_full, sends, shared_may}
use Rattle.ingest_queue.proofs.roles.push_surely.Goals as goal

pub push_as-requires-clause-rule : goal.push_as-requires-clause-rule
push_as-requires-clause-rule g c =
    (sends _ _ _ _ _ (shared_may _ _ c.requires.pass.1) c.requires.next, learns _ _ _ c.requires.pass.1)

pub unreachable-requires : goal.unreachable-requires
unreachable-requires g c = never_full _ _ c.requires.room c.requires.empty c.in-Err.ensures.rule.2
