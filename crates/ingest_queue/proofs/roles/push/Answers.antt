use Rattle.std.proofs.Common.{rules}
use Rattle.ingest_queue.proofs.RoleLemmas.{sends}
use Rattle.ingest_queue.proofs.roles.push.Goals as goal

pub try_push_as-requires-clause-rule : goal.try_push_as-requires-clause-rule
try_push_as-requires-clause-rule g c = sends _ _ _ _ _ c.requires.pass.1 c.requires.next

pub try_push_as-requires-in-Err-clause-rule : goal.try_push_as-requires-in-Err-clause-rule
try_push_as-requires-in-Err-clause-rule g c = sends _ _ _ _ _ (search rules) (search rules)
