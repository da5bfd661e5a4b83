use Rattle.std.proofs.Common.{rules}
use Rattle.ingest_queue.proofs.RoleLemmas.{gets}
use Rattle.ingest_queue.proofs.roles.pop.Goals as goal

pub try_pop_as-requires-clause-rule : goal.try_pop_as-requires-clause-rule
try_pop_as-requires-clause-rule g c = gets _ _ _ c.requires.1

pub try_pop_as-requires-in-None-clause-rule : goal.try_pop_as-requires-in-None-clause-rule
try_pop_as-requires-in-None-clause-rule g c = gets _ _ _ (search rules)
