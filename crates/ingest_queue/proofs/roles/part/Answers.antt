use Rattle.ingest_queue.proofs.RoleLemmas.{forks}
use Rattle.ingest_queue.proofs.roles.part.Goals as goal

pub another-requires-clause-rule : goal.another-requires-clause-rule
another-requires-clause-rule g c = forks _ _ _ g.X.OneFile.second c.requires.1
