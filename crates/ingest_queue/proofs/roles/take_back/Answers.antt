use Rattle.ingest_queue.proofs.RoleLemmas.{merges}
use Rattle.ingest_queue.proofs.roles.take_back.Goals as goal

pub absorb-requires-clause-rule : goal.absorb-requires-clause-rule
absorb-requires-clause-rule g c = merges _ _ _ _ _ g.X.OneFile.second c.requires.2
