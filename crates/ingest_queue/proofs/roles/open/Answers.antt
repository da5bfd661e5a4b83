use Rattle.ingest_queue.proofs.RoleLemmas.{begins}
use Rattle.ingest_queue.proofs.roles.open.Goals as goal

pub ruled-requires-clause-rule : goal.ruled-requires-clause-rule
ruled-requires-clause-rule g c = begins _
