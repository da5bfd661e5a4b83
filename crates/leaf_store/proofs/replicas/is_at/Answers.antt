use Rattle.std.proofs.Common.{rules}
use Rattle.leaf_store.proofs.ReplicaLemmas.{place_there}
use Rattle.leaf_store.proofs.replicas.is_at.Goals as goal

pub returns-clause-place : goal.returns-clause-place
returns-clause-place c = λ yes.
    place_there c.args.replicas.now.entries c.args.replica c.args.place c.len.ensures.unique (search rules)
