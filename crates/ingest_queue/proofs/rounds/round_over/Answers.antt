use Rattle.std.proofs.Common.{rules}
use Rattle.ingest_queue.proofs.PourLemmas.{both_moved, on_one, on_other}
use Rattle.ingest_queue.proofs.rounds.round_over.Goals as goal

pub returns-clause-feeding : goal.returns-clause-feeding
returns-clause-feeding g c = on_one _ c.join_mut-fed.result.0 c.join_mut-fed.result.1 _ c.either.ensures.either (search rules)

pub returns-clause-other : goal.returns-clause-other
returns-clause-other g c = on_one _ c.join_mut-fed.result.0 c.join_mut-fed.result.1 _ c.either.ensures.either (search rules)

pub returns-clause-own : goal.returns-clause-own
returns-clause-own g c = on_other _ c.join_mut-fed.result.0 c.join_mut-fed.result.1 _ c.either.ensures.either (search rules)

pub returns-clause-ends : goal.returns-clause-ends
returns-clause-ends g c = on_other _ c.join_mut-fed.result.0 c.join_mut-fed.result.1 _ c.either.ensures.either (search rules)

pub returns-clause-moved : goal.returns-clause-moved
returns-clause-moved g c = both_moved c.join_mut-fed.result.0 c.join_mut-fed.result.1 _ _ _ _ _ c.either.ensures.either (search rules) (search rules)

pub returns-clause-popped : goal.returns-clause-popped
returns-clause-popped g c = search rules
