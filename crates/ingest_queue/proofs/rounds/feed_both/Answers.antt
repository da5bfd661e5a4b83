use Rattle.std.proofs.Common.{rules}
use Rattle.ingest_queue.proofs.PourLemmas.{both_fed, on_one, on_other}
use Rattle.ingest_queue.proofs.rounds.feed_both.Goals as goal

pub returns-clause-feeding : goal.returns-clause-feeding
returns-clause-feeding g c = on_one _ c.join_mut-one.result.0 c.join_mut-one.result.1 _ c.either.ensures.either (search rules)

pub returns-clause-other : goal.returns-clause-other
returns-clause-other g c = on_other _ c.join_mut-one.result.0 c.join_mut-one.result.1 _ c.either.ensures.either (search rules)

pub returns-clause-fed : goal.returns-clause-fed
returns-clause-fed g c = both_fed c.join_mut-one.result.0 c.join_mut-one.result.1 _ _ _ _ _ c.either.ensures.either (search rules) (search rules)
