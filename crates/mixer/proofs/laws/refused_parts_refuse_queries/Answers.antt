use Rattle.mixer.proofs.RefusedParts.{leaf_refused, zone_refused}
use Rattle.mixer.proofs.laws.refused_parts_refuse_queries.Goals as goal

pub returns-clause-leaf : goal.returns-clause-leaf
returns-clause-leaf c = leaf_refused

pub returns-clause-zone : goal.returns-clause-zone
returns-clause-zone c = zone_refused
