use Rattle.mon_value.proofs.CountsLemmas.{counts_added-comm, counts_added-assoc, sum-counts_added}
use Rattle.mon_value.proofs.distributions.merging_is_orderless.Goals as goal

pub returns-clause-commutes : goal.returns-clause-commutes
returns-clause-commutes c = counts_added-comm

pub returns-clause-associates : goal.returns-clause-associates
returns-clause-associates c = counts_added-assoc

pub returns-clause-totals : goal.returns-clause-totals
returns-clause-totals c = sum-counts_added
