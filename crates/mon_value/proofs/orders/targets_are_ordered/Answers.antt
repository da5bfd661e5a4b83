use Rattle.mon_value.proofs.OrderLemmas.{target_total, exact_targets}
use Rattle.mon_value.proofs.orders.targets_are_ordered.Goals as goal

pub returns-clause-total : goal.returns-clause-total
returns-clause-total c = target_total

pub returns-clause-equal : goal.returns-clause-equal
returns-clause-equal c = exact_targets
