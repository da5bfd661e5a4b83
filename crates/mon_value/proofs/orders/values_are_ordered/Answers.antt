use Rattle.mon_value.proofs.OrderLemmas.{value_total, exact_values}
use Rattle.mon_value.proofs.orders.values_are_ordered.Goals as goal

pub returns-clause-total : goal.returns-clause-total
returns-clause-total c = value_total

pub returns-clause-equal : goal.returns-clause-equal
returns-clause-equal c = exact_values
