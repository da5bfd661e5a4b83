use Rattle.mon_value.proofs.RowOrderLemmas.{row_exact, row_total, sorted_rows-alike}
use Rattle.mon_value.proofs.SortingLemmas.{sorted_list-permutation}
use Rattle.mon_value.specs.Order.{row_cmp}
use Rattle.mon_value.proofs.orders.rows_are_ordered.Goals as goal

pub returns-clause-total : goal.returns-clause-total
returns-clause-total c = row_total

pub returns-clause-equal : goal.returns-clause-equal
returns-clause-equal c = row_exact

pub returns-clause-kept : goal.returns-clause-kept
returns-clause-kept c rows = sorted_list-permutation row_cmp rows

pub returns-clause-alike : goal.returns-clause-alike
returns-clause-alike c rows others = sorted_rows-alike rows others
