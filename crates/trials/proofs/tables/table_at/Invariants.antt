-- what is left goes on from the sum so far to the whole table, and the sum is of no more cells than bytes were read
use Rattle.std.proofs.Common.{◌≡◌, ◌≤◌, ◌-◌, true, length, IfSome}
use Rattle.mon_script.specs.Lines.{lines_of}
use Rattle.trials.specs.Cells.{is_sum_of}
use Rattle.trials.specs.Summaries.{table_behind}
use Rattle.trials.specs.Tables.{table_in}
use Rattle.trials.proofs.tables.table_at.Given as goal

abbrev pub invariant-loop-line : goal.invariant-loop-line
invariant-loop-line l = record {
  table : table_in l.sum (lines_of l.rest) ≡ table_behind (lines_of l.text);
  within : length l.rest ≤ length l.text;
  small : IfSome l.sum (λ sum. is_sum_of (length l.text - length l.rest) sum ≡ true);
}

abbrev pub decreases-loop-line : goal.decreases-loop-line
decreases-loop-line l = length l.rest
