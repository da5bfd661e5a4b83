-- where the times of the changes that are left rise, those of all do
use Rattle.std.proofs.Common.{◌≤◌, ◌-◌, drop}
use Rattle.kept_exchanges.specs.Traded.{Rise}
use Rattle.kept_exchanges.proofs.trading.rise.Given as goal

abbrev pub invariant-loop-i : goal.invariant-loop-i
invariant-loop-i l = record {
  some : 1 ≤ l.i;
  rise : Rise (drop (l.i - 1) l.changes) → Rise l.changes;
}
