-- so many lines behind are those that are left behind what is left
use Rattle.std.proofs.Common.{◌≡◌, ◌≤◌, ◌-◌, drop, length}
use Rattle.mon_script.specs.Lines.{lines_of}
use Rattle.trials.proofs.tables.lines_behind.Given as goal

abbrev pub invariant-loop-line : goal.invariant-loop-line
invariant-loop-line l = record {
  behind : drop (l.count - l._line) (lines_of l.rest) ≡ drop l.count (lines_of l.text);
  within : length l.rest ≤ length l.text;
}
