-- the script so far and that of what is left is the script of the text
use Rattle.std.proofs.Common.{◌≡◌, ◌+◌, ◌≤◌, length}
use Rattle.mon_script.specs.Lines.{lines_of}
use Rattle.mon_script.specs.Scripts.{script_from, script_in}
use Rattle.mon_script.specs.declared.places.TheConstants.{MOST_LINES}
use Rattle.mon_script.proofs.Fronts.{with_front}
use Rattle.mon_script.proofs.script.read_script.Given as goal

abbrev pub invariant-loop-line : goal.invariant-loop-line
invariant-loop-line l = record {
  whole : with_front l.script (script_from l.topology (l.number + 1) l.place (lines_of l.rest))
      ≡ script_in l.topology l.text;
  count : l.number ≤ MOST_LINES;
  each : length l.script ≤ l.number;
}

abbrev pub decreases-loop-line : goal.decreases-loop-line
decreases-loop-line l = length l.rest
