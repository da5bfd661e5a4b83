-- no line so far ends a block
use Rattle.std.proofs.Common.{◌≡◌, length}
use Rattle.mon_script.specs.Lines.{lines_of}
use Rattle.mon_script.specs.Blocks.{has_end}
use Rattle.mon_script.proofs.places.has_end.Given as goal

abbrev pub invariant-loop-line : goal.invariant-loop-line
invariant-loop-line l = has_end (lines_of l.rest) ≡ has_end (lines_of l.text)

abbrev pub decreases-loop-line : goal.decreases-loop-line
decreases-loop-line l = length l.rest
