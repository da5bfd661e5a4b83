-- what was read, in front of what is left, is what was added to
use Rattle.std.proofs.Common.{◌≡◌, ◌++◌, length}
use Rattle.mon_points.specs.Left.{reads_left}
use Rattle.mon_points.proofs.records.read_left.Given as goal

abbrev pub invariant-loop-read : goal.invariant-loop-read
invariant-loop-read l = l.reads ++ reads_left l.schemas l.reader ≡ l.fn.reads ++ reads_left l.schemas l.fn.reader

abbrev pub decreases-loop-read : goal.decreases-loop-read
decreases-loop-read l = length l.reader
