-- no text so far stands again, so one stands twice where one of the rest does
use Rattle.std.proofs.Common.{◌≡◌, length}
use Rattle.mon_schema.specs.Faults.{texts_repeat}
use Rattle.mon_topo.proofs.ranges.repeat.Given as goal

abbrev pub invariant-loop-text : goal.invariant-loop-text
invariant-loop-text l = texts_repeat l.texts ≡ texts_repeat l.rest

abbrev pub decreases-loop-text : goal.decreases-loop-text
decreases-loop-text l = length l.rest
