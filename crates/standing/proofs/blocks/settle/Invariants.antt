-- the blocks so far are settled, and those left are as they were
use Rattle.std.proofs.Common.{◌≡◌, Some, length, take, drop}
use Rattle.std.specs.List.{AllByRecursion}
use Rattle.standing.specs.DueLists.{HasPeriod}
use Rattle.standing.specs.QuietMoments.{AreQuiet}
use Rattle.standing.proofs.BlockLemmas.{Settled}
use Rattle.standing.proofs.blocks.settle.Given as goal

abbrev pub invariant-loop-i : goal.invariant-loop-i
invariant-loop-i l = record {
  number : length l.nexts ≡ length l.initial.nexts;
  lawful : AllByRecursion HasPeriod l.rest;
  left : AreQuiet l.last (drop l.i l.nexts) l.rest;
  settled : Settled (Some l.moment) (take l.i l.nexts) l.rest l.queries;
}
