-- the marks so far, and the blocks that are left
use Rattle.std.proofs.Common.{◌≡◌, ◌+◌, ◌++◌, drop, length}
use Rattle.std.specs.List.{AllByRecursion}
use Rattle.standing.specs.DueLists.{HasPeriod, marks_from}
use Rattle.standing.specs.QuietMoments.{AreQuiet}
use Rattle.standing.proofs.marks.all_marks.Given as goal

abbrev pub invariant-loop-next : goal.invariant-loop-next
invariant-loop-next l = record {
  lawful : AllByRecursion HasPeriod l.rest;
  quiet : AreQuiet l.last (drop l.next-index l.nexts) l.rest;
  places : l.first + length l.rest ≡ length l.queries;
  marks : l.marks.items ++ marks_from l.first l.last l.moment l.rest ≡ marks_from 0 l.last l.moment l.queries;
}
