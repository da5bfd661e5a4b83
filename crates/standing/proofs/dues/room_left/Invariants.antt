-- what is left of the room, and the blocks that are left
use Rattle.std.proofs.Common.{◌≡◌, ◌+◌, drop}
use Rattle.std.specs.List.{AllByRecursion}
use Rattle.standing.specs.DueLists.{HasPeriod, due_count}
use Rattle.standing.specs.QuietMoments.{AreQuiet}
use Rattle.standing.proofs.dues.room_left.Given as goal

abbrev pub invariant-loop-next : goal.invariant-loop-next
invariant-loop-next l = record {
  lawful : AllByRecursion HasPeriod l.rest;
  quiet : AreQuiet l.last (drop l.next-index l.nexts) l.rest;
  room : l.room + due_count l.last l.moment l.queries ≡ 1000 + due_count l.last l.moment l.rest;
}
