use Rattle.std.proofs.Common.{◌≡◌, ◌+◌, drop, take, sum_by}
use Rattle.std.specs.List.{AllByRecursion}
use Rattle.standing.specs.DueLists.{HasPeriod, times_due}
use Rattle.standing.proofs.dues.room_behind_each.Given as goal

abbrev pub invariant-loop-query : goal.invariant-loop-query
invariant-loop-query l = record {
  lawful : AllByRecursion HasPeriod (drop l.query-index l.block);
  room : l.left + sum_by (times_due l.last l.moment) (take l.query-index l.block) ≡ l.room;
}
