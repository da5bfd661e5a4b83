-- the queries so far are quiet until the bound so far
use Rattle.std.proofs.Common.{drop, take}
use Rattle.std.specs.List.{AllByRecursion}
use Rattle.standing.specs.DueLists.{HasPeriod}
use Rattle.standing.specs.QuietMoments.{IsQuietUntil}
use Rattle.standing.proofs.quiet.next_of_all.Given as goal

abbrev pub invariant-loop-query : goal.invariant-loop-query
invariant-loop-query l = record {
  lawful : AllByRecursion HasPeriod (drop l.query-index l.queries);
  quiet : AllByRecursion (IsQuietUntil l.last l.next) (take l.query-index l.queries);
}
