use Rattle.std.proofs.Common.{◌≡◌, ◌+◌, ◌++◌, drop}
use Rattle.std.specs.List.{AllByRecursion}
use Rattle.standing.specs.DueLists.{HasPeriod, marks_from}
use Rattle.standing.proofs.marks.push_each.Given as goal

abbrev pub invariant-loop-number : goal.invariant-loop-number
invariant-loop-number l = record {
  lawful : AllByRecursion HasPeriod (drop l.number l.block);
  marks : l.marks.items ++ marks_from (l.first + l.number) l.last l.moment (drop l.number l.block)
      ≡ l.initial.marks.items ++ marks_from l.first l.last l.moment l.block;
}
