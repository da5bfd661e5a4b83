-- where the operations that are left work row by row, all do
use Rattle.std.proofs.Common.{drop}
use Rattle.std.specs.List.{AllByRecursion}
use Rattle.kept_laws.specs.Flowing.{WorksByRow}
use Rattle.mon_meaning.specs.within.Paths.{trees_of}
use Rattle.standing_incr.proofs.in_place.work_by_row.Given as goal

abbrev pub invariant-loop-node : goal.invariant-loop-node
invariant-loop-node l =
    AllByRecursion WorksByRow (trees_of (drop l.node-index l.above)) → AllByRecursion WorksByRow (trees_of l.above)
