use Rattle.std.proofs.Common.{◌≡◌, ◌++◌, drop}
use Rattle.std.specs.List.{filter_map}
use Rattle.standing.specs.DueLists.{due_of}
use Rattle.standing.proofs.dues.dues_of.Given as goal

abbrev pub invariant-loop-mark : goal.invariant-loop-mark
invariant-loop-mark l = l.dues ++ filter_map (due_of l.queries) (drop l.mark-index l.marks)
    ≡ filter_map (due_of l.queries) l.marks
