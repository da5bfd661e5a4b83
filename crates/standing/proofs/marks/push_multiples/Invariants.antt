use Rattle.std.proofs.Common.{◌≡◌, ◌*◌, ◌++◌, map, pos}
use Rattle.std.specs.List.{range_with_len}
use Rattle.standing.specs.DueLists.{marked}
use Rattle.standing.proofs.marks.push_multiples.Given as goal

abbrev pub invariant-loop-i : goal.invariant-loop-i
invariant-loop-i l = l.marks.items ≡ l.initial.marks.items
    ++ marked l.number (map (λ k. pos (l.period * k)) (range_with_len l.first l.i))
