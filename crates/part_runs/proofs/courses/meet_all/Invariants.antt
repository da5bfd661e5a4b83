use Rattle.std.proofs.Common.{◌≡◌, ◌≤◌, ◌+◌, ◌++◌, length}
use Rattle.std.specs.Prelude.{vec_capacity}
use Rattle.std.specs.Vec.Iter.{into_iter_items, into_iter_len}
use Rattle.know.specs.Knowledge.{Knowledge}
use Rattle.part_runs.specs.Courses.{HaveMet, ended_in}
use Rattle.part_runs.proofs.courses.meet_all.Given as goal

abbrev pub invariant-loop-course : goal.invariant-loop-course
invariant-loop-course g l =
    ((after : Knowledge) → HaveMet (into_iter_items l.course-iterator) l.p after
    → HaveMet l.fn.courses.items l.fn.p after)
    × (l.rans.items ++ ended_in (into_iter_items l.course-iterator) ≡ l.fn.rans.items ++ ended_in l.fn.courses.items)
    × (length l.rans.items + length (into_iter_items l.course-iterator) ≤ vec_capacity l.rans)
    × (into_iter_len l.course-iterator ≡ length (into_iter_items l.course-iterator))
