-- the query goes on as it did at first
use Rattle.std.proofs.Common.{◌≡◌, ◌-◌, drop, length}
use Rattle.query_core.specs.Program as spec
use Rattle.query_core.proofs.stages.next_zone.Given as goal

abbrev pub invariant-loop-course : goal.invariant-loop-course
invariant-loop-course l =
    spec.next_zone (drop l.course.begun l.setting.areas) l.course
    ≡ spec.next_zone (drop l.fn.course.begun l.setting.areas) l.fn.course

abbrev pub decreases-loop-course : goal.decreases-loop-course
decreases-loop-course l = length l.setting.areas - l.course.begun
