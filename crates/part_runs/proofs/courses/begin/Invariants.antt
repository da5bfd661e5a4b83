-- so many courses are begun
use Rattle.part_runs.proofs.CourseLemmas.{AreBegun}
use Rattle.part_runs.proofs.courses.begin.Given as goal

abbrev pub invariant-loop-line : goal.invariant-loop-line
invariant-loop-line g l = AreBegun l.fn.count l._line l.courses.items l.fn.p l.p
