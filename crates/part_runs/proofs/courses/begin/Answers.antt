use Rattle.part_runs.proofs.CourseLemmas.{one_more_begun}
use Rattle.part_runs.proofs.courses.begin.Goals as goal

pub loop-line-preserved : goal.loop-line-preserved
loop-line-preserved g c = one_more_begun c.args.count c.loop-line._line c.loop-line.courses.items c.push.new.self.items
    c.in_ok-course.course c.args.p.now c.loop-line.p c.another.new.p c.loop-line-test.true c.loop-line.invariant
    c.in_ok-push.ensures.items c.in_ok-course.ensures.numbered c.in_ok-course.ensures.left
