use Rattle.std.proofs.Common.{rules}
use Rattle.part_runs.proofs.CourseLemmas.{met_one}
use Rattle.part_runs.proofs.courses.meet.Goals as goal

pub returns-in-Some-clause-met : goal.returns-in-Some-clause-met
returns-in-Some-clause-met g c = met_one c.args.course c.course.inside.pass c.args.p.now c.meet.new.p c.meet.ensures.met
    c.meet.ensures.fronts (search rules)

pub returns-in_default-clause-met : goal.returns-in_default-clause-met
returns-in_default-clause-met g c = met_one c.args.course c.course.inside.pass c.args.p.now c.meet.new.p c.meet.ensures.met
    c.meet.ensures.fronts (search rules)
