use Rattle.std.proofs.Common.{rules, subst, get_or}
use Rattle.part_runs.specs.Courses.{HasRun}
use Rattle.part_runs.proofs.CourseLemmas.{each_has_run}
use Rattle.part_runs.proofs.courses.run_each.Goals as goal

pub returns-clause-ran : goal.returns-clause-ran
returns-clause-ran g c = each_has_run g.N.Names.setting c.args.store.now c.args.lines.now c.args.contents.now c.args.courses.now
    c.for_each_mut.new.s c.requires.contents c.requires.count (search rules)
    (λ k line content d there its within.
    let w = (c.for_each_mut.ensures k d within).1 in
    subst (λ before. HasRun g.N.Names.setting c.args.store.now line.what content before (get_or c.for_each_mut.new.s k d))
    w.argument_is
    (subst (λ after. HasRun g.N.Names.setting c.args.store.now line.what content w.argument.now after) w.left
    (w.call line content there its)))
