use Rattle.std.proofs.Common.{rules}
use Rattle.part_runs.proofs.CourseLemmas.{has_run}
use Rattle.part_runs.proofs.courses.run_course.Goals as goal

pub returns : goal.returns
returns g c = record {
  ran = has_run g.N.Names.setting c.args.store.now c.args.line.now.what c.args.content.now c.args.course.now
      c.end.new.self _ c.run_line.new.p c.run_line.result c.is_sound.ensures.pass c.run_line.ensures.wrote
      c.run_line.ensures.fronts c.is_sound-2.ensures.pass c.is_sound-2.ensures.held (search rules) (search rules)
      (search rules);
}
