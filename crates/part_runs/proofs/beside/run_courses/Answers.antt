use Rattle.std.proofs.Common.{length, subst}
use Rattle.std.specs.Prelude.{vec_capacity}
use Rattle.part_runs.specs.Courses.{HaveMet}
use Rattle.part_runs.proofs.BesideLemmas.{block_fronts, block_ran}
use Rattle.part_runs.proofs.CourseLemmas.{room_for}
use Rattle.part_runs.proofs.beside.run_courses.Goals as goal

pub meet_all-requires : goal.meet_all-requires
meet_all-requires g c = record {
  room = room_for c.args.rans.now.items c.run_all.new.courses.items (length c.args.lines.now)
      (vec_capacity c.args.rans.now) c.requires.none c.run_all.ensures.count c.requires.room;
}

pub returns-clause-ran : goal.returns-clause-ran
returns-clause-ran g c = block_ran g.N.Names.setting c.args.store.now c.args.lines.now c.args.contents.now
    c.args.rans.now.items c.meet_all.new.rans.items c.args.p.now c.begin.new.p c.meet_all.new.p
    c.in_ok-courses.courses.items c.run_all.new.courses.items c.in_ok-courses.ensures.begun
    c.in_ok-courses.ensures.left c.run_all.ensures.count c.run_all.ensures.ran c.meet_all.ensures.met c.requires.none
    c.meet_all.ensures.rans

pub returns-clause-fronts : goal.returns-clause-fronts
returns-clause-fronts g c = block_fronts (length c.args.lines.now) c.run_all.new.courses.items c.args.p.now
    c.meet_all.new.p
    (subst (λ know. HaveMet c.run_all.new.courses.items know c.meet_all.new.p) c.in_ok-courses.ensures.left
    c.meet_all.ensures.met)
