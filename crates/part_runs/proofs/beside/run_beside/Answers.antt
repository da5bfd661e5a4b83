use Rattle.std.proofs.Common.{rules, ◌≡◌, false, List, length, map, refl, subst, sym}
use Rattle.line_runs.specs.declared.lines.LineRan.{LineRan}
use Rattle.part_runs.specs.PartsDone.{ActedBeside}
use Rattle.part_runs.proofs.BesideLemmas.{BesideDid, block_did}
use Rattle.part_runs.proofs.NumberLemmas.{block_split}
use Rattle.part_runs.proofs.TellLemmas.{beside_plain, part_plain, part_tells}
use Rattle.part_runs.proofs.beside.run_beside.Goals as goal
use Rattle.run_theory.specs.Parts.{Beside}
use Rattle.run_traces.specs.LineDues.{is_ticked}
use Rattle.run_traces.specs.RanLines.{ran_lines}
use Rattle.std.specs.List.{AllByRecursion}

pub returns-then-len-lines-clause-ran : goal.returns-then-len-lines-clause-ran
returns-then-len-lines-clause-ran g c =
    let ran = c.in_ok-run_courses.ensures.ran in
    let all : length c.run_courses.new.rans.items ≡ length c.args.lines.now = search rules in
    let beside : BesideDid c.args.store.now c.args.lines.now c.args.contents.now c.run_courses.new.rans.items
    c.args.p.now c.run_courses.new.p
    = block_did c.finds_stay.ensures.later c.texts_stay.ensures.line g.N.Names.setting c.args.store.now
    c.run_courses.new.p c.is_sound-2.ensures.pass c.is_sound-2.ensures.held c.numbers_are_counted.ensures.handed
    c.numbers_are_counted.ensures.met c.args.p.now c.args.lines.now c.args.contents.now ran.ways
    c.is_sound.ensures.pass c.is_sound.ensures.held c.is_sound-2.ensures.borne_out ran.met
    c.run_courses.new.rans.items c.requires.stock c.requires.every c.requires.contents ran.count ran.each ran.rans_are
    all in
    subst
    (λ (rans : List LineRan). ActedBeside c.args.store.now c.args.lines.now c.args.contents.now rans c.args.p.now
    c.run_courses.new.p) (sym c.from_vec.ensures.items)
    (record {
      places = beside.places;
      count = beside.count;
      tells = part_tells c.runs_go_on.ensures.more c.texts_stay.ensures.line refl beside.did;
    })

pub returns-then-len-lines-clause-plain : goal.returns-then-len-lines-clause-plain
returns-then-len-lines-clause-plain g c =
    let ran = c.in_ok-run_courses.ensures.ran in
    let rans = c.run_courses.new.rans.items in
    let all : length rans ≡ length c.args.lines.now = search rules in
    let beside : BesideDid c.args.store.now c.args.lines.now c.args.contents.now rans c.args.p.now c.run_courses.new.p
    = block_did c.finds_stay.ensures.later c.texts_stay.ensures.line g.N.Names.setting c.args.store.now
    c.run_courses.new.p c.is_sound-2.ensures.pass c.is_sound-2.ensures.held c.numbers_are_counted.ensures.handed
    c.numbers_are_counted.ensures.met c.args.p.now c.args.lines.now c.args.contents.now ran.ways
    c.is_sound.ensures.pass c.is_sound.ensures.held c.is_sound-2.ensures.borne_out ran.met
    c.run_courses.new.rans.items c.requires.stock c.requires.every c.requires.contents ran.count ran.each ran.rans_are
    all in
    subst (AllByRecursion (λ (one : LineRan). is_ticked one.trace ≡ false)) (sym c.from_vec.ensures.items)
    (beside_plain c.args.lines.now c.args.contents.now rans beside.places c.requires.contents all
    (part_plain c.args.store.now c.args.p.now.seen c.run_courses.new.p.seen
    (Beside (ran_lines c.args.lines.now c.args.contents.now (map (λ (one : LineRan). one.trace) rans) beside.places))
    beside.did.written))

pub returns-then-len-lines-clause-stock : goal.returns-then-len-lines-clause-stock
returns-then-len-lines-clause-stock g c =
    let ran = c.in_ok-run_courses.ensures.ran in
    λ n can. block_split (length c.args.lines.now) n c.args.p.now c.run_courses.new.p ran.ways ran.met can
