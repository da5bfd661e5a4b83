use Rattle.mon_script.specs.declared.forms.LineForm.TheVariants as form
use Rattle.part_runs.proofs.AloneLemmas.{answer_acted, answer_plain, answer_stock, with_content}
use Rattle.part_runs.proofs.alone.following.Goals as goal

pub returns-clause-ran : goal.returns-clause-ran
returns-clause-ran g c =
    let what = form.Follow c.args.moments c.args.text.now in
    answer_acted c.runs_go_on.ensures.more c.texts_stay.ensures.line g.N.Names.setting c.args.store.now what
    c.args.content.now c.args.p.now c.follow-ran.new.p c.is_sound.ensures.pass c.is_sound-2.ensures.pass
    c.is_sound-2.ensures.borne_out c.requires.every c.follow-ran.result
    (with_content c.args.store.now what c.args.content.now c.args.p.now c.follow-ran.new.p c.follow-ran.result
    c.follow-ran.ensures.wrote)

pub returns-clause-plain : goal.returns-clause-plain
returns-clause-plain g c =
    let what = form.Follow c.args.moments c.args.text.now in
    answer_plain c.runs_go_on.ensures.more c.texts_stay.ensures.line g.N.Names.setting c.args.store.now what
    c.args.content.now c.args.p.now c.follow-ran.new.p c.is_sound.ensures.pass c.is_sound-2.ensures.pass
    c.is_sound-2.ensures.borne_out c.requires.every c.follow-ran.result
    (with_content c.args.store.now what c.args.content.now c.args.p.now c.follow-ran.new.p c.follow-ran.result
    c.follow-ran.ensures.wrote)

pub returns-clause-stock : goal.returns-clause-stock
returns-clause-stock g c =
    let what = form.Follow c.args.moments c.args.text.now in
    answer_stock c.args.store.now what c.args.content.now c.args.p.now c.follow-ran.new.p c.follow-ran.result
    (with_content c.args.store.now what c.args.content.now c.args.p.now c.follow-ran.new.p c.follow-ran.result
    c.follow-ran.ensures.wrote)
