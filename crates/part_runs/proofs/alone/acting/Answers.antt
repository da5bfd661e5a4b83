use Rattle.part_runs.proofs.AloneLemmas.{answer_acted, answer_plain, answer_stock}
use Rattle.part_runs.proofs.alone.acting.Goals as goal

pub returns-clause-ran : goal.returns-clause-ran
returns-clause-ran g c = answer_acted c.runs_go_on.ensures.more c.texts_stay.ensures.line g.N.Names.setting
    c.args.store.now c.args.what.now c.args.content.now c.args.p.now c.run_line-ran.new.p c.is_sound.ensures.pass
    c.is_sound-2.ensures.pass c.is_sound-2.ensures.borne_out c.requires.every c.run_line-ran.result
    c.run_line-ran.ensures.wrote

pub returns-clause-plain : goal.returns-clause-plain
returns-clause-plain g c = answer_plain c.runs_go_on.ensures.more c.texts_stay.ensures.line g.N.Names.setting
    c.args.store.now c.args.what.now c.args.content.now c.args.p.now c.run_line-ran.new.p c.is_sound.ensures.pass
    c.is_sound-2.ensures.pass c.is_sound-2.ensures.borne_out c.requires.every c.run_line-ran.result
    c.run_line-ran.ensures.wrote

pub returns-clause-stock : goal.returns-clause-stock
returns-clause-stock g c = answer_stock c.args.store.now c.args.what.now c.args.content.now c.args.p.now
    c.run_line-ran.new.p c.run_line-ran.result c.run_line-ran.ensures.wrote
