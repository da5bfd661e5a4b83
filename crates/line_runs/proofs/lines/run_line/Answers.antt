use Rattle.std.proofs.Common.{IfOk, subst, sym}
use Rattle.line_runs.specs.LineWrites.{LineRanSo}
use Rattle.mon_script.specs.declared.forms.LineForm.{LineForm}
use Rattle.mon_script.specs.declared.forms.LineForm.TheVariants as form
use Rattle.line_runs.proofs.NoOwn.{none_own_ever, with_content}
use Rattle.line_runs.proofs.lines.run_line.Goals as goal

pub returns-in-Ask-clause-wrote : goal.returns-in-Ask-clause-wrote
returns-in-Ask-clause-wrote g c =
    let config = c.args.store.now in
    let asked = c.ask_question in
    subst (λ (what : LineForm). IfOk asked.result (λ ran. LineRanSo config what c.args.content.now ran c.args.p.now
    asked.new.p)) (sym c.in-Ask.is)
    (with_content config (form.Ask c.in-Ask.asked) c.args.p.now asked.new.p c.args.content.now asked.result
    (none_own_ever config (form.Ask c.in-Ask.asked) c.args.p.now asked.new.p asked.result asked.ensures.wrote))
