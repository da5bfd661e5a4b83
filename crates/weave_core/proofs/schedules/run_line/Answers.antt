use Rattle.std.proofs.Common.{rules, ◌≡◌, ◌∙◌, Option, Some, None, Result, IfSome, string_bytes, sym, ap, subst}
use Rattle.std.proofs.lemmas.Result.{err_from_is_err_and}
use Rattle.mon_config.specs.declared.config.Config.{Config}
use Rattle.mon_value.specs.declared.refusals.Refusal.{Refusal}
use Rattle.mon_value.specs.declared.refusals.Refusal.TheVariants as refusal
use Rattle.weave_core.proofs.PassedLemmas.{line_starved, passed_on}
use Rattle.schedule_lines.specs.LawfulLines.{IsLawfulForm}
use Rattle.schedule_lines.specs.ScheduleLines.{schedule_form}
use Rattle.weave_core.specs.ScheduleTurns.{LineBy, LineSo}
use Rattle.schedule_lines.specs.declared.calls.WeaveFault.{WeaveFault}
use Rattle.schedule_lines.specs.declared.lines.LineForm.{LineForm}
use Rattle.weave_core.proofs.schedules.run_line.Goals as goal

pub returns-in_err-form-clause-ran : goal.returns-in_err-form-clause-ran
returns-in_err-form-clause-ran c = λ config state agrees.
    let out = string_bytes c.args.out.now in
    passed_on (λ (answer : Result Unit (Refusal WeaveFault)). LineSo config state c.args.line.now answer
    c.args.weave.now out out)
    c.from_residual.result refusal.OutOfMemory (err_from_is_err_and c.from_residual.result c.from_residual.ensures.1)
    (line_starved config state Unit (schedule_form config.schemas config.topology c.args.line.now) c.args.weave.now out)

pub run_form-requires-clause-lawful : goal.run_form-requires-clause-lawful
run_form-requires-clause-lawful c = λ config state agrees.
    let own : Config = c.config-config.result.now in
    let found = subst (λ (form : Option LineForm). IfSome form (IsLawfulForm own.schemas own.topology)) c.in-Some.is
    c.in_ok-form.ensures.lawful in
    subst (λ (of : Config). IsLawfulForm of.schemas of.topology c.in-Some.form)
    (c.config-config.ensures.config config state agrees) found

pub returns-in-Some-clause-ran : goal.returns-in-Some-clause-ran
returns-in-Some-clause-ran c = λ config state agrees.
    let says : schedule_form config.schemas config.topology c.args.line.now ≡ Some c.in-Some.form =
    ap (λ (of : Config). schedule_form of.schemas of.topology c.args.line.now)
    (sym (c.config-config.ensures.config config state agrees))
    ∙ sym c.in_ok-form.ensures.form ∙ c.in-Some.is in
    subst (λ (form : Option LineForm). LineBy config state form c.run_form.result c.run_form.new.weave
    (string_bytes c.args.out.now)
    (string_bytes c.run_form.new.out)) (sym says) (c.run_form.ensures.ran config state agrees)

pub returns-in-None-clause-ran : goal.returns-in-None-clause-ran
returns-in-None-clause-ran c = λ config state agrees.
    let says : schedule_form config.schemas config.topology c.args.line.now ≡ None =
    ap (λ (of : Config). schedule_form of.schemas of.topology c.args.line.now)
    (sym (c.config-config.ensures.config config state agrees))
    ∙ sym c.in_ok-form.ensures.form ∙ c.in-None.is in
    search rules
