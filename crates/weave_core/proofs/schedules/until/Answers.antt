use Rattle.std.proofs.Common.{Some, Result, string_bytes, refl}
use Rattle.std.proofs.lemmas.Result.{err_from_is_err_and}
use Rattle.mon_value.specs.declared.refusals.Refusal.{Refusal}
use Rattle.weave_core.proofs.PassedLemmas.{passed_on, turn_refused}
use Rattle.weave_core.specs.ScheduleTurns.{FormSo}
use Rattle.weave_core.specs.Schedules.{stepped_text}
use Rattle.schedule_lines.specs.declared.calls.WeaveFault.{WeaveFault}
use Rattle.schedule_lines.specs.declared.lines.LineForm.TheVariants as form
use Rattle.weave_core.proofs.schedules.until.Goals as goal

pub returns-in_err-stepped-clause-ran : goal.returns-in_err-stepped-clause-ran
returns-in_err-stepped-clause-ran c = λ config state agrees.
    let out = string_bytes c.args.out.now in
    let why = c.in_err-stepped.field-0.0 in
    passed_on (λ (answer : Result Unit (Refusal WeaveFault)). FormSo config state
    (form.Until c.args.actor c.args.event) answer c.go_on.new.weave out out)
    c.from_residual.result why (err_from_is_err_and c.from_residual.result c.from_residual.ensures.1)
    (turn_refused config state Unit c.args.actor (Some c.args.event) (form.Until c.args.actor c.args.event)
    c.go_on.new.weave out why refl (c.in_err-stepped.ensures.goes config state agrees))

pub returns-clause-ran : goal.returns-clause-ran
returns-clause-ran c = λ config state agrees.
    let gone = c.in_ok-stepped.ensures.goes config state agrees in
    record {
      fault = gone.fault;
      said = stepped_text c.args.actor c.in_ok-stepped.stepped;
      left = gone.after;
      does = record { how = c.in_ok-stepped.stepped; goes = gone.goes; says = refl };
      agrees = gone.agrees;
      prints = c.in_ok-tell.ensures.told;
    }
