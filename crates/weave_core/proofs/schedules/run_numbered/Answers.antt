use Rattle.std.proofs.Common.{rules, ◌≡◌, true, false, nat_lt, Err, string_bytes, refl, sym, subst}
use Rattle.weave_core.proofs.LineRunLemmas.{line_ran, line_stopped, remark_runs}
use Rattle.mon_value.specs.declared.refusals.Refusal.{Refusal}
use Rattle.schedule_lines.specs.ScheduleLines.{schedule_form}
use Rattle.weave_core.specs.ScheduleTurns.{LineSo, NumberedSo}
use Rattle.schedule_lines.specs.declared.calls.ScheduleFault.{ScheduleFault}
use Rattle.schedule_lines.specs.declared.calls.WeaveFault.{WeaveFault}
use Rattle.schedule_lines.specs.declared.limits.TheConstants.{MOST_LINES}
use Rattle.mon_script.specs.Lines.{is_remark}
use Rattle.weave_core.proofs.schedules.run_numbered.Goals as goal

pub returns-then-is_remark-clause-ran : goal.returns-then-is_remark-clause-ran
returns-then-is_remark-clause-ran c = λ config state agrees.
    let few : nat_lt MOST_LINES c.args.number ≡ false = search rules in
    let remark : is_remark c.args.line.now ≡ true = search rules in
    remark_runs config c.args.number state c.args.line.now c.args.weave.now (string_bytes c.args.out.now) few remark
    agrees

pub returns-in-Ok-clause-ran : goal.returns-in-Ok-clause-ran
returns-in-Ok-clause-ran c = λ config state agrees.
    let few : nat_lt MOST_LINES c.args.number ≡ false = search rules in
    let text : is_remark c.args.line.now ≡ false = search rules in
    line_ran config c.args.number state c.args.line.now c.run_line.new.weave (string_bytes c.args.out.now)
    (string_bytes c.run_line.new.out) few text
    Unit tt (schedule_form config.schemas config.topology c.args.line.now) refl
    (c.in-Ok.ensures.ran config state agrees)

pub returns-in-Err-Fault-clause-ran : goal.returns-in-Err-Fault-clause-ran
returns-in-Err-Fault-clause-ran c = λ config state agrees.
    let few : nat_lt MOST_LINES c.args.number ≡ false = search rules in
    let text : is_remark c.args.line.now ≡ false = search rules in
    subst (λ (why : Refusal ScheduleFault). NumberedSo config state c.args.number c.args.line.now {X = Unit} (Err why)
    c.run_line.new.weave
    (string_bytes c.args.out.now) (string_bytes c.run_line.new.out)) (sym c.at_line-in-Err-Fault.ensures.fault)
    (line_stopped config c.args.number state c.args.line.now c.run_line.new.weave (string_bytes c.args.out.now)
    (string_bytes c.run_line.new.out) few text
    Unit (schedule_form config.schemas config.topology c.args.line.now) c.in-Err-Fault.fault refl
    (subst (λ (why : Refusal WeaveFault). LineSo config state c.args.line.now {X = Unit} (Err why) c.run_line.new.weave
    (string_bytes c.args.out.now)
    (string_bytes c.run_line.new.out)) c.in-Err-Fault.field-0-is (c.in-Err-Fault.ensures.ran config state agrees)))
