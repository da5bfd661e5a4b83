use Rattle.std.proofs.Common.{rules, Result, subst, arith}
use Rattle.std.proofs.lemmas.Result.{err_from_is_err_and}
use Rattle.mon_value.specs.declared.refusals.Refusal.{Refusal}
use Rattle.weave_core.proofs.PassedLemmas.{passed_on}
use Rattle.weave_core.proofs.TurnLemmas.{goes_refused, going_more, gone_before, gone_by, gone_rests}
use Rattle.weave_core.specs.ScheduleTurns.{GoesSo}
use Rattle.weave_core.specs.WeaveCalls.{StepsSo}
use Rattle.weave_core.specs.declared.stepped.Stepped.{Stepped}
use Rattle.schedule_lines.specs.declared.calls.WeaveFault.{WeaveFault}
use Rattle.weave_core.proofs.schedules.go_on.Goals as goal

pub returns-then-is_next-clause-goes : goal.returns-then-is_next-clause-goes
returns-then-is_next-clause-goes c = λ config start agrees.
    let so_far = c.loop-event.invariant.going config start agrees in
    gone_before config start c.args.actor c.args.goal c.loop-event._event c.loop-event.weave so_far
    (c.is_next.ensures.next config so_far.state so_far.agrees c.if-is_next.true)

pub returns-in_err-stepped-clause-goes : goal.returns-in_err-stepped-clause-goes
returns-in_err-stepped-clause-goes c = λ config start agrees.
    let so_far = c.loop-event.invariant.going config start agrees in
    let why = c.in_err-stepped.field-0.0 in
    passed_on (λ (answer : Result Stepped (Refusal WeaveFault)). GoesSo config start c.args.actor c.args.goal answer
    c.step.new.self)
    c.from_residual.result why (err_from_is_err_and c.from_residual.result c.from_residual.ensures.1)
    (goes_refused config start c.args.actor c.args.goal c.loop-event._event why c.loop-event.weave c.step.new.self
    so_far
    (c.in_err-stepped.ensures.stepped config so_far.state so_far.agrees))

pub returns-then-not-has_gone-clause-goes : goal.returns-then-not-has_gone-clause-goes
returns-then-not-has_gone-clause-goes c = λ config start agrees.
    let so_far = c.loop-event.invariant.going config start agrees in
    gone_by config start c.args.actor c.args.goal c.loop-event._event c.in_ok-stepped.stepped c.loop-event.weave
    c.step.new.self so_far
    (c.is_next.ensures.other config so_far.state so_far.agrees c.if-is_next.false)
    (c.has_gone.ensures.other (search rules))
    (c.in_ok-stepped.ensures.stepped config so_far.state so_far.agrees)

pub loop-event-preserved : goal.loop-event-preserved
loop-event-preserved c = record {
  kept = c.in_ok-stepped.ensures.kept;
  going = λ config start agrees.
      let so_far = c.loop-event.invariant.going config start agrees in
      going_more config start c.args.actor c.args.goal c.loop-event._event c.loop-event.weave c.step.new.self so_far
      (c.is_next.ensures.other config so_far.state so_far.agrees c.if-is_next.false)
      (subst (λ (how : Stepped). StepsSo config so_far.state c.args.actor how c.step.new.self)
      (c.has_gone.ensures.gone (search rules))
      (c.in_ok-stepped.ensures.stepped config so_far.state so_far.agrees));
}

pub returns-clause-goes : goal.returns-clause-goes
returns-clause-goes c = λ config start agrees.
    let so_far = c.loop-event.invariant.going config start agrees in
    let past = c.loop-event-test.false in
    gone_rests config start c.args.actor c.args.goal c.loop-event._event c.loop-event.weave so_far
    (omega (arith, past, c.loop-event.auto._event-end))
