use Rattle.std.proofs.Common.{◌≡◌, ◌∙◌, ap, sym, arith}
use Rattle.mon_script.specs.Made.{next_number, number_behind}
use Rattle.mon_script.proofs.MadeLemmas.{behind_next}
use Rattle.mon_script.proofs.generator.number_behind.Goals as goal

pub loop-step-preserved : goal.loop-step-preserved
loop-step-preserved c =
    c.next_number-behind.ensures.next ∙ ap next_number c.loop-step.invariant
    ∙ sym (behind_next c.loop-step._step c.args.number)

pub returns : goal.returns
returns c =
    let all : c.loop-step._step ≡ c.args.steps = omega arith in
    record { behind = c.loop-step.invariant ∙ ap (λ k. number_behind k c.args.number) all }
