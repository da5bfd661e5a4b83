use Rattle.std.proofs.Common.{rules, ◌≡◌, ℤ, Err, Ok, to_z, of_z, w64, subst}
use Rattle.std.specs.Prelude.{IfOk}
use Rattle.mon_config.specs.declared.config.Config.{Config}
use Rattle.mon_script.specs.declared.forms.LineForm.TheVariants as form
use Rattle.mon_script.specs.declared.standing_lines.StandingLine.TheVariants as line
use Rattle.mon_value.specs.Answers.{Withholds}
use Rattle.mon_value.specs.declared.refusals.Refusal.{Refusal}
use Rattle.part_runs.specs.PartsDone.{AloneDid}
use Rattle.part_runs.proofs.StandLemmas.{due_answers, undue_answers}
use Rattle.standing.specs.DueLists.{at_moment, due_answer}
use Rattle.standing.specs.declared.faults.DueFault.{DueFault}
use Rattle.standing.proofs.MomentLemmas.{due_moments}
use Rattle.part_runs.proofs.ticks.tick.Goals as goal

pub ask_dues-requires-clause-moments : goal.ask_dues-requires-clause-moments
ask_dues-requires-clause-moments g c =
    due_moments c.args.standing.now.last _ c.args.standing.now.queries c.in-Ok.dues c.in-Ok.ensures.due

pub returns-in-Ok-clause-ran : goal.returns-in-Ok-clause-ran
returns-in-Ok-clause-ran g c =
    let state = c.args.standing.now in
    let same : to_z w64 (of_z w64 c.args.moment) ≡ c.args.moment = search rules in
    let told = subst (λ (at : ℤ). due_answer state.last at state.queries ≡ Ok c.in-Ok.dues) same c.in-Ok.ensures.due in
    let stood = subst (λ (at : ℤ). c.due.new.self ≡ at_moment state at) same c.in-Ok.ensures.last in
    due_answers c.args.store.now c.args.p.now c.ask_dues.new.p state c.due.new.self c.args.moment c.args.content.now
    c.in-Ok.dues told stood c.ask_dues.result c.ask_dues.ensures.asked

pub returns-in-Err-Fault-clause-ran : goal.returns-in-Err-Fault-clause-ran
returns-in-Err-Fault-clause-ran g c =
    let state = c.args.standing.now in
    let same : to_z w64 (of_z w64 c.args.moment) ≡ c.args.moment = search rules in
    let told : due_answer state.last c.args.moment state.queries ≡ Err c.in-Err-Fault.fault =
    subst (λ (at : ℤ). due_answer state.last at state.queries ≡ Err c.in-Err-Fault.fault) same
    (subst (λ (r : Refusal DueFault). Withholds r (due_answer state.last (to_z w64 (of_z w64 c.args.moment))
    state.queries)) c.in-Err-Fault.field-0-is c.in-Err-Fault.ensures.due) in
    subst (λ (config : Config). IfOk c.refuse_tick.result (λ ran. AloneDid config (form.Standing (line.Tick c.args.moment))
    c.args.content.now ran c.args.p.now c.args.p.now state c.due.new.self)) c.config.ensures.config
    (undue_answers c.runs_go_on.ensures.more c.texts_stay.ensures.line g.N.Names.setting c.config.result.now
    c.args.p.now c.is_sound.ensures.pass c.is_sound.ensures.borne_out c.requires.every c.refuse_tick.result state
    c.due.new.self c.args.moment c.args.content.now c.in-Err-Fault.fault c.refuse_tick.ensures.ran told
    c.in-Err-Fault.ensures.kept)
