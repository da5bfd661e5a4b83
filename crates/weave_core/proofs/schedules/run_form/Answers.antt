use Rattle.std.proofs.Common.{string_bytes, sym, subst}
use Rattle.weave_core.proofs.PassedLemmas.{silent}
use Rattle.schedule_lines.specs.LawfulLines.{IsLawfulForm}
use Rattle.weave_core.specs.ScheduleTurns.{FormSo}
use Rattle.schedule_lines.specs.declared.lines.LineForm.{LineForm}
use Rattle.schedule_lines.specs.declared.lines.LineForm.TheVariants as form
use Rattle.weave_core.proofs.schedules.run_form.Goals as goal

pub declare-requires-clause-actor : goal.declare-requires-clause-actor
declare-requires-clause-actor c =
    let kept = c.requires.kept in
    let lawful = c.requires.lawful kept.config kept.state kept.agrees in
    (subst (λ (form : LineForm). IsLawfulForm kept.config.schemas kept.config.topology form) c.in-Declare.is lawful).0

pub declare-requires-clause-lawful : goal.declare-requires-clause-lawful
declare-requires-clause-lawful c = λ config state agrees.
    (subst (λ (form : LineForm). IsLawfulForm config.schemas config.topology form) c.in-Declare.is
    (c.requires.lawful config state agrees)).1

pub returns-in-Declare-clause-ran : goal.returns-in-Declare-clause-ran
returns-in-Declare-clause-ran c = λ config state agrees.
    let out = string_bytes c.args.out.now in
    subst (λ (what : LineForm). FormSo config state what c.declare.result c.declare.new.weave out out)
    (sym c.in-Declare.is)
    (silent config state Unit (form.Declare c.in-Declare.actor c.in-Declare.call) c.declare.result c.declare.new.weave
    out
    (c.declare.ensures.ran config state agrees))

pub returns-in-Meet-clause-ran : goal.returns-in-Meet-clause-ran
returns-in-Meet-clause-ran c = λ config state agrees.
    let out = string_bytes c.args.out.now in
    subst (λ (what : LineForm). FormSo config state what c.meet.result c.meet.new.weave out out) (sym c.in-Meet.is)
    (silent config state Unit (form.Meet c.in-Meet.actor c.in-Meet.other) c.meet.result c.meet.new.weave out
    (c.meet.ensures.ran config state agrees))
