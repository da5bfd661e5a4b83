use Rattle.std.proofs.Common.{◌∙◌, List, ℕ, sym, subst}
use Rattle.mon_config.proofs.LimitLemmas.{is_limited}
use Rattle.mon_run.specs.Endings.{Progress}
use Rattle.mon_run.specs.Plans.{file_plan}
use Rattle.mon_run.specs.declared.words.Verb.{Verb}
use Rattle.mon_run.specs.within.Lines.{TextTells}
use Rattle.mon_run.specs.within.Stops.{Weaves, noted, seen}
use Rattle.mon_run.proofs.RunLemmas.{none_noted, schedule_weave, text_weave}
use Rattle.mon_run.proofs.runs.Run.text_under.Goals as goal
use Rattle.weave_core.specs.Schedules.{IsPrinted}

pub script-requires-clause-limited : goal.script-requires-clause-limited
script-requires-clause-limited g c = λ κs lives.
    is_limited c.args.config c.requires.lawful

pub returns-in-Run-clause-ended : goal.returns-in-Run-clause-ended
returns-in-Run-clause-ended g c =
    let before : Progress = seen g.F.Folder.state g.O.Sink.state c.args.self.now in
    let after : Progress = seen g.F.Folder.state g.O.Sink.state c.script.new.self in
    let text : List ℕ = c.args.text.now in
    let known = noted c.script.new.self in
    subst (λ (v : Verb). Weaves (λ of. file_plan of c.args.config v text)
    (λ reads. IsPrinted c.args.config text) (TextTells v c.args.config text) known c.script.result before after)
    (sym c.in-Run.is) (text_weave c.args.config text known c.script.result after c.script.ensures.ended)

pub returns-in-Weave-clause-ended : goal.returns-in-Weave-clause-ended
returns-in-Weave-clause-ended g c =
    let before : Progress = seen g.F.Folder.state g.O.Sink.state c.args.self.now in
    let after : Progress = seen g.F.Folder.state g.O.Sink.state c.schedule.new.self in
    let text : List ℕ = c.args.text.now in
    let known = noted c.schedule.new.self in
    subst (λ (v : Verb). Weaves (λ of. file_plan of c.args.config v text)
    (λ reads. IsPrinted c.args.config text) (TextTells v c.args.config text) known c.schedule.result before after)
    (sym c.in-Weave.is)
    (schedule_weave c.args.config text known c.schedule.result after
    (none_noted c.schedule.new.self (c.schedule.ensures.left ∙ c.requires.none_noted)) c.schedule.ensures.ended)
