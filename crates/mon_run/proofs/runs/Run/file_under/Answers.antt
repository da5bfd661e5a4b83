use Rattle.std.proofs.Common.{◌≡◌, ◌∙◌, ◌∷◌, [], List, ℕ, None, false, ap, refl, sym, subst}
use Rattle.mon_run.specs.Endings.{Did, Progress}
use Rattle.mon_run.specs.Plans.{came, file_plan, first_content}
use Rattle.mon_run.specs.Steps.{Ask, is_too_long}
use Rattle.mon_run.specs.within.Lines.{NamedTells}
use Rattle.mon_run.specs.within.Stops.{named_plan, noted, seen}
use Rattle.mon_run.proofs.ReadLemmas.{short_by}
use Rattle.mon_run.proofs.RunLemmas.{named_weave, none_noted, weaves_stopped}
use Rattle.mon_run.proofs.runs.Run.file_under.Goals as goal
use Rattle.weave_core.specs.Schedules.{IsPrinted}

pub text_under-requires-clause-fresh : goal.text_under-requires-clause-fresh
text_under-requires-clause-fresh g c = λ κs lives.
    ap (λ log. log.traces.items) c.read.ensures.log ∙ c.requires.fresh

pub text_under-requires-clause-none_noted : goal.text_under-requires-clause-none_noted
text_under-requires-clause-none_noted g c = λ κs lives.
    ap (λ log. log.ended) c.read.ensures.log ∙ c.requires.none_noted

pub returns-in-Ok-clause-ended : goal.returns-in-Ok-clause-ended
returns-in-Ok-clause-ended g c =
    let before : Progress = seen g.F.Folder.state g.O.Sink.state c.args.self.now in
    let read : Progress = seen g.F.Folder.state g.O.Sink.state c.read.new.self in
    let after : Progress = seen g.F.Folder.state g.O.Sink.state c.text_under.new.self in
    let name : List ℕ = c.args.name.now in
    named_weave c.args.config c.args.verb name c.as_slice.result.now (noted c.text_under.new.self) c.text_under.result
    after
    (subst (λ (t : List ℕ). is_too_long t ≡ false) (sym c.as_slice.ensures.value) (short_by _ c.in-Ok.ensures.bounded))
    (subst (λ (t : List ℕ). Did (Ask name t ∷ []) before read) (sym c.as_slice.ensures.value) c.in-Ok.ensures.asked)
    c.read.ensures.continues.counts c.text_under.ensures.ended

pub returns-in-Err-clause-ended : goal.returns-in-Err-clause-ended
returns-in-Err-clause-ended g c =
    let after : Progress = seen g.F.Folder.state g.O.Sink.state c.read.new.self in
    let name : List ℕ = c.args.name.now in
    let known = noted c.read.new.self in
    weaves_stopped (named_plan c.args.config c.args.verb name)
    (λ reads. IsPrinted c.args.config (first_content reads)) (NamedTells c.args.verb c.args.config) known _ c.in-Err.stop
    after (none_noted c.read.new.self (ap (λ log. log.ended) c.read.ensures.log ∙ c.requires.none_noted))
    (c.in-Err.stop, refl, refl)
    (c.in-Err.ensures.stops (file_plan (came None known after.ends) c.args.config c.args.verb))
