use Rattle.std.proofs.Common.{◌≡◌, ◌∙◌, ◌∷◌, [], List, ℕ, false, inl, sym, subst}
use Rattle.mon_run.specs.Endings.{Did, Progress}
use Rattle.mon_run.specs.Steps.{Write}
use Rattle.mon_run.specs.within.Stops.{is_silent, own_text, seen}
use Rattle.mon_run.proofs.EndLemmas.{closes_says}
use Rattle.mon_run.proofs.runs.Run.say.Goals as goal

pub returns-in-Ok-write-clause-closes : goal.returns-in-Ok-write-clause-closes
returns-in-Ok-write-clause-closes g c =
    let before : Progress = seen g.F.Folder.state g.O.Sink.state c.args.self.now in
    let after : Progress = seen g.F.Folder.state g.O.Sink.state c.write.new.self in
    let stopped = c.args.stop.now in
    let speaks : is_silent stopped ≡ false = sym c.is_silent.ensures.silent ∙ c.if-is_silent.false in
    let did : Did (Write (own_text stopped) ∷ []) before after =
    subst (λ (text : List ℕ). Did (Write text ∷ []) before after) (c.as_bytes.ensures.value ∙ c.in-Ok.ensures.text)
    c.in-Ok-write.ensures.wrote in
    closes_says before after stopped c.status_of-in-Ok-write.result speaks
    (inl (c.status_of-in-Ok-write.ensures.status, did))
