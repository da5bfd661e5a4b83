use Rattle.std.proofs.Common.{refl, sym, subst}
use Rattle.mon_run.specs.Endings.{Progress}
use Rattle.mon_run.specs.within.Lines.{ScriptEnds}
use Rattle.mon_run.specs.within.Stops.{noted, seen}
use Rattle.mon_run.proofs.EndingLemmas.{script_unmade}
use Rattle.mon_run.proofs.RunLemmas.{none_noted}
use Rattle.mon_store.specs.Beginnings.{IsFirst}
use Rattle.mon_run.proofs.runs.Run.under_name.Goals as goal

pub over-requires-clause-first : goal.over-requires-clause-first
over-requires-clause-first g c = λ κs lives.
    subst (λ config. IsFirst config c.in-Ok.pass) (sym c.in-Ok.ensures.config) c.in-Ok.ensures.first

pub returns-in-Ok-clause-ended : goal.returns-in-Ok-clause-ended
returns-in-Ok-clause-ended g c =
    let before : Progress = seen g.F.Folder.state g.O.Sink.state c.args.self.now in
    let after : Progress = seen g.F.Folder.state g.O.Sink.state c.over.new.self in
    subst (λ config. ScriptEnds config c.args.lines.now (noted c.over.new.self) c.over.result before after)
    c.in-Ok.ensures.config c.over.ensures.ended

pub returns-in-Err-clause-ended : goal.returns-in-Err-clause-ended
returns-in-Err-clause-ended g c =
    script_unmade c.args.blank.config c.args.lines.now (noted c.args.self.now)
    (seen g.F.Folder.state g.O.Sink.state c.args.self.now) (none_noted c.args.self.now c.requires.none_noted) refl
