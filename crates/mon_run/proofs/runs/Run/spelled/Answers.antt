use Rattle.std.proofs.Common.{refl, subst}
use Rattle.mon_run.specs.Endings.{Progress}
use Rattle.mon_run.specs.within.Lines.{ScriptEnds}
use Rattle.mon_run.specs.within.Stops.{noted, seen}
use Rattle.mon_run.proofs.EndingLemmas.{script_unmade}
use Rattle.mon_run.proofs.RunLemmas.{none_noted}
use Rattle.mon_run.proofs.runs.Run.spelled.Goals as goal

pub returns-in-Ok-clause-ended : goal.returns-in-Ok-clause-ended
returns-in-Ok-clause-ended g c =
    let before : Progress = seen g.F.Folder.state g.O.Sink.state c.args.self.now in
    let after : Progress = seen g.F.Folder.state g.O.Sink.state c.under_name.new.self in
    subst (λ config. ScriptEnds config c.args.lines.now (noted c.under_name.new.self) c.under_name.result before after)
    c.in-Ok.ensures.config c.under_name.ensures.ended

pub returns-in-Err-clause-ended : goal.returns-in-Err-clause-ended
returns-in-Err-clause-ended g c =
    script_unmade c.args.config c.args.lines.now (noted c.args.self.now)
    (seen g.F.Folder.state g.O.Sink.state c.args.self.now) (none_noted c.args.self.now c.requires.none_noted) refl
