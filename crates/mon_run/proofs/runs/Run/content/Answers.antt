use Rattle.std.proofs.Common.{IfErr, IfOk, refl, subst, sym}
use Rattle.mon_run.specs.Endings.{Progress}
use Rattle.mon_run.specs.within.Lines.{FileRead, FileStops}
use Rattle.mon_run.specs.within.Stops.{seen}
use Rattle.mon_run.proofs.ReadingLemmas.{other_read}
use Rattle.mon_script.specs.declared.forms.LineForm.{LineForm}
use Rattle.mon_run.proofs.runs.Run.content.Goals as goal

pub returns-in-Feed-clause-read : goal.returns-in-Feed-clause-read
returns-in-Feed-clause-read g c =
    let before : Progress = seen g.F.Folder.state g.O.Sink.state c.args.self.now in
    let after : Progress = seen g.F.Folder.state g.O.Sink.state c.one_file.new.self in
    subst (λ (what : LineForm). IfOk c.one_file.result (λ content. FileRead what content before after)) (sym c.in-Feed.is)
    c.one_file.ensures.read

pub returns-in-Feed-clause-stops : goal.returns-in-Feed-clause-stops
returns-in-Feed-clause-stops g c =
    let before : Progress = seen g.F.Folder.state g.O.Sink.state c.args.self.now in
    let after : Progress = seen g.F.Folder.state g.O.Sink.state c.one_file.new.self in
    subst (λ (what : LineForm). IfErr c.one_file.result (λ stopped. FileStops what stopped before after))
    (sym c.in-Feed.is) c.one_file.ensures.stops

pub returns-in-Pour-clause-read : goal.returns-in-Pour-clause-read
returns-in-Pour-clause-read g c =
    let before : Progress = seen g.F.Folder.state g.O.Sink.state c.args.self.now in
    let after : Progress = seen g.F.Folder.state g.O.Sink.state c.two_files.new.self in
    subst (λ (what : LineForm). IfOk c.two_files.result (λ content. FileRead what content before after))
    (sym c.in-Pour.is) c.two_files.ensures.read

pub returns-in-Pour-clause-stops : goal.returns-in-Pour-clause-stops
returns-in-Pour-clause-stops g c =
    let before : Progress = seen g.F.Folder.state g.O.Sink.state c.args.self.now in
    let after : Progress = seen g.F.Folder.state g.O.Sink.state c.two_files.new.self in
    subst (λ (what : LineForm). IfErr c.two_files.result (λ stopped. FileStops what stopped before after))
    (sym c.in-Pour.is) c.two_files.ensures.stops

pub returns-in-Ask-clause-read : goal.returns-in-Ask-clause-read
returns-in-Ask-clause-read g c =
    other_read c.args.what.now _ _ (seen g.F.Folder.state g.O.Sink.state c.args.self.now) c.in-Ask.is refl
    c.none.ensures.none

pub returns-in-Follow-clause-read : goal.returns-in-Follow-clause-read
returns-in-Follow-clause-read g c =
    other_read c.args.what.now _ _ (seen g.F.Folder.state g.O.Sink.state c.args.self.now) c.in-Follow.is refl
    c.none-in-Follow.ensures.none

pub returns-in-Control-clause-read : goal.returns-in-Control-clause-read
returns-in-Control-clause-read g c =
    other_read c.args.what.now _ _ (seen g.F.Folder.state g.O.Sink.state c.args.self.now) c.in-Control.is refl
    c.none-in-Control.ensures.none

pub returns-in-Standing-clause-read : goal.returns-in-Standing-clause-read
returns-in-Standing-clause-read g c =
    other_read c.args.what.now _ _ (seen g.F.Folder.state g.O.Sink.state c.args.self.now) c.in-Standing.is refl
    c.none-in-Standing.ensures.none

pub returns-in-Block-clause-read : goal.returns-in-Block-clause-read
returns-in-Block-clause-read g c =
    other_read c.args.what.now _ _ (seen g.F.Folder.state g.O.Sink.state c.args.self.now) c.in-Block.is refl
    c.none-in-Block.ensures.none
