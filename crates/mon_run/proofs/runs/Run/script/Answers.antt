use Rattle.std.proofs.Common.{rules, ◌≡◌, ◌∙◌, None, Ok, Err, ap, refl, sym, subst}
use Rattle.std.specs.List.{AllByRecursion}
use Rattle.mon_script.specs.Blocks.{AreInBlocks}
use Rattle.mon_script.specs.Lawful.{IsLawfulLine}
use Rattle.mon_run.specs.Endings.{Progress}
use Rattle.mon_run.specs.declared.stop.Stop.{Stop}
use Rattle.mon_run.specs.within.Lines.{TextEnds}
use Rattle.mon_run.specs.within.Stops.{noted, script_stop, seen}
use Rattle.mon_run.proofs.EndingLemmas.{text_refused, text_spelled}
use Rattle.mon_run.proofs.RunLemmas.{none_noted}
use Rattle.mon_run.proofs.runs.Run.script.Goals as goal

pub spelled-requires-clause-lawful : goal.spelled-requires-clause-lawful
spelled-requires-clause-lawful g c = λ κs lives.
    subst (AllByRecursion (IsLawfulLine c.args.config.topology)) (sym c.as_slice.ensures.items) c.in-Ok.ensures.lawful

pub spelled-requires-clause-blocks : goal.spelled-requires-clause-blocks
spelled-requires-clause-blocks g c = λ κs lives.
    subst (AreInBlocks None) (sym c.as_slice.ensures.items) c.in-Ok.ensures.blocks

pub returns-in-Ok-clause-ended : goal.returns-in-Ok-clause-ended
returns-in-Ok-clause-ended g c =
    text_spelled c.args.config c.args.text.now c.as_slice.result.now (noted c.spelled.new.self) c.spelled.result
    (seen g.F.Folder.state g.O.Sink.state c.spelled.new.self)
    (c.in-Ok.ensures.exact ∙ ap Ok (sym c.as_slice.ensures.items)) c.spelled.ensures.ended

pub returns-in-Err-clause-ended : goal.returns-in-Err-clause-ended
returns-in-Err-clause-ended g c =
    let before : Progress = seen g.F.Folder.state g.O.Sink.state c.args.self.now in
    let stopped : c.from.result ≡ script_stop c.in-Err.refusal = search rules in
    subst (λ (s : Stop). TextEnds c.args.config c.args.text.now (noted c.args.self.now) (Err s) before before)
    (sym stopped)
    (text_refused c.args.config c.args.text.now c.in-Err.refusal (noted c.args.self.now) before
    (none_noted c.args.self.now c.requires.none_noted) refl c.in-Err.ensures.exact)
