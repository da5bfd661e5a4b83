use Rattle.std.proofs.Common.{rules, ◌≡◌, ◌∙◌, ◌+◌, ◌∷◌, [], List, ℕ, drop, length, length-append, length-drop, ap}
use Rattle.std.proofs.Common.{refl, sym, subst, arith}
use Rattle.std.proofs.lemmas.List.{drop_more, nil_from_length}
use Rattle.std.proofs.lemmas.Result.{err_from_is_err_and}
use Rattle.mon_script.specs.declared.script.ScriptLine.{ScriptLine}
use Rattle.mon_run.specs.Endings.{Progress}
use Rattle.mon_run.specs.declared.stop.Stop.{Stop}
use Rattle.mon_run.specs.declared.stop.Stop.TheVariants as stop
use Rattle.mon_run.specs.within.Lines.{FilesStop}
use Rattle.mon_run.specs.within.Stops.{seen}
use Rattle.run_traces.specs.declared.line_files.LineFiles.{LineFiles}
use Rattle.mon_run.proofs.EndLemmas.{continues_then}
use Rattle.mon_run.proofs.ReadingLemmas.{ReadTo, read_all, read_more, read_none, reads_starved, reads_stop}
use Rattle.mon_run.proofs.RunLemmas.{handed_on}
use Rattle.mon_run.proofs.runs.Run.contents.Goals as goal

pub loop-line-init : goal.loop-line-init
loop-line-init g c = record {
  continues = search rules;
  log = refl;
  count = search rules;
  read =
      let p : Progress = seen g.F.Folder.state g.O.Sink.state c.args.self.now in
      let lines = c.args.lines.now in
      subst (λ (held : List LineFiles). ReadTo lines lines held p p) (sym c.new-contents.ensures.empty)
      (read_none lines p);
}

pub loop-line-preserved : goal.loop-line-preserved
loop-line-preserved g c =
    let i = c.loop-line.invariant in
    let line : ScriptLine = c.line-item.result in
    let lines = c.args.lines.now in
    let rest = drop (c.loop-line.line-index + 1) lines in
    let next : drop c.loop-line.line-index lines ≡ line ∷ rest = drop_more lines c.loop-line.line-index line
    (omega (arith, c.loop-line-test.true)) ∙ ap (λ (l : ScriptLine). l ∷ rest) (sym c.line-item.is) in
    let after : Progress = seen g.F.Folder.state g.O.Sink.state c.content.new.self in
    record {
      continues = continues_then i.continues c.content.ensures.continues;
      log = c.content.ensures.log ∙ i.log;
      count = ap (λ (l : List LineFiles). length l) c.in_ok-push.ensures.added
          ∙ length-append c.loop-line.contents (c.in_ok-content.content ∷ []) ∙ ap (λ n. n + 1) i.count;
      read = read_more line c.in_ok-content.content after next i.read c.in_ok-push.ensures.added
          c.in_ok-content.ensures.read;
    }

pub returns-clause-read : goal.returns-clause-read
returns-clause-read g c =
    let count = length-drop c.loop-line.line-index c.args.lines.now in
    let none : drop c.loop-line.line-index c.args.lines.now ≡ [] = nil_from_length
    (drop c.loop-line.line-index c.args.lines.now) (omega (arith, c.loop-line-test.false)) in
    read_all none c.loop-line.invariant.read

pub returns-in_err-content-clause-stops : goal.returns-in_err-content-clause-stops
returns-in_err-content-clause-stops g c =
    let i = c.loop-line.invariant in
    let line : ScriptLine = c.line-item.result in
    let lines = c.args.lines.now in
    let rest = drop (c.loop-line.line-index + 1) lines in
    let next : drop c.loop-line.line-index lines ≡ line ∷ rest = drop_more lines c.loop-line.line-index line
    (omega (arith, c.loop-line-test.true)) ∙ ap (λ (l : ScriptLine). l ∷ rest) (sym c.line-item.is) in
    let before : Progress = seen g.F.Folder.state g.O.Sink.state c.args.self.now in
    let after : Progress = seen g.F.Folder.state g.O.Sink.state c.content.new.self in
    handed_on c.from_residual.result (λ (s : Stop). FilesStop lines s before after) c.in_err-content.field-0.0
    (err_from_is_err_and c.from_residual.result c.from_residual.ensures.1)
    (reads_stop line rest after c.in_err-content.field-0.0
    i.continues.counts next i.read c.in_err-content.ensures.stops)

pub returns-in_err-push-clause-stops : goal.returns-in_err-push-clause-stops
returns-in_err-push-clause-stops g c =
    let i = c.loop-line.invariant in
    let line : ScriptLine = c.line-item.result in
    let lines = c.args.lines.now in
    let rest = drop (c.loop-line.line-index + 1) lines in
    let next : drop c.loop-line.line-index lines ≡ line ∷ rest = drop_more lines c.loop-line.line-index line
    (omega (arith, c.loop-line-test.true)) ∙ ap (λ (l : ScriptLine). l ∷ rest) (sym c.line-item.is) in
    let before : Progress = seen g.F.Folder.state g.O.Sink.state c.args.self.now in
    let after : Progress = seen g.F.Folder.state g.O.Sink.state c.content.new.self in
    handed_on c.from_residual-in_err-push.result (λ (s : Stop). FilesStop lines s before after) stop.OutOfMemory
    (err_from_is_err_and c.from_residual-in_err-push.result c.from_residual-in_err-push.ensures.1)
    (reads_starved line rest next i.read c.in_ok-content.ensures.read)
