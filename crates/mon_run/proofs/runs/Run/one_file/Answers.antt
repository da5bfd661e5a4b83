use Rattle.std.proofs.Common.{◌∷◌, [], ◌∙◌, List, ℕ, ap, subst}
use Rattle.std.proofs.lemmas.Result.{err_from_is_err_and}
use Rattle.mon_run.specs.Endings.{Did, Progress}
use Rattle.mon_run.specs.Steps.{Ask}
use Rattle.mon_run.specs.declared.stop.Stop.{Stop}
use Rattle.mon_run.specs.within.Lines.{FileStops}
use Rattle.mon_run.specs.within.Stops.{ReadStops, seen}
use Rattle.mon_run.proofs.ReadLemmas.{short_by}
use Rattle.mon_run.proofs.RunLemmas.{handed_on}
use Rattle.mon_run.proofs.ReadingLemmas.{feed_read, feed_stops}
use Rattle.mon_script.specs.declared.forms.LineForm.TheVariants as form
use Rattle.run_traces.specs.RanLines.{one_file}
use Rattle.mon_run.proofs.runs.Run.one_file.Goals as goal

pub returns-clause-read : goal.returns-clause-read
returns-clause-read g c =
    let before : Progress = seen g.F.Folder.state g.O.Sink.state c.args.self.now in
    let after : Progress = seen g.F.Folder.state g.O.Sink.state c.read.new.self in
    let content : List ℕ = c.in_ok-content.content.items in
    feed_read c.args.name.now content _ {before = before} {after = after}
    (c.one.ensures.one ∙ ap one_file c.from_vec.ensures.items) (short_by _ c.in_ok-content.ensures.bounded)
    (subst (λ (n : List ℕ). Did (Ask n content ∷ []) before after) c.as_str.ensures.bytes c.in_ok-content.ensures.asked)

pub returns-in_err-content-clause-stops : goal.returns-in_err-content-clause-stops
returns-in_err-content-clause-stops g c =
    let before : Progress = seen g.F.Folder.state g.O.Sink.state c.args.self.now in
    let after : Progress = seen g.F.Folder.state g.O.Sink.state c.read.new.self in
    let stopped = c.in_err-content.field-0.0 in
    handed_on c.from_residual.result (λ (s : Stop). FileStops (form.Feed c.args.name.now) s before after) stopped
    (err_from_is_err_and c.from_residual.result c.from_residual.ensures.1)
    (feed_stops c.args.name.now stopped
    (subst (λ (n : List ℕ). ReadStops n stopped before after) c.as_str.ensures.bytes c.in_err-content.ensures.stops))
