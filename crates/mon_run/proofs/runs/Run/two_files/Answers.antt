use Rattle.std.proofs.Common.{◌∷◌, [], ◌∙◌, List, ℕ, subst}
use Rattle.std.proofs.lemmas.Result.{err_from_is_err_and}
use Rattle.mon_run.specs.Endings.{Did, Progress}
use Rattle.mon_run.specs.Steps.{Ask}
use Rattle.mon_run.specs.declared.stop.Stop.{Stop}
use Rattle.mon_run.specs.within.Lines.{FileStops}
use Rattle.mon_run.specs.within.Stops.{ReadStops, seen}
use Rattle.mon_run.proofs.ReadLemmas.{short_by}
use Rattle.mon_run.proofs.RunLemmas.{handed_on}
use Rattle.mon_run.proofs.ReadingLemmas.{first_stops, pour_read, second_stops}
use Rattle.mon_script.specs.declared.forms.LineForm.TheVariants as form
use Rattle.run_traces.specs.declared.line_files.LineFiles.{LineFiles}
use Rattle.mon_run.proofs.runs.Run.two_files.Goals as goal

pub returns-in-Ok-clause-read : goal.returns-in-Ok-clause-read
returns-in-Ok-clause-read g c =
    let before : Progress = seen g.F.Folder.state g.O.Sink.state c.args.self.now in
    let mid : Progress = seen g.F.Folder.state g.O.Sink.state c.read.new.self in
    let after : Progress = seen g.F.Folder.state g.O.Sink.state c.read-2.new.self in
    let one : List ℕ = c.in_ok-one.one.items in
    let other : List ℕ = c.in-Ok.other.items in
    pour_read c.args.first.now c.args.second.now one (short_by one c.in_ok-one.ensures.bounded) {before = before}
    {mid = mid}
    (subst (λ (n : List ℕ). Did (Ask n one ∷ []) before mid) c.as_str.ensures.bytes c.in_ok-one.ensures.asked) other
    (record { first = c.from_vec.result; second = c.from_vec-in-Ok.result }) {after = after}
    (λ i. record { first = c.from_vec.ensures.items i; second = c.from_vec-in-Ok.ensures.items i })
    (short_by other c.in-Ok.ensures.bounded)
    (subst (λ (n : List ℕ). Did (Ask n other ∷ []) mid after) c.as_str-2.ensures.bytes c.in-Ok.ensures.asked)

pub returns-in_err-one-clause-stops : goal.returns-in_err-one-clause-stops
returns-in_err-one-clause-stops g c =
    let before : Progress = seen g.F.Folder.state g.O.Sink.state c.args.self.now in
    let after : Progress = seen g.F.Folder.state g.O.Sink.state c.read.new.self in
    let stopped = c.in_err-one.field-0.0 in
    handed_on c.from_residual.result
    (λ (s : Stop). FileStops (form.Pour c.args.first.now c.args.second.now) s before after) stopped
    (err_from_is_err_and c.from_residual.result c.from_residual.ensures.1)
    (first_stops c.args.first.now c.args.second.now stopped
    (subst (λ (n : List ℕ). ReadStops n stopped before after) c.as_str.ensures.bytes c.in_err-one.ensures.stops))

pub returns-in-Err-clause-stops : goal.returns-in-Err-clause-stops
returns-in-Err-clause-stops g c =
    let before : Progress = seen g.F.Folder.state g.O.Sink.state c.args.self.now in
    let mid : Progress = seen g.F.Folder.state g.O.Sink.state c.read.new.self in
    let after : Progress = seen g.F.Folder.state g.O.Sink.state c.read-2.new.self in
    let one : List ℕ = c.in_ok-one.one.items in
    let stopped = c.in-Err.stop in
    second_stops c.args.first.now c.args.second.now one (short_by one c.in_ok-one.ensures.bounded) {before = before}
    {mid = mid}
    (subst (λ (n : List ℕ). Did (Ask n one ∷ []) before mid) c.as_str.ensures.bytes c.in_ok-one.ensures.asked) stopped
    {after = after} c.read.ensures.continues.counts
    (subst (λ (n : List ℕ). ReadStops n stopped mid after) c.as_str-2.ensures.bytes c.in-Err.ensures.stops)
