use Rattle.std.proofs.Common.{inl, inr, ◌∙◌, ◌∷◌, [], List, ℕ, ap, sym, subst, append-nil}
use Rattle.std.proofs.lemmas.Result.{err_from_is_err_and, on_ok_weaker}
use Rattle.mon_run.specs.Endings.{Did, Progress}
use Rattle.mon_run.specs.Steps.{Write}
use Rattle.mon_run.specs.declared.stop.Stop.{Stop}
use Rattle.mon_run.specs.declared.stop.Stop.TheVariants as stop
use Rattle.mon_run.specs.within.Lines.{AloneHalts}
use Rattle.mon_run.specs.within.Stops.{WriteStops, seen}
use Rattle.mon_run.proofs.DueLemmas.{noted_due, on_err_of, on_ok_of}
use Rattle.mon_run.proofs.EndLemmas.{counts_then}
use Rattle.mon_run.proofs.RunLemmas.{err_weaker, handed_on}
use Rattle.mon_run.proofs.ScriptLemmas.{alone_cut, alone_ran, alone_starved, alone_unread, read_still}
use Rattle.mon_run.proofs.runs.Run.alone.Goals as goal

pub returns-in_err-content-clause-stops : goal.returns-in_err-content-clause-stops
returns-in_err-content-clause-stops g c =
    let before : Progress = seen g.F.Folder.state g.O.Sink.state c.args.self.now in
    let after : Progress = seen g.F.Folder.state g.O.Sink.state c.content.new.self in
    let known = c.args.p.now.seen in
    handed_on c.from_residual.result
    (λ (s : Stop). AloneHalts c.args.store.now c.args.what.now known known s before after) c.in_err-content.field-0.0
    (err_from_is_err_and c.from_residual.result c.from_residual.ensures.1)
    (alone_unread c.args.store.now c.args.what.now known c.in_err-content.field-0.0
    (ap (λ log. log.traces.items) c.content.ensures.log) c.in_err-content.ensures.stops)

pub returns-in_err-ran-clause-stops : goal.returns-in_err-ran-clause-stops
returns-in_err-ran-clause-stops g c =
    let before : Progress = seen g.F.Folder.state g.O.Sink.state c.args.self.now in
    let after : Progress = seen g.F.Folder.state g.O.Sink.state c.content.new.self in
    let from = c.args.p.now.seen in
    let known = c.run_alone.new.p.seen in
    handed_on c.from_residual-in_err-ran.result
    (λ (s : Stop). AloneHalts c.args.store.now c.args.what.now from known s before after) stop.OutOfMemory
    (err_from_is_err_and c.from_residual-in_err-ran.result c.from_residual-in_err-ran.ensures.1)
    (alone_starved c.args.store.now c.args.what.now from known (ap (λ log. log.traces.items) c.content.ensures.log)
    c.run_alone.ensures.fronts c.in_ok-content.ensures.read)

pub returns-in_err-end-clause-stops : goal.returns-in_err-end-clause-stops
returns-in_err-end-clause-stops g c =
    let before : Progress = seen g.F.Folder.state g.O.Sink.state c.args.self.now in
    let read : Progress = seen g.F.Folder.state g.O.Sink.state c.content.new.self in
    let after : Progress = seen g.F.Folder.state g.O.Sink.state c.end.new.self in
    let from = c.args.p.now.seen in
    let known = c.run_alone.new.p.seen in
    handed_on c.from_residual-in_err-end.result
    (λ (s : Stop). AloneHalts c.args.store.now c.args.what.now from known s before after) c.in_err-end.field-0.0
    (err_from_is_err_and c.from_residual-in_err-end.result c.from_residual-in_err-end.ensures.1)
    (subst (λ (s : Stop). AloneHalts c.args.store.now c.args.what.now from known s before after)
    (sym c.in_err-end.ensures.stops)
    (alone_starved c.args.store.now c.args.what.now from known
    (c.in_err-end.ensures.kept.ends ∙ append-nil read.ends ∙ ap (λ log. log.traces.items) c.content.ensures.log)
    c.run_alone.ensures.fronts
    (read_still c.in_ok-content.ensures.read c.in_err-end.ensures.kept)))

pub returns-clause-ran : goal.returns-clause-ran
returns-clause-ran g c =
    let before : Progress = seen g.F.Folder.state g.O.Sink.state c.args.self.now in
    let read : Progress = seen g.F.Folder.state g.O.Sink.state c.content.new.self in
    let ended : Progress = seen g.F.Folder.state g.O.Sink.state c.end.new.self in
    let after : Progress = seen g.F.Folder.state g.O.Sink.state c.write.new.self in
    on_ok_weaker c.write.result (λ wrote.
    alone_ran {content = c.in_ok-content.content} {know = c.args.p.now} {known = c.run_alone.new.p}
    c.in_ok-content.ensures.read c.in_ok-ran.ensures.ran.acted.tells c.in_ok-end.ensures.ended
    (ap (λ log. log.traces.items) c.content.ensures.log) after
    (subst (λ (t : List ℕ). Did (Write t ∷ []) ended after) c.as_bytes.ensures.bytes wrote)
    (ap (λ log. log.traces.items) c.write.ensures.log)) c.write.ensures.wrote

pub returns-clause-stops : goal.returns-clause-stops
returns-clause-stops g c =
    let before : Progress = seen g.F.Folder.state g.O.Sink.state c.args.self.now in
    let read : Progress = seen g.F.Folder.state g.O.Sink.state c.content.new.self in
    let ended : Progress = seen g.F.Folder.state g.O.Sink.state c.end.new.self in
    let after : Progress = seen g.F.Folder.state g.O.Sink.state c.write.new.self in
    err_weaker c.write.result (λ (s : Stop). WriteStops c.as_bytes.result.now s ended after)
    (λ (s : Stop). AloneHalts c.args.store.now c.args.what.now c.args.p.now.seen c.run_alone.new.p.seen s before after)
    (λ stopped stops.
    alone_cut {content = c.in_ok-content.content} {know = c.args.p.now} {known = c.run_alone.new.p}
    c.in_ok-content.ensures.read c.in_ok-ran.ensures.ran.acted.tells c.in_ok-end.ensures.ended
    (ap (λ log. log.traces.items) c.content.ensures.log) after stopped
    (counts_then c.content.ensures.continues.counts c.end.ensures.continues.counts)
    (ap (λ log. log.traces.items) c.write.ensures.log) c.write.ensures.folder
    (subst (λ (t : List ℕ). WriteStops t stopped ended after) c.as_bytes.ensures.bytes stops)) c.write.ensures.stops

pub returns-in_err-content-clause-due_so_far : goal.returns-in_err-content-clause-due_so_far
returns-in_err-content-clause-due_so_far g c =
    on_err_of c.from_residual.result (inl (ap (λ log. log.traces.items) c.content.ensures.log))

pub returns-in_err-ran-clause-due_so_far : goal.returns-in_err-ran-clause-due_so_far
returns-in_err-ran-clause-due_so_far g c =
    on_err_of c.from_residual-in_err-ran.result (inl (ap (λ log. log.traces.items) c.content.ensures.log))

pub returns-in_err-end-clause-due_so_far : goal.returns-in_err-end-clause-due_so_far
returns-in_err-end-clause-due_so_far g c =
    let read : Progress = seen g.F.Folder.state g.O.Sink.state c.content.new.self in
    on_err_of c.from_residual-in_err-end.result
    (inl (c.in_err-end.ensures.kept.ends ∙ append-nil read.ends ∙ ap (λ log. log.traces.items) c.content.ensures.log))

pub returns-clause-every : goal.returns-clause-every
returns-clause-every g c = on_ok_of c.write.result c.in_ok-ran.ensures.ran.acted.tells.every

pub returns-clause-due : goal.returns-clause-due
returns-clause-due g c = on_ok_weaker c.write.result (λ wrote.
    noted_due _ c.in_ok-end.ensures.ended.ends (ap (λ log. log.traces.items) c.content.ensures.log)
    (ap (λ log. log.traces.items) c.write.ensures.log) c.in_ok-ran.ensures.ran.due c.in_ok-ran.ensures.ran.stood)
    c.write.ensures.wrote

pub returns-clause-due_so_far : goal.returns-clause-due_so_far
returns-clause-due_so_far g c = on_err_of c.write.result (inr
    (noted_due _ c.in_ok-end.ensures.ended.ends (ap (λ log. log.traces.items) c.content.ensures.log)
    (ap (λ log. log.traces.items) c.write.ensures.log) c.in_ok-ran.ensures.ran.due c.in_ok-ran.ensures.ran.stood))
