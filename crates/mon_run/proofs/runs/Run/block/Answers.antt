use Rattle.std.proofs.Common.{inl, inr, ◌≡◌, ◌∙◌, ◌++◌, List, ℕ, length, map, ap, sym, subst, arith}
use Rattle.std.proofs.lemmas.List.{length-map}
use Rattle.std.proofs.lemmas.Result.{err_from_is_err_and, on_ok_weaker}
use Rattle.line_runs.specs.declared.lines.LineRan.{LineRan}
use Rattle.mon_run.specs.Endings.{Did, Progress}
use Rattle.mon_run.specs.declared.stop.Stop.{Stop}
use Rattle.mon_run.specs.declared.stop.Stop.TheVariants as stop
use Rattle.mon_run.specs.within.Lines.{BlockHalts, Noted, TextsStop, block_traces, prints}
use Rattle.mon_run.specs.within.Stops.{seen}
use Rattle.mon_run.proofs.DueLemmas.{block_noted_due, on_err_of, on_ok_of}
use Rattle.mon_run.proofs.EndLemmas.{counts_then}
use Rattle.mon_run.proofs.RunLemmas.{err_weaker, handed_on}
use Rattle.mon_run.proofs.ScriptLemmas.{block_cut, block_ran, block_starved, block_unread, did_end}
use Rattle.mon_run.proofs.runs.Run.block.Goals as goal
use Rattle.part_runs.specs.PartsDone.{ActedBeside}
use Rattle.run_traces.specs.declared.traces.LineTrace.{LineTrace}
use Rattle.run_traces.specs.declared.line_files.LineFiles.{LineFiles}
use Rattle.running_query.proofs.GoingLemmas.{same_fronts}

pub run_beside-requires-clause-contents : goal.run_beside-requires-clause-contents
run_beside-requires-clause-contents g c = λ κs lives.
    ap (λ (l : List LineFiles). length l) c.as_slice.ensures.items ∙ c.in_ok-contents.ensures.count

pub came-requires-clause-traces : goal.came-requires-clause-traces
came-requires-clause-traces g c = omega (arith, c.in_ok-texts.ensures.traces, c.in_ok-rans.ensures.each, c.requires.few)

pub came-requires-clause-texts : goal.came-requires-clause-texts
came-requires-clause-texts g c = omega (arith, c.in_ok-texts.ensures.texts, c.in_ok-rans.ensures.each, c.requires.few)

pub returns-in_err-contents-clause-stops : goal.returns-in_err-contents-clause-stops
returns-in_err-contents-clause-stops g c =
    let before : Progress = seen g.F.Folder.state g.O.Sink.state c.args.self.now in
    let after : Progress = seen g.F.Folder.state g.O.Sink.state c.contents.new.self in
    let known = c.args.p.now.seen in
    let lines = c.args.lines.now in
    handed_on c.from_residual.result (λ (s : Stop). BlockHalts c.args.store.now lines known known s before after)
    c.in_err-contents.field-0.0 (err_from_is_err_and c.from_residual.result c.from_residual.ensures.1)
    (block_unread c.args.store.now lines known c.in_err-contents.field-0.0
    (ap (λ log. log.traces.items) c.contents.ensures.log) c.in_err-contents.ensures.stops)

pub returns-in_err-texts-clause-stops : goal.returns-in_err-texts-clause-stops
returns-in_err-texts-clause-stops g c =
    let before : Progress = seen g.F.Folder.state g.O.Sink.state c.args.self.now in
    let read : Progress = seen g.F.Folder.state g.O.Sink.state c.contents.new.self in
    let after : Progress = seen g.F.Folder.state g.O.Sink.state c.room.new.self in
    let known = c.args.p.now.seen in
    let lines = c.args.lines.now in
    handed_on c.from_residual-in_err-texts.result
    (λ (s : Stop). BlockHalts c.args.store.now lines known known s before after)
    c.in_err-texts.field-0.0
    (err_from_is_err_and c.from_residual-in_err-texts.result c.from_residual-in_err-texts.ensures.1)
    (subst (λ (s : Stop). BlockHalts c.args.store.now lines known known s before after)
    (sym c.in_err-texts.ensures.stops)
    (subst (λ (p : Progress). BlockHalts c.args.store.now lines known known stop.OutOfMemory before p)
    (sym c.room.ensures.same)
    (block_starved c.args.store.now lines c.in_ok-contents.contents known known
    (ap (λ log. log.traces.items) c.contents.ensures.log) (same_fronts known) c.in_ok-contents.ensures.read)))

pub returns-in_err-rans-clause-stops : goal.returns-in_err-rans-clause-stops
returns-in_err-rans-clause-stops g c =
    let before : Progress = seen g.F.Folder.state g.O.Sink.state c.args.self.now in
    let after : Progress = seen g.F.Folder.state g.O.Sink.state c.room.new.self in
    let from = c.args.p.now.seen in
    let known = c.run_beside.new.p.seen in
    let lines = c.args.lines.now in
    handed_on c.from_residual-in_err-rans.result
    (λ (s : Stop). BlockHalts c.args.store.now lines from known s before after) stop.OutOfMemory
    (err_from_is_err_and c.from_residual-in_err-rans.result c.from_residual-in_err-rans.ensures.1)
    (subst (λ (p : Progress). BlockHalts c.args.store.now lines from known stop.OutOfMemory before p)
    (sym c.room.ensures.same)
    (block_starved c.args.store.now lines c.in_ok-contents.contents from known
    (ap (λ log. log.traces.items) c.contents.ensures.log) c.run_beside.ensures.fronts c.in_ok-contents.ensures.read))

pub returns-clause-ran : goal.returns-clause-ran
returns-clause-ran g c =
    let lines = c.args.lines.now in
    let contents = c.in_ok-contents.contents in
    let rans : List LineRan = c.in_ok-rans.rans in
    let traces : List LineTrace = map (λ (ran : LineRan). ran.trace) rans in
    let texts : List (List ℕ) = map (λ (ran : LineRan). ran.text) rans in
    let before : Progress = seen g.F.Folder.state g.O.Sink.state c.args.self.now in
    let read : Progress = seen g.F.Folder.state g.O.Sink.state c.contents.new.self in
    let noted : Progress = seen g.F.Folder.state g.O.Sink.state c.came.new.self in
    let after : Progress = seen g.F.Folder.state g.O.Sink.state c.texts.new.self in
    let put : Noted (block_traces traces) read noted =
    subst (λ (p : Progress). Noted (block_traces traces) p noted) c.room.ensures.same c.came.ensures.noted in
    let printed : c.as_slice-2.result.now ≡ texts = c.as_slice-2.ensures.value ∙ c.came.ensures.texts
    ∙ ap (λ (t : List (List ℕ)). t ++ texts) c.in_ok-texts.ensures.none in
    let beside : ActedBeside c.args.store.now lines contents rans c.args.p.now c.run_beside.new.p =
    subst (λ (held : List LineFiles). ActedBeside c.args.store.now lines held rans c.args.p.now c.run_beside.new.p)
    c.as_slice.ensures.items c.in_ok-rans.ensures.ran in
    on_ok_weaker c.texts.result (λ wrote.
    block_ran c.args.store.now lines contents traces beside.places texts c.args.p.now c.run_beside.new.p before read
    noted c.in_ok-contents.ensures.read c.in_ok-contents.ensures.count
    (length-map rans (λ (ran : LineRan). ran.trace) ∙ c.in_ok-rans.ensures.each) beside.count beside.tells
    (did_end (block_traces traces) put.folder put.sink put.ends) (ap (λ log. log.traces.items) c.contents.ensures.log)
    put.ends after (subst (λ (t : List (List ℕ)). Did (prints t) noted after) printed wrote)
    (ap (λ log. log.traces.items) c.texts.ensures.log)) c.texts.ensures.wrote

pub returns-clause-stops : goal.returns-clause-stops
returns-clause-stops g c =
    let lines = c.args.lines.now in
    let contents = c.in_ok-contents.contents in
    let rans : List LineRan = c.in_ok-rans.rans in
    let traces : List LineTrace = map (λ (ran : LineRan). ran.trace) rans in
    let texts : List (List ℕ) = map (λ (ran : LineRan). ran.text) rans in
    let before : Progress = seen g.F.Folder.state g.O.Sink.state c.args.self.now in
    let read : Progress = seen g.F.Folder.state g.O.Sink.state c.contents.new.self in
    let noted : Progress = seen g.F.Folder.state g.O.Sink.state c.came.new.self in
    let after : Progress = seen g.F.Folder.state g.O.Sink.state c.texts.new.self in
    let put : Noted (block_traces traces) read noted =
    subst (λ (p : Progress). Noted (block_traces traces) p noted) c.room.ensures.same c.came.ensures.noted in
    let printed : c.as_slice-2.result.now ≡ texts = c.as_slice-2.ensures.value ∙ c.came.ensures.texts
    ∙ ap (λ (t : List (List ℕ)). t ++ texts) c.in_ok-texts.ensures.none in
    let counts = counts_then c.contents.ensures.continues.counts
    (counts_then c.room.ensures.continues.counts c.came.ensures.continues.counts) in
    let beside : ActedBeside c.args.store.now lines contents rans c.args.p.now c.run_beside.new.p =
    subst (λ (held : List LineFiles). ActedBeside c.args.store.now lines held rans c.args.p.now c.run_beside.new.p)
    c.as_slice.ensures.items c.in_ok-rans.ensures.ran in
    err_weaker c.texts.result (λ (s : Stop). TextsStop c.as_slice-2.result.now s noted after)
    (λ (s : Stop). BlockHalts c.args.store.now lines c.args.p.now.seen c.run_beside.new.p.seen s before after)
    (λ stopped stops.
    block_cut c.args.store.now lines contents traces beside.places texts c.args.p.now c.run_beside.new.p before read
    noted c.in_ok-contents.ensures.read c.in_ok-contents.ensures.count
    (length-map rans (λ (ran : LineRan). ran.trace) ∙ c.in_ok-rans.ensures.each) beside.count beside.tells
    (did_end (block_traces traces) put.folder put.sink put.ends) (ap (λ log. log.traces.items) c.contents.ensures.log)
    put.ends after stopped counts (ap (λ log. log.traces.items) c.texts.ensures.log) c.texts.ensures.folder
    (subst (λ (t : List (List ℕ)). TextsStop t stopped noted after) printed stops)) c.texts.ensures.stops

pub returns-in_err-contents-clause-due_so_far : goal.returns-in_err-contents-clause-due_so_far
returns-in_err-contents-clause-due_so_far g c =
    on_err_of c.from_residual.result (inl (ap (λ log. log.traces.items) c.contents.ensures.log))

pub returns-in_err-texts-clause-due_so_far : goal.returns-in_err-texts-clause-due_so_far
returns-in_err-texts-clause-due_so_far g c =
    on_err_of c.from_residual-in_err-texts.result (inl (ap (λ (p : Progress). p.ends) c.room.ensures.same
    ∙ ap (λ log. log.traces.items) c.contents.ensures.log))

pub returns-in_err-rans-clause-due_so_far : goal.returns-in_err-rans-clause-due_so_far
returns-in_err-rans-clause-due_so_far g c =
    on_err_of c.from_residual-in_err-rans.result (inl (ap (λ (p : Progress). p.ends) c.room.ensures.same
    ∙ ap (λ log. log.traces.items) c.contents.ensures.log))

pub returns-clause-due : goal.returns-clause-due
returns-clause-due g c = on_ok_weaker c.texts.result (λ wrote.
    block_noted_due c.args.lines.now c.in_ok-rans.rans c.came.ensures.noted.ends
    (ap (λ (p : Progress). p.ends) c.room.ensures.same ∙ ap (λ log. log.traces.items) c.contents.ensures.log)
    (ap (λ log. log.traces.items) c.texts.ensures.log) c.in_ok-rans.ensures.each c.in_ok-rans.ensures.plain)
    c.texts.ensures.wrote

pub returns-clause-due_so_far : goal.returns-clause-due_so_far
returns-clause-due_so_far g c = on_err_of c.texts.result (inr
    (block_noted_due c.args.lines.now c.in_ok-rans.rans c.came.ensures.noted.ends
    (ap (λ (p : Progress). p.ends) c.room.ensures.same ∙ ap (λ log. log.traces.items) c.contents.ensures.log)
    (ap (λ log. log.traces.items) c.texts.ensures.log) c.in_ok-rans.ensures.each c.in_ok-rans.ensures.plain))

pub returns-clause-every : goal.returns-clause-every
returns-clause-every g c = on_ok_of c.texts.result c.in_ok-rans.ensures.ran.tells.every

pub returns-clause-stock : goal.returns-clause-stock
returns-clause-stock g c = on_ok_of c.texts.result c.in_ok-rans.ensures.stock
