use Rattle.std.proofs.Common.{rules, ◌≡◌, ◌∙◌, ◌++◌, ℕ, Bool, List, [], Option, IfSome, Err, map, string_bytes, sym, subst}
use Rattle.std.proofs.Common.{ap}
use Rattle.mon_run.specs.Endings.{Progress, RunIs, progress, RunTells, Runs, seen_by}
use Rattle.mon_run.specs.Outside.{FolderState}
use Rattle.mon_run.specs.Plans.{came, run_plan}
use Rattle.mon_run.specs.Steps.{Plan}
use Rattle.mon_run.specs.declared.stop.Stop.{Stop}
use Rattle.mon_run.specs.declared.stop.Stop.TheVariants as stop
use Rattle.mon_run.specs.within.Stops.{Causes, Halts, Stops, noted, seen}
use Rattle.mon_run.proofs.EndLemmas.{run_ended}
use Rattle.mon_run.proofs.EndingLemmas.{run_tells, starved_status}
use Rattle.mon_run.proofs.RunLemmas.{err_weaker, told_as}
use Rattle.mon_run.proofs.command.run.Goals as goal
use Rattle.mon_value.specs.declared.histories.Histories.{Histories}
use Rattle.run_traces.specs.declared.traces.LineTrace.{LineTrace}

pub returns-clause-ran : goal.returns-clause-ran
returns-clause-ran g c =
    let words : List (List ℕ) = map string_bytes c.args.words.now in
    let weaves = c.command-ended.ensures.ended in
    let fresh : Progress = progress (g.F.Folder.state c.args.folder.now) (g.O.Sink.state c.args.out.now)
    c.new-log.result.traces.items in
    let before : Progress = progress (g.F.Folder.state c.args.folder.now) (g.O.Sink.state c.args.out.now) [] in
    let mid : Progress = seen g.F.Folder.state g.O.Sink.state c.command-ended.new.self in
    let after : Progress = seen g.F.Folder.state g.O.Sink.state c.close-status.new.self in
    let known : Option Histories = noted c.command-ended.new.self in
    let plan : Plan = run_plan (came weaves.woven known mid.ends) weaves.reads words in
    let start : fresh ≡ before = λ i. progress (g.F.Folder.state c.args.folder.now) (g.O.Sink.state c.args.out.now)
    (c.new-log.ensures.traces i) in
    let ended = c.command-ended.result in
    let status = c.close-status.result in
    let stops = err_weaker ended (λ (s : Stop). Halts plan s fresh mid)
    (λ (s : Stop). Stops plan s fresh mid) (λ stopped halts. halts.stops) weaves.ends.halts in
    let causes = err_weaker ended (λ (s : Stop). Halts plan s fresh mid)
    (λ (s : Stop). Causes s fresh mid) (λ stopped halts. halts.causes) weaves.ends.halts in
    let ran : RunIs plan status fresh after =
    run_ended plan fresh mid after ended status weaves.ends.completes stops causes
    c.command-ended.ensures.continues.counts
    c.close-status.ensures.continues.counts c.close-status.ensures.folder c.close-status.ensures.closes in
    let folder : c.folder-1.given.0 ≡ c.close-status.new.self.folder.now = search rules in
    let out : c.out-1.given.0 ≡ c.close-status.new.self.out.now = search rules in
    let log : c.log-2-1.given.0 ≡ c.close-status.new.self.log.now = search rules in
    let kept : c.command-ended.new.self.log.now ≡ c.log-2-1.given.0 = sym (log ∙ c.close-status.ensures.log) in
    let lines : mid.ends ≡ c.from_vec.result = ap (λ l. l.traces.items) kept ∙ sym c.from_vec.ensures.items in
    let final : Progress = progress (g.F.Folder.state c.folder-1.given.0) (g.O.Sink.state c.out-1.given.0)
    c.from_vec.result in
    let last : after ≡ final = λ i. progress (g.F.Folder.state (sym folder i)) (g.O.Sink.state (sym out i))
    ((ap (λ l. l.traces.items) (sym log) ∙ sym c.from_vec.ensures.items) i) in
    record {
      reads = weaves.reads;
      gave = sym (ap (λ (p : Progress). p.folder.gave) last)
          ∙ ap (λ (f : FolderState). f.gave) c.close-status.ensures.folder ∙ weaves.gave;
      woven = weaves.woven;
      printed = weaves.printed;
      is = subst (λ (k : Option Histories). RunIs (run_plan (came weaves.woven k c.from_vec.result) weaves.reads words)
          status before final) (ap (λ l. seen_by l.ended) kept)
          (subst (λ (traces : List LineTrace). RunIs (run_plan (came weaves.woven known traces) weaves.reads words) status
          before final) lines
          (subst (λ (a : Progress). RunIs plan status before a) last
          (subst (λ (b : Progress). RunIs plan status b after) start ran)));
      holds = subst (λ (k : Option Histories). IfSome k (λ h. RunTells words (status ≡ 6) weaves.reads h
          c.from_vec.result)) (ap (λ l. seen_by l.ended) kept)
          (subst (λ (traces : List LineTrace). IfSome known (λ h. RunTells words (status ≡ 6) weaves.reads h traces)) lines
          (told_as known (λ h. RunTells words (ended ≡ Err stop.OutOfMemory) weaves.reads h mid.ends)
          (λ h. RunTells words (status ≡ 6) weaves.reads h mid.ends)
          (λ h tells. run_tells (starved_status ended status mid after c.close-status.ensures.closes) tells)
          weaves.told));
    }
