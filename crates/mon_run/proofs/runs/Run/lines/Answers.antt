use Rattle.std.proofs.Common.{rules, ◌≡◌, ◌∙◌, ◌<◌, ◌+◌, ◌∷◌, List, [], None, length, ap, sym, subst, arith}
use Rattle.std.proofs.lemmas.List.{nil_from_length}
use Rattle.std.specs.List.{AllByRecursion}
use Rattle.mon_script.specs.Blocks.{AreInBlocks}
use Rattle.mon_script.specs.Lawful.{IsLawfulLine}
use Rattle.mon_script.specs.declared.script.ScriptLine.{ScriptLine}
use Rattle.mon_run.specs.Endings.{Progress}
use Rattle.mon_run.specs.declared.stop.Stop.{Stop}
use Rattle.mon_run.specs.within.Blocks.{left_behind}
use Rattle.mon_run.specs.within.Dues.{DueTo}
use Rattle.mon_run.specs.within.Lines.{LinesHalt, LinesRanTo}
use Rattle.mon_run.specs.within.Stops.{seen}
use Rattle.std.proofs.lemmas.Result.{err_from_is_err_and}
use Rattle.mon_run.proofs.BlockLemmas.{left_all, left_blocks, left_shorter}
use Rattle.mon_run.proofs.DueLemmas.{due_further, due_none, due_stopped, due_whole}
use Rattle.mon_run.proofs.EndLemmas.{continues_then}
use Rattle.mon_run.proofs.LineLemmas.{all_ran_to, lines_halt, ran_further, ran_to_none}
use Rattle.mon_run.proofs.RunLemmas.{handed_on}
use Rattle.mon_run.proofs.runs.Run.lines.Goals as goal
use Rattle.part_runs.specs.PartsDone.{CanSplit}
use Rattle.standing.specs.DueLists.{standing_state}

pub loop-line-init : goal.loop-line-init
loop-line-init g c = record {
  continues = search rules;
  lawful = c.requires.lawful;
  blocks = c.requires.blocks;
  every = c.requires.every;
  stock = c.requires.stock;
  ran = ran_to_none c.args.store.now c.args.lines.now c.args.p.now.seen
      (seen g.F.Folder.state g.O.Sink.state c.args.self.now);
  due = due_none c.args.store.now.schemas c.args.lines.now c.new-standing.result c.args.self.now.log.now.traces.items
      c.new-standing.ensures.nothing;
}

pub part-requires-clause-lawful : goal.part-requires-clause-lawful
part-requires-clause-lawful g c = λ κs lives.
    let next : c.loop-line.left.now ≡ c.in-Some.line.now ∷ c.in-Some.behind.now = search rules in
    subst (AllByRecursion (IsLawfulLine c.args.store.now.topology)) next c.loop-line.invariant.lawful

pub part-requires-clause-blocks : goal.part-requires-clause-blocks
part-requires-clause-blocks g c = λ κs lives.
    let next : c.loop-line.left.now ≡ c.in-Some.line.now ∷ c.in-Some.behind.now = search rules in
    subst (AreInBlocks None) next c.loop-line.invariant.blocks

pub part-requires-clause-stock : goal.part-requires-clause-stock
part-requires-clause-stock g c = λ κs lives.
    let next : c.loop-line.left.now ≡ c.in-Some.line.now ∷ c.in-Some.behind.now = search rules in
    let count : length c.loop-line.left.now ≡ 1 + length c.in-Some.behind.now =
    ap (λ (l : List ScriptLine). length l) next ∙ omega arith in
    subst (λ n. CanSplit n c.loop-line.p) count c.loop-line.invariant.stock

pub loop-line-preserved : goal.loop-line-preserved
loop-line-preserved g c =
    let i = c.loop-line.invariant in
    let line = c.in-Some.line.now in
    let behind = c.in-Some.behind.now in
    let lines = c.args.lines.now in
    let next : c.loop-line.left.now ≡ line ∷ behind = search rules in
    let same : c.left_behind-left.result.now ≡ left_behind line behind = c.left_behind-left.ensures.left in
    let after : Progress = seen g.F.Folder.state g.O.Sink.state c.part.new.self in
    let blocks = subst (AreInBlocks None) next i.blocks in
    record {
      continues = continues_then i.continues c.part.ensures.continues;
      lawful = subst (AllByRecursion (IsLawfulLine c.args.store.now.topology)) (sym same)
          (left_all (IsLawfulLine c.args.store.now.topology) line behind blocks (subst (AllByRecursion (IsLawfulLine c.args.store.now.topology)) next i.lawful));
      blocks = subst (AreInBlocks None) (sym same) (left_blocks line behind blocks);
      every = c.in_ok-part.ensures.every;
      stock = subst (λ (l : List ScriptLine). CanSplit (length l) c.part.new.p) (sym same) c.in_ok-part.ensures.stock;
      ran = subst (λ (l : List ScriptLine). LinesRanTo c.args.store.now lines l c.args.p.now.seen c.part.new.p.seen
          (seen g.F.Folder.state g.O.Sink.state c.args.self.now) after) (sym same)
          (ran_further after (subst (λ (l : List ScriptLine). LinesRanTo c.args.store.now lines l c.args.p.now.seen
          c.loop-line.p.seen (seen g.F.Folder.state g.O.Sink.state c.args.self.now)
          (seen g.F.Folder.state g.O.Sink.state c.loop-line.self)) next i.ran) c.in_ok-part.ensures.ran);
      due = subst (λ (l : List ScriptLine). DueTo c.args.store.now.schemas lines l (standing_state [] None)
          c.part.new.standing c.args.self.now.log.now.traces.items c.part.new.self.log.now.traces.items) (sym same)
          (due_further c.args.store.now.schemas (subst (λ (l : List ScriptLine). DueTo c.args.store.now.schemas lines l (standing_state [] None)
          c.loop-line.standing c.args.self.now.log.now.traces.items c.loop-line.self.log.now.traces.items) next i.due)
          c.in_ok-part.ensures.due);
    }

pub loop-line-smaller : goal.loop-line-smaller
loop-line-smaller g c =
    let line = c.in-Some.line.now in
    let behind = c.in-Some.behind.now in
    let next : c.loop-line.left.now ≡ line ∷ behind = search rules in
    let same : c.left_behind-left.result.now ≡ left_behind line behind = c.left_behind-left.ensures.left in
    let less = left_shorter line behind (subst (AreInBlocks None) next c.loop-line.invariant.blocks) in
    let all = ap (λ (l : List ScriptLine). length l) next in
    subst (λ (l : List ScriptLine). length l < length c.loop-line.left.now) (sym same) (omega (arith, less, all))

pub returns-clause-ran : goal.returns-clause-ran
returns-clause-ran g c =
    let none : c.loop-line.left.now ≡ [] = nil_from_length c.loop-line.left.now c.in_default.ensures.cases in
    all_ran_to none c.loop-line.invariant.ran

pub returns-clause-due : goal.returns-clause-due
returns-clause-due g c =
    let none : c.loop-line.left.now ≡ [] = nil_from_length c.loop-line.left.now c.in_default.ensures.cases in
    due_whole c.args.store.now.schemas none c.loop-line.invariant.due

pub returns-in_err-part-clause-due : goal.returns-in_err-part-clause-due
returns-in_err-part-clause-due g c =
    let next : c.loop-line.left.now ≡ c.in-Some.line.now ∷ c.in-Some.behind.now = search rules in
    due_stopped c.args.store.now.schemas (subst (λ (l : List ScriptLine). DueTo c.args.store.now.schemas c.args.lines.now l
    (standing_state [] None)
    c.loop-line.standing c.args.self.now.log.now.traces.items c.loop-line.self.log.now.traces.items) next
    c.loop-line.invariant.due)
    c.in_err-part.ensures.due_so_far

pub returns-in_err-part-clause-stops : goal.returns-in_err-part-clause-stops
returns-in_err-part-clause-stops g c =
    let i = c.loop-line.invariant in
    let line = c.in-Some.line.now in
    let behind = c.in-Some.behind.now in
    let lines = c.args.lines.now in
    let next : c.loop-line.left.now ≡ line ∷ behind = search rules in
    let before : Progress = seen g.F.Folder.state g.O.Sink.state c.args.self.now in
    let now : Progress = seen g.F.Folder.state g.O.Sink.state c.loop-line.self in
    let after : Progress = seen g.F.Folder.state g.O.Sink.state c.part.new.self in
    let stopped = c.in_err-part.field-0.0 in
    handed_on c.from_residual.result
    (λ (s : Stop). LinesHalt c.args.store.now lines c.args.p.now.seen c.part.new.p.seen s before after) stopped
    (err_from_is_err_and c.from_residual.result c.from_residual.ensures.1)
    (lines_halt after stopped i.continues.counts
    (subst (λ (l : List ScriptLine). LinesRanTo c.args.store.now lines l c.args.p.now.seen c.loop-line.p.seen before
    now) next i.ran) c.in_err-part.ensures.stops)
