use Rattle.std.proofs.Common.{◌+◌, ◌∷◌, List, length, sym, subst, arith}
use Rattle.std.proofs.lemmas.Result.{on_err_weaker, on_ok_weaker}
use Rattle.mon_script.specs.Lawful.{IsLawfulLine}
use Rattle.mon_script.specs.declared.script.ScriptLine.{ScriptLine}
use Rattle.mon_run.specs.Endings.{Progress}
use Rattle.mon_run.specs.declared.stop.Stop.{Stop}
use Rattle.mon_run.specs.within.Dues.{DueTo}
use Rattle.mon_run.specs.within.Lines.{AloneHalts, BlockHalts, LinesHalt, LinesRanTo}
use Rattle.mon_run.specs.within.Stops.{seen}
use Rattle.mon_run.proofs.BlockLemmas.{block_all, is_block, is_line}
use Rattle.mon_run.proofs.DueLemmas.{alone_due, alone_due_stopped, block_due, block_due_stopped}
use Rattle.mon_run.proofs.NumberLemmas.{block_room, split_kept, split_less}
use Rattle.mon_run.proofs.RunLemmas.{err_weaker}
use Rattle.mon_run.proofs.ScriptLemmas.{alone_halts, alone_to, block_halts, block_to}
use Rattle.mon_run.proofs.runs.Run.part.Goals as goal
use Rattle.part_runs.specs.PartsDone.{CanSplit}

pub block-requires-clause-lawful : goal.block-requires-clause-lawful
block-requires-clause-lawful g c = λ κs lives.
    let line = c.args.line.now in
    let behind = c.args.behind.now in
    let is = is_block line behind c.in-Some.lines.now c.in-Some._left.now c.requires.blocks (sym c.in-Some.ensures.cut) in
    block_all (IsLawfulLine c.args.store.now.topology) line behind c.in-Some.lines.now c.in-Some._left.now is c.requires.lawful

pub block-requires-clause-acts : goal.block-requires-clause-acts
block-requires-clause-acts g c = λ κs lives.
    (is_block c.args.line.now c.args.behind.now c.in-Some.lines.now c.in-Some._left.now c.requires.blocks
    (sym c.in-Some.ensures.cut)).ends.acts

pub block-requires-clause-few : goal.block-requires-clause-few
block-requires-clause-few g c =
    let is = is_block c.args.line.now c.args.behind.now c.in-Some.lines.now c.in-Some._left.now c.requires.blocks
    (sym c.in-Some.ensures.cut) in
    omega (arith, is.ends.few)

pub block-requires-clause-stock : goal.block-requires-clause-stock
block-requires-clause-stock g c = λ κs lives.
    let is = is_block c.args.line.now c.args.behind.now c.in-Some.lines.now c.in-Some._left.now c.requires.blocks
    (sym c.in-Some.ensures.cut) in
    split_less (length c.in-Some.lines.now) (1 + length c.args.behind.now) c.args.p.now
    (omega (arith, block_room c.in-Some.lines.now c.in-Some._left.now is)) c.requires.stock

pub alone-requires-clause-lawful : goal.alone-requires-clause-lawful
alone-requires-clause-lawful g c = λ κs lives. c.requires.lawful.0

pub alone-requires-clause-acts : goal.alone-requires-clause-acts
alone-requires-clause-acts g c = λ κs lives.
    (is_line c.args.line.now c.args.behind.now c.requires.blocks (sym c.in-None.ensures.cut)).acts

pub returns-in-Some-clause-ran : goal.returns-in-Some-clause-ran
returns-in-Some-clause-ran g c =
    let line = c.args.line.now in
    let behind = c.args.behind.now in
    let lines = c.in-Some.lines.now in
    let left = c.in-Some._left.now in
    let is = is_block line behind lines left c.requires.blocks (sym c.in-Some.ensures.cut) in
    let before : Progress = seen g.F.Folder.state g.O.Sink.state c.args.self.now in
    let after : Progress = seen g.F.Folder.state g.O.Sink.state c.block.new.self in
    on_ok_weaker c.block.result (λ ran. subst (λ (l : List ScriptLine). LinesRanTo c.args.store.now (line ∷ behind) l
    c.args.p.now.seen c.block.new.p.seen before after) (sym is.left_is) (block_to lines left is ran))
    c.block.ensures.ran

pub returns-in-Some-clause-stops : goal.returns-in-Some-clause-stops
returns-in-Some-clause-stops g c =
    let line = c.args.line.now in
    let behind = c.args.behind.now in
    let lines = c.in-Some.lines.now in
    let left = c.in-Some._left.now in
    let is = is_block line behind lines left c.requires.blocks (sym c.in-Some.ensures.cut) in
    let before : Progress = seen g.F.Folder.state g.O.Sink.state c.args.self.now in
    let after : Progress = seen g.F.Folder.state g.O.Sink.state c.block.new.self in
    err_weaker c.block.result
    (λ (s : Stop). BlockHalts c.args.store.now lines c.args.p.now.seen c.block.new.p.seen s before after)
    (λ (s : Stop). LinesHalt c.args.store.now (line ∷ behind) c.args.p.now.seen c.block.new.p.seen s before after)
    (λ stopped halts. block_halts lines left is stopped halts) c.block.ensures.stops

pub returns-in-Some-clause-stock : goal.returns-in-Some-clause-stock
returns-in-Some-clause-stock g c =
    let line = c.args.line.now in
    let behind = c.args.behind.now in
    let lines = c.in-Some.lines.now in
    let left = c.in-Some._left.now in
    let is = is_block line behind lines left c.requires.blocks (sym c.in-Some.ensures.cut) in
    on_ok_weaker c.block.result (λ stock.
    subst (λ (l : List ScriptLine). CanSplit (length l) c.block.new.p) (sym is.left_is)
    (stock (length left) (split_less (length lines + length left) (1 + length behind) c.args.p.now
    (block_room lines left is) c.requires.stock))) c.block.ensures.stock

pub returns-in-None-clause-ran : goal.returns-in-None-clause-ran
returns-in-None-clause-ran g c =
    let line = c.args.line.now in
    let behind = c.args.behind.now in
    let is = is_line line behind c.requires.blocks (sym c.in-None.ensures.cut) in
    on_ok_weaker c.alone.result (λ ran. alone_to _ is (sym is.left_is) ran) c.alone.ensures.ran

pub returns-in-None-clause-stops : goal.returns-in-None-clause-stops
returns-in-None-clause-stops g c =
    let line = c.args.line.now in
    let behind = c.args.behind.now in
    let is = is_line line behind c.requires.blocks (sym c.in-None.ensures.cut) in
    let before : Progress = seen g.F.Folder.state g.O.Sink.state c.args.self.now in
    let after : Progress = seen g.F.Folder.state g.O.Sink.state c.alone.new.self in
    err_weaker c.alone.result
    (λ (s : Stop). AloneHalts c.args.store.now line.what c.args.p.now.seen c.alone.new.p.seen s before after)
    (λ (s : Stop). LinesHalt c.args.store.now (line ∷ behind) c.args.p.now.seen c.alone.new.p.seen s before after)
    (λ stopped halts. alone_halts stopped is halts) c.alone.ensures.stops

pub returns-in-None-clause-stock : goal.returns-in-None-clause-stock
returns-in-None-clause-stock g c =
    let line = c.args.line.now in
    let behind = c.args.behind.now in
    let is = is_line line behind c.requires.blocks (sym c.in-None.ensures.cut) in
    on_ok_weaker c.alone.result (λ stock.
    subst (λ (l : List ScriptLine). CanSplit (length l) c.alone.new.p) (sym is.left_is)
    (split_kept (length behind) c.args.p.now c.alone.new.p stock
    (split_less (length behind) (1 + length behind) c.args.p.now (omega arith) c.requires.stock)))
    c.alone.ensures.stock

pub returns-in-Some-clause-due : goal.returns-in-Some-clause-due
returns-in-Some-clause-due g c =
    let line = c.args.line.now in
    let behind = c.args.behind.now in
    let lines = c.in-Some.lines.now in
    let left = c.in-Some._left.now in
    let is = is_block line behind lines left c.requires.blocks (sym c.in-Some.ensures.cut) in
    on_ok_weaker c.block.result (λ due.
    subst (λ (l : List ScriptLine). DueTo c.args.store.now.schemas (line ∷ behind) l c.args.standing.now
    c.args.standing.now c.args.self.now.log.now.traces.items c.block.new.self.log.now.traces.items) (sym is.left_is)
    (block_due c.args.store.now.schemas c.args.standing.now lines left is due)) c.block.ensures.due

pub returns-in-Some-clause-due_so_far : goal.returns-in-Some-clause-due_so_far
returns-in-Some-clause-due_so_far g c =
    let line = c.args.line.now in
    let behind = c.args.behind.now in
    let lines = c.in-Some.lines.now in
    let left = c.in-Some._left.now in
    let is = is_block line behind lines left c.requires.blocks (sym c.in-Some.ensures.cut) in
    on_err_weaker c.block.result (λ due. block_due_stopped c.args.store.now.schemas c.args.standing.now lines left is due)
    c.block.ensures.due_so_far

pub returns-in-None-clause-due : goal.returns-in-None-clause-due
returns-in-None-clause-due g c =
    let line = c.args.line.now in
    let behind = c.args.behind.now in
    let is = is_line line behind c.requires.blocks (sym c.in-None.ensures.cut) in
    on_ok_weaker c.alone.result (λ due. alone_due c.args.store.now.schemas _ (sym is.left_is) due) c.alone.ensures.due

pub returns-in-None-clause-due_so_far : goal.returns-in-None-clause-due_so_far
returns-in-None-clause-due_so_far g c =
    on_err_weaker c.alone.result (λ due. alone_due_stopped c.args.store.now.schemas due) c.alone.ensures.due_so_far
