use Rattle.std.proofs.Common.{◌≡◌, ◌∙◌, ◌+◌, ◌≤◌, None, Ok, Result, List, ℕ, length, sym, ap, subst, append-nil}
use Rattle.mon_script.specs.Lines.{lines_of}
use Rattle.mon_script.specs.Scripts.{script_from, script_in}
use Rattle.mon_script.specs.declared.faults.ScriptFault.{ScriptFault}
use Rattle.mon_script.specs.declared.script.ScriptLine.{ScriptLine}
use Rattle.mon_script.proofs.BlockLemmas.{script_blocks}
use Rattle.mon_script.proofs.Fronts.{few_more, front_more, given, with_front}
use Rattle.mon_script.proofs.LawfulLemmas.{script_lawful}
use Rattle.mon_script.proofs.script.read_script.Goals as goal

pub loop-line-preserved : goal.loop-line-preserved
loop-line-preserved c =
    let zones = c.args.topology.now in
    let n = c.loop-line.number + 1 in
    let script = c.loop-line.script in
    let read = c.in_ok-read.read in
    let left = lines_of c.in-Some.left.now in
    let rest = script_from zones (n + 1) read.next left in
    record {
      whole = ap (λ (front : List ScriptLine). with_front front rest) c.in_ok-push_line.ensures.pushed
          ∙ front_more zones script n c.loop-line.place c.in-Some.line.now left read c.in_ok-read.ensures.exact
          ∙ ap (λ (lines : List (List ℕ)). with_front script (script_from zones n c.loop-line.place lines))
          (sym c.in-Some.ensures.first)
          ∙ c.loop-line.invariant.whole;
      count = c.in_ok-read.ensures.few;
      each = subst (λ (made : List ScriptLine). length made ≤ n) (sym c.in_ok-push_line.ensures.pushed)
          (few_more script c.loop-line.number read.what c.loop-line.invariant.each);
    }

pub returns-clause-lawful : goal.returns-clause-lawful
returns-clause-lawful c =
    let script = c.loop-line.script in
    script_lawful c.args.topology.now 1 None (lines_of c.args.text.now) script
    (sym c.loop-line.invariant.whole
    ∙ ap (λ (text : List ℕ). with_front script
    (script_from c.args.topology.now (c.loop-line.number + 1) c.loop-line.place (lines_of text)))
    c.in_default.ensures.first
    ∙ ap given (append-nil script))

pub returns-clause-blocks : goal.returns-clause-blocks
returns-clause-blocks c =
    let script = c.loop-line.script in
    script_blocks c.args.topology.now 1 None (lines_of c.args.text.now) script tt
    (sym c.loop-line.invariant.whole
    ∙ ap (λ (text : List ℕ). with_front script
    (script_from c.args.topology.now (c.loop-line.number + 1) c.loop-line.place (lines_of text)))
    c.in_default.ensures.first
    ∙ ap given (append-nil script))
