use Rattle.std.proofs.Common.{List, ℕ, Result, string_bytes, subst, arith}
use Rattle.std.proofs.lemmas.Result.{err_from_is_err_and}
use Rattle.mon_script.specs.Lines.{lines_of}
use Rattle.mon_value.specs.declared.refusals.Refusal.{Refusal}
use Rattle.weave_core.proofs.LineRunLemmas.{Running, lines_end, lines_refused, running_begins, running_more}
use Rattle.weave_core.proofs.PassedLemmas.{passed_on}
use Rattle.weave_core.specs.ScheduleTurns.{LinesSo}
use Rattle.schedule_lines.specs.declared.calls.ScheduleFault.{ScheduleFault}
use Rattle.weave_core.proofs.schedules.run_lines.Goals as goal

pub loop-line-init : goal.loop-line-init
loop-line-init c = record {
  kept = c.requires.kept;
  few = omega arith;
  running = λ config start agrees.
      running_begins config start (lines_of c.args.text.now) c.args.weave.now (string_bytes c.args.out.now) agrees;
}

pub loop-line-preserved : goal.loop-line-preserved
loop-line-preserved c = record {
  kept = c.in_ok-run_numbered.ensures.kept;
  few = c.in_ok-run_numbered.ensures.few;
  running = λ config start agrees.
      let so_far = c.loop-line.invariant.running config start agrees in
      running_more config start (lines_of c.args.text.now) c.loop-line.number (lines_of c.loop-line.rest.now)
      c.in-Some.line.now
      (lines_of c.in-Some.left.now) c.in-Some.ensures.first c.loop-line.weave (string_bytes c.args.out.now)
      (string_bytes c.loop-line.out) so_far
      c.run_numbered.new.weave (string_bytes c.run_numbered.new.out) (c.in_ok-run_numbered.ensures.ran config
      so_far.state so_far.agrees);
}

pub returns-in_err-run_numbered : goal.returns-in_err-run_numbered
returns-in_err-run_numbered c = record {
  ran = λ config start agrees.
      let so_far = c.loop-line.invariant.running config start agrees in
      let before = string_bytes c.args.out.now in
      let now = string_bytes c.loop-line.out in
      let after = string_bytes c.run_numbered.new.out in
      let why = c.in_err-run_numbered.field-0.0 in
      passed_on (λ (answer : Result Unit (Refusal ScheduleFault)). LinesSo config start c.args.text.now answer before
      after)
      c.from_residual.result why (err_from_is_err_and c.from_residual.result c.from_residual.ensures.1)
      (lines_refused config start c.args.text.now c.loop-line.number before Unit Unit (lines_of c.loop-line.rest.now)
      c.in-Some.line.now
      (lines_of c.in-Some.left.now) c.in-Some.ensures.first c.loop-line.weave c.run_numbered.new.weave now after so_far
      why
      (c.in_err-run_numbered.ensures.ran config so_far.state so_far.agrees));
}

pub returns : goal.returns
returns c = record {
  ran = λ config start agrees.
      let before = string_bytes c.args.out.now in
      let now = string_bytes c.loop-line.out in
      let so_far = subst (λ (rest : List ℕ). Running config start (lines_of c.args.text.now) c.loop-line.number
      (lines_of rest) c.loop-line.weave before now)
      c.in_default.ensures.first (c.loop-line.invariant.running config start agrees) in
      lines_end config start c.args.text.now c.loop-line.number before c.loop-line.weave now
      (string_bytes c.tell_unfinished.new.out) so_far
      (c.in_ok-tell_unfinished.ensures.told config so_far.state so_far.agrees);
}
