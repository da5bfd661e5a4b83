use Rattle.std.proofs.Common.{◌≡◌, ◌≤◌, ◌∙◌, ◌+◌, ◌-◌, ℕ, suc, drop, length, sym, ap, arith}
use Rattle.mon_script.specs.Lines.{lines_of}
use Rattle.trials.proofs.tables.lines_behind.Goals as goal

pub loop-line-preserved : goal.loop-line-preserved
loop-line-preserved c =
    let left = c.args.count - (c.loop-line._line + 1) in
    let more : c.args.count - c.loop-line._line ≡ suc left = omega (arith, c.loop-line-test.true) in
    let shorter : length c.in-Some.behind.now ≤ length c.loop-line.rest.now = omega (arith, c.in-Some.ensures.shorter) in
    record {
      behind = sym (ap (λ (k : ℕ). drop k (lines_of c.loop-line.rest.now)) more
          ∙ ap (drop (suc left)) c.in-Some.ensures.first)
          ∙ c.loop-line.invariant.behind;
      within = let before = c.loop-line.invariant.within in omega (arith, shorter, before);
    }
