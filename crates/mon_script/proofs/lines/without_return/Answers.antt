use Rattle.std.proofs.Common.{◌≡◌, ◌∙◌, ◌==◌, false, ℕ, ◌++◌, ◌∷◌, [], sym, ap, arith}
use Rattle.std.proofs.lemmas.Bool.Decides.{nat_tests}
use Rattle.mon_script.specs.Lines.{carriage_return, without_return}
use Rattle.mon_script.proofs.LineLemmas.{without_return-return, without_return-other}
use Rattle.mon_script.proofs.lines.without_return.Goals as goal

pub returns-then-last-eq13 : goal.returns-then-last-eq13
returns-then-last-eq13 c =
    let front = c.in-Some.front.now in
    record {
      line = sym (ap without_return (c.in-Some.ensures.cases.0 ∙ ap (λ (last : ℕ). front ++ last ∷ [])
          c.if-last-eq13.true) ∙ without_return-return front);
    }

pub returns-else-last-eq13 : goal.returns-else-last-eq13
returns-else-last-eq13 c =
    let front = c.in-Some.front.now in
    let last = c.in-Some.last.now in
    let other : (last == carriage_return) ≡ false = grind (arith, nat_tests) in
    record {
      line = c.in-Some.ensures.cases.0 ∙ sym (ap without_return c.in-Some.ensures.cases.0 ∙ without_return-other
          front last other);
    }
