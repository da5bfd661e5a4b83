use Rattle.std.proofs.Common.{sym, ap, ◌∙◌}
use Rattle.mon_hints.specs.Formulas.{And, Or, formulas}
use Rattle.mon_hints.proofs.FormulaLemmas.{and_seen, and_tree, or_seen, or_tree}
use Rattle.mon_hints.proofs.formulas.+copies.Goals as goal

pub Formula::copy-returns-in_ok-copied_formulas-in-And : goal.Formula::copy-returns-in_ok-copied_formulas-in-And
Formula::copy-returns-in_ok-copied_formulas-in-And t c =
    let w = c.in-And in
    let copied = c.in_ok-copied_formulas-in-And in
    record {
      tree = and_tree copied.field-0 ∙ ap (λ trees. And (formulas trees)) copied.ensures.trees
          ∙ sym (and_seen c.args.self.now w.all c.as_slice.result.now w.is c.as_slice.ensures.value);
    }

pub Formula::copy-returns-in_ok-copied_formulas-in-Or : goal.Formula::copy-returns-in_ok-copied_formulas-in-Or
Formula::copy-returns-in_ok-copied_formulas-in-Or t c =
    let w = c.in-Or in
    let copied = c.in_ok-copied_formulas-in-Or in
    record {
      tree = or_tree copied.field-0 ∙ ap (λ trees. Or (formulas trees)) copied.ensures.trees
          ∙ sym (or_seen c.args.self.now w.any c.as_slice-in-Or.result.now w.is c.as_slice-in-Or.ensures.value);
    }
