use Rattle.std.proofs.Common.{◌∙◌, ap, sym}
use Rattle.mon_hints.specs.Formulas.{formula_tree}
use Rattle.plan_split.specs.FetchFormulas.{wanted_formulas}
use Rattle.plan_split.proofs.JoinedLemmas.{wanted_formulas-And}
use Rattle.plan_split.proofs.joined_formulas.wanted.Goals as goal

pub returns-in-And : goal.returns-in-And
returns-in-And c = record {
  trees = wanted_formulas-And c.in-And.all ∙ ap (λ f. wanted_formulas (formula_tree f)) (sym c.in-And.is);
}
