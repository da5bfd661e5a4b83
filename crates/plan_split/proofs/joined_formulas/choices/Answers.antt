use Rattle.std.proofs.Common.{◌∙◌, ap, sym}
use Rattle.mon_hints.specs.Formulas.{formula_tree}
use Rattle.plan_split.specs.FetchFormulas.{choices}
use Rattle.plan_split.proofs.JoinedLemmas.{choices-Or}
use Rattle.plan_split.proofs.joined_formulas.choices.Goals as goal

pub returns-in-Or : goal.returns-in-Or
returns-in-Or c = record {
  trees = choices-Or c.in-Or.any ∙ ap (λ f. choices (formula_tree f)) (sym c.in-Or.is);
}
