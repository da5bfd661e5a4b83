use Rattle.std.proofs.Common.{◌∙◌, ap, sym, length}
use Rattle.std.proofs.lemmas.Bool.{eqb-false}
use Rattle.mon_hints.proofs.FormulaLemmas.{and_tree}
use Rattle.plan_split.proofs.JoinedLemmas.{and-all_of}
use Rattle.plan_split.proofs.joined_formulas.all_of.Goals as goal

pub returns-else-is_empty : goal.returns-else-is_empty
returns-else-is_empty c = record {
  tree = and_tree c.args.all ∙ and-all_of c.args.all.items
      (λ none. eqb-false c.args.all.len 0 (sym c.is_empty.ensures ∙ c.if-is_empty.false)
      (c.args.all.ok.0 ∙ ap length none));
}
