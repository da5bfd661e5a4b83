use Rattle.mon_hints.specs.Formulas.{formula_tree}
use Rattle.plan_split.proofs.JoinedLemmas.{or-one_of}
use Rattle.plan_split.proofs.joined_formulas.one_of.Goals as goal

pub returns : goal.returns
returns c = record {
  tree = or-one_of c.in_ok-any.any c.in_ok-choices.field-0 c.in_ok-choices-2.field-0 (formula_tree c.args.left)
      (formula_tree c.args.right) c.in_ok-any.ensures.items c.in_ok-choices.ensures.trees
      c.in_ok-choices-2.ensures.trees;
}
