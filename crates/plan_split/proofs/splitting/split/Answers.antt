use Rattle.std.proofs.Common.{◌≡◌, ◌∙◌, List, map, rules, sym, subst}
use Rattle.mon_hints.specs.Formulas.{FormulaTree, formula_tree}
use Rattle.typed_trees.proofs.FetchColumnLemmas.{fetches_have_columns}
use Rattle.typed_trees.specs.Nodes.{node_tree, typed_tree}
use Rattle.typed_trees.specs.Plans.{fetches}
use Rattle.plan_split.specs.Meeting.{AllHoldWhereMet}
use Rattle.plan_split.proofs.FetchLemmas.{fetches_promise}
use Rattle.plan_split.proofs.PlanBuckets.{plan_below}
use Rattle.plan_split.proofs.splitting.split.Goals as goal

pub returns-clause-promise : goal.returns-clause-promise
returns-clause-promise c held query typed =
    let all = fetches (node_tree c.args.typed.tree) in
    subst (λ (formulas : List FormulaTree). AllHoldWhereMet held c.args.buckets all formulas)
    (sym c.in_ok-formulas.ensures.formulas)
    (fetches_promise held c.args.buckets all (fetches_have_columns held query (typed_tree c.args.typed) typed))

pub returns-clause-below : goal.returns-clause-below
returns-clause-below c =
    let same : map formula_tree c.as_slice.result.now ≡ map formula_tree c.in_ok-formulas.formulas = search rules in
    plan_below c.args.buckets c.requires.some (node_tree c.args.typed.tree) (map formula_tree c.as_slice.result.now)
    c.in_ok-buckets.buckets (same ∙ c.in_ok-formulas.ensures.formulas) c.in_ok-buckets.ensures.listing
