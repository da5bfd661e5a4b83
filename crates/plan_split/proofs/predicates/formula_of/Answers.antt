use Rattle.std.proofs.Common.{◌≡◌, Result, Ok, Err, IfOk, sym, subst}
use Rattle.mon_hints.specs.Formulas.{FormulaTree, formula_tree}
use Rattle.mon_hints.specs.declared.formulas.Formula.{Formula}
use Rattle.mql_ast.specs.Trees.{predicate_tree}
use Rattle.plan_split.specs.FetchFormulas.{predicate_formula}
use Rattle.plan_split.specs.Meeting.{HoldsWhereTrue}
use Rattle.plan_split.proofs.PredicateLemmas.{predicate_promise}
use Rattle.plan_split.proofs.predicates.formula_of.Goals as goal

-- what a formula promises goes by its tree
promised : {E : Type 0} (found : Result Formula E) (tree : FormulaTree) (Promise : FormulaTree → Type 0) → Promise tree
    → IfOk found (λ formula. formula_tree formula ≡ tree) → IfOk found (λ formula. Promise (formula_tree formula))
promised (Ok formula) tree Promise kept e = subst Promise (sym e) kept
promised (Err refusal) tree Promise kept e = tt

pub returns-clause-promise : goal.returns-clause-promise
returns-clause-promise c =
    let tree = predicate_tree c.args.predicate.now in
    promised c.formula.result (predicate_formula c.args.buckets c.args.schema.now tree)
    (HoldsWhereTrue c.args.buckets c.args.schema.now tree) (predicate_promise c.args.buckets c.args.schema.now tree)
    c.formula.ensures.formula
