-- A link or a filter that is put at the end comes first; every predicate has a condition.
use Rattle.std.proofs.Common.{◌≡◌, ℕ, ◌+◌, List, [], ◌∷◌, ◌++◌, refl, ap, arith}
use Rattle.mon_hints.specs.Formulas.{FormulaTree}
use Rattle.mql_ast.specs.Trees.{predicate_tree}
use Rattle.mql_ast.specs.declared.predicates.Predicate.{Predicate}
use Rattle.plan_split.specs.FormulaLinks.{filtered_formula, link_formula, link_nodes, linked_formula, linked_nodes}
use Rattle.plan_split.specs.FetchFormulas.{both, predicate_formula}
use Rattle.plan_split.specs.declared.predicates.Link.{Link}
use denote.Ref.{Bor}

pub linked_formula-push : (buckets : ℕ) (schema : List ℕ) (xs : List Link) (x : Link) (formula : FormulaTree)
    → linked_formula buckets schema (xs ++ x ∷ []) formula
    ≡ linked_formula buckets schema xs (link_formula buckets schema x formula)
linked_formula-push buckets schema [] x formula = refl
linked_formula-push buckets schema (y ∷ ys) x formula =
    ap (link_formula buckets schema y) (linked_formula-push buckets schema ys x formula)

pub linked_nodes-push : (xs : List Link) (x : Link) → linked_nodes (xs ++ x ∷ []) ≡ link_nodes x + linked_nodes xs
linked_nodes-push [] x = omega arith
linked_nodes-push (y ∷ ys) x = omega (arith, linked_nodes-push ys x)

pub filtered_formula-push : (buckets : ℕ) (schema : List ℕ) (xs : List (Bor Predicate)) (x : Bor Predicate)
    (formula : FormulaTree) → filtered_formula buckets schema (xs ++ x ∷ []) formula
    ≡ filtered_formula buckets schema xs (both formula (predicate_formula buckets schema (predicate_tree x.now)))
filtered_formula-push buckets schema [] x formula = refl
filtered_formula-push buckets schema (y ∷ ys) x formula =
    ap (λ (f : FormulaTree). both f (predicate_formula buckets schema (predicate_tree y.now)))
    (filtered_formula-push buckets schema ys x formula)

pub ruleset links_pushed = (linked_formula-push, linked_nodes-push)

pub ruleset filters_pushed = (filtered_formula-push)
