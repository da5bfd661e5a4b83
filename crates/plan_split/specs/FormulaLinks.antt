-- What is made of formulas as they are found from the left. Only proofs need these.
use Rattle.std.specs.Prelude.{ℕ, ◌+◌, List, [], ◌∷◌}
use Rattle.mon_hints.specs.Formulas.{FormulaTree}
use Rattle.mql_ast.specs.PredicateParts.{nodes}
use Rattle.mql_ast.specs.Trees.{predicate_tree}
use Rattle.mql_ast.specs.declared.predicates.Predicate.{Predicate}
use Rattle.plan_split.specs.FetchFormulas.{both, one_of, predicate_formula}
use Rattle.plan_split.specs.declared.predicates.Link.{Link}
use Rattle.plan_split.specs.declared.predicates.Link.TheVariants as link
use denote.Ref.{Bor}

-- the formula that a link makes of one
abbrev pub link_formula : ℕ → List ℕ → Link → FormulaTree → FormulaTree
link_formula buckets schema (link.And right) left =
    both left (predicate_formula buckets schema (predicate_tree right.now))
link_formula buckets schema (link.Or right) left =
    one_of left (predicate_formula buckets schema (predicate_tree right.now))

-- the formula that all links make of one, the last of them first
abbrev pub linked_formula : ℕ → List ℕ → List Link → FormulaTree → FormulaTree
linked_formula buckets schema [] left = left
linked_formula buckets schema (x ∷ xs) left = link_formula buckets schema x (linked_formula buckets schema xs left)

abbrev pub link_nodes : Link → ℕ
link_nodes (link.And right) = nodes right.now + 1
link_nodes (link.Or right) = nodes right.now + 1

abbrev pub linked_nodes : List Link → ℕ
linked_nodes [] = 0
linked_nodes (x ∷ xs) = linked_nodes xs + link_nodes x

-- the formula of a fetch with filters of its keys, the last of them first
abbrev pub filtered_formula : ℕ → List ℕ → List (Bor Predicate) → FormulaTree → FormulaTree
filtered_formula buckets schema [] formula = formula
filtered_formula buckets schema (by ∷ filters) formula =
    both (filtered_formula buckets schema filters formula) (predicate_formula buckets schema (predicate_tree by.now))
