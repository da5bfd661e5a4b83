-- What is made of a predicate, as its copy is made from the left.
use Rattle.std.specs.Prelude.{ℕ, ◌+◌, List, [], ◌∷◌}
use Rattle.mql_ast.specs.declared.copying.predicates.PredicateLink.{PredicateLink}
use Rattle.mql_ast.specs.declared.copying.predicates.PredicateLink.TheVariants as link
use Rattle.mql_ast.specs.Trees.{PredicateTree, Not, And, Or, predicate_tree}
use Rattle.mql_ast.specs.PredicateParts.{nodes}

-- the predicate that a link makes of one
abbrev pub link_tree : PredicateLink → PredicateTree → PredicateTree
link_tree link.Not left = Not left
link_tree (link.And right) left = And left (predicate_tree right.now)
link_tree (link.Or right) left = Or left (predicate_tree right.now)

-- the predicate that all links make of one, the last of them first
abbrev pub linked_tree : List PredicateLink → PredicateTree → PredicateTree
linked_tree [] left = left
linked_tree (x ∷ xs) left = link_tree x (linked_tree xs left)

abbrev pub link_nodes : PredicateLink → ℕ
link_nodes link.Not = 1
link_nodes (link.And right) = nodes right.now + 1
link_nodes (link.Or right) = nodes right.now + 1

abbrev pub linked_nodes : List PredicateLink → ℕ
linked_nodes [] = 0
linked_nodes (x ∷ xs) = linked_nodes xs + link_nodes x
