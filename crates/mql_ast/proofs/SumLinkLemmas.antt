-- A link that is put at the end comes first.
use Rattle.std.proofs.Common.{◌≡◌, ◌+◌, List, [], ◌∷◌, ◌++◌, refl, ap, arith}
use Rattle.mql_ast.specs.declared.copying.sums.SumLink.{SumLink}
use Rattle.mql_ast.specs.Trees.{SumTree}
use Rattle.mql_ast.specs.SumLinks.{link_tree, linked_tree, link_nodes, linked_nodes}

pub tree_push : (xs : List SumLink) (x : SumLink) (t : SumTree) → linked_tree (xs ++ x ∷ []) t ≡ linked_tree xs
    (link_tree x t)
tree_push [] x t = refl
tree_push (y ∷ ys) x t = ap (link_tree y) (tree_push ys x t)

pub nodes_push : (xs : List SumLink) (x : SumLink) → linked_nodes (xs ++ x ∷ []) ≡ link_nodes x + linked_nodes xs
nodes_push [] x = omega arith
nodes_push (y ∷ ys) x = omega (arith, nodes_push ys x)
