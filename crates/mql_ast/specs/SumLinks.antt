-- What goes on a sum, as its copy is made from the left.
use Rattle.std.specs.Prelude.{ℕ, ◌+◌, List, [], ◌∷◌}
use Rattle.mql_ast.specs.declared.copying.sums.SumLink.{SumLink}
use Rattle.mql_ast.specs.declared.copying.sums.SumLink.TheVariants as link
use Rattle.mql_ast.specs.Trees.{SumTree, Plus, Minus, sum_tree}
use Rattle.mql_ast.specs.SumParts.{nodes}

-- the sum that goes on with a link
abbrev pub link_tree : SumLink → SumTree → SumTree
link_tree (link.Plus right) left = Plus left (sum_tree right.now)
link_tree (link.Minus right) left = Minus left (sum_tree right.now)

-- the sum that goes on with all links, the last of them first
abbrev pub linked_tree : List SumLink → SumTree → SumTree
linked_tree [] left = left
linked_tree (x ∷ xs) left = link_tree x (linked_tree xs left)

abbrev pub link_nodes : SumLink → ℕ
link_nodes (link.Plus right) = nodes right.now + 1
link_nodes (link.Minus right) = nodes right.now + 1

abbrev pub linked_nodes : List SumLink → ℕ
linked_nodes [] = 0
linked_nodes (x ∷ xs) = linked_nodes xs + link_nodes x
