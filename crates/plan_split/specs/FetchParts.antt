-- What is still to be gone through of a query's tree. Only proofs need these.
use Rattle.std.specs.Prelude.{ℕ, ◌+◌, List, [], ◌∷◌, ◌++◌}
use Rattle.typed_trees.specs.ExplanationParts.{nodes}
use Rattle.typed_trees.specs.Nodes.{NodeTree, node_tree}
use Rattle.typed_trees.specs.Plans.{fetches}
use Rattle.typed_trees.specs.declared.nodes.Node.{Node}
use denote.Ref.{Bor}

-- the fetches of the parts to come, the last of them first
abbrev pub remaining_fetches : List (Bor Node) → List NodeTree
remaining_fetches [] = []
remaining_fetches (part ∷ parts) = remaining_fetches parts ++ fetches (node_tree part.now)

abbrev pub remaining_nodes : List (Bor Node) → ℕ
remaining_nodes [] = 0
remaining_nodes (part ∷ parts) = remaining_nodes parts + nodes (node_tree part.now)
