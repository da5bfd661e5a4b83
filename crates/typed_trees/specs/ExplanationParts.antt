-- What is still to be explained of a query.
use Rattle.std.specs.Prelude.{ℕ, ◌+◌, List, sum_by}
use Rattle.std.specs.List.{flat_map}
use Rattle.typed_trees.specs.declared.explanations.OpLevel.{OpLevel}
use Rattle.typed_trees.specs.declared.explanations.Below.{Below}
use Rattle.typed_trees.specs.Plans.{lines_below}
use Rattle.typed_trees.specs.Nodes as node
use Rattle.typed_trees.specs.Nodes.{NodeTree, node_tree}

-- how many sources and operations a tree has
abbrev pub nodes : NodeTree → ℕ
nodes (node.Fetch info schema metric) = 1
nodes (node.Filter info by input) = nodes input + 1
nodes (node.Align info by input) = nodes input + 1
nodes (node.GroupBy info by with input) = nodes input + 1
nodes (node.Value info items input) = nodes input + 1
nodes (node.Top info most column input) = nodes input + 1
nodes (node.Join info left right) = nodes left + nodes right + 1
nodes (node.Union info left right) = nodes left + nodes right + 1

abbrev pub part_lines : Below → List OpLevel
part_lines part = lines_below part.above (node_tree part.node.now)

-- the lines of the parts to come, which are those in front
abbrev pub remaining_lines : List Below → List OpLevel
remaining_lines parts = flat_map part_lines parts

abbrev pub remaining_nodes : List Below → ℕ
remaining_nodes parts = sum_by (λ (part : Below). nodes (node_tree part.node.now)) parts
