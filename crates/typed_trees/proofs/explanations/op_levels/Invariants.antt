-- The lines that were found, from the last one back, behind those of the parts to come.
use Rattle.std.proofs.Common.{◌≡◌, ◌++◌, None, reverse}
use Rattle.typed_trees.specs.ExplanationParts.{remaining_lines, remaining_nodes}
use Rattle.typed_trees.specs.Plans.{lines_below}
use Rattle.typed_trees.specs.Nodes.{node_tree}
use Rattle.typed_trees.proofs.explanations.op_levels.Given as goal

abbrev pub invariant-loop-part : goal.invariant-loop-part
invariant-loop-part l =
    remaining_lines l.parts.items ++ reverse l.lines.items ≡ lines_below None (node_tree l.typed.tree)

abbrev pub decreases-loop-part : goal.decreases-loop-part
decreases-loop-part l = remaining_nodes l.parts.items
