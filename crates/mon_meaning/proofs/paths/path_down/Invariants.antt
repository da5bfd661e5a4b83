-- the nodes so far lead to the one at hand
use Rattle.typed_trees.specs.Nodes.{node_tree}
use Rattle.typed_trees.specs.ExplanationParts.{nodes}
use Rattle.mon_meaning.specs.within.Paths.{Leads, trees_of}
use Rattle.mon_meaning.proofs.paths.path_down.Given as goal

abbrev pub invariant-loop-input : goal.invariant-loop-input
invariant-loop-input l = Leads (trees_of l.above.items) (node_tree l.tree) (node_tree l.source)

abbrev pub decreases-loop-input : goal.decreases-loop-input
decreases-loop-input l = nodes (node_tree l.source)
