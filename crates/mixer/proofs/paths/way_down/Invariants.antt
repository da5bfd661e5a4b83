-- The nodes so far lead to the one at hand.
use Rattle.typed_trees.specs.Nodes.{node_tree}
use Rattle.mon_meaning.specs.TopParts.{up_to}
use Rattle.mon_meaning.specs.within.Paths.{trees_of}
use Rattle.typed_trees.specs.ExplanationParts.{nodes}
use Rattle.mixer.proofs.MixedWalks.{Down}
use Rattle.mixer.proofs.paths.way_down.Given as goal

abbrev pub invariant-loop-input : goal.invariant-loop-input
invariant-loop-input l = Down (up_to l.below) (trees_of l.above.items) (node_tree l.tree) (node_tree l.end)

abbrev pub decreases-loop-input : goal.decreases-loop-input
decreases-loop-input l = nodes (node_tree l.end)
