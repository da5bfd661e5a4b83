-- Where what is left of both is the same, the whole trees are.
use Rattle.std.proofs.Common.{◌≡◌, ◌≤◌}
use Rattle.typed_trees.specs.ExplanationParts.{nodes}
use Rattle.typed_trees.specs.Nodes.{node_tree}
use Rattle.mon_meaning.specs.within.SameTrees.{bare_tree}
use Rattle.mon_meaning.proofs.same_trees.+are_same_tree.Given as goal

abbrev pub decreases-are_same_tree : goal.decreases-are_same_tree
decreases-are_same_tree l = nodes (node_tree l.one.now)

abbrev pub invariant-loop-one : goal.invariant-loop-one
invariant-loop-one l =
    (nodes (node_tree l.one) ≤ nodes (node_tree l.fn.one))
    × (bare_tree (node_tree l.one) ≡ bare_tree (node_tree l.other)
    → bare_tree (node_tree l.fn.one) ≡ bare_tree (node_tree l.fn.other))

abbrev pub decreases-loop-one : goal.decreases-loop-one
decreases-loop-one l = nodes (node_tree l.one)
