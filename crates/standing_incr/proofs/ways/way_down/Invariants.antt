-- the nodes so far, with those on the rest of the way, are all, and the way ends where it did
use Rattle.std.proofs.Common.{◌≡◌, ◌++◌}
use Rattle.typed_trees.specs.ExplanationParts.{nodes}
use Rattle.typed_trees.specs.Nodes.{node_tree}
use Rattle.mon_meaning.specs.within.Paths.{trees_of}
use Rattle.standing_incr.specs.Ways.{nodes_above, part_at}
use Rattle.standing_incr.proofs.ways.way_down.Given as goal

abbrev pub invariant-loop-input : goal.invariant-loop-input
invariant-loop-input l = record {
  above : trees_of l.above.items ++ nodes_above l.stop (node_tree l.end) ≡ nodes_above l.stop (node_tree l.tree);
  part : part_at l.stop (node_tree l.end) ≡ part_at l.stop (node_tree l.tree);
}

abbrev pub decreases-loop-input : goal.decreases-loop-input
decreases-loop-input l = nodes (node_tree l.end)
