-- The rows so far are those of a node on the way, and so is the load.
use Rattle.std.proofs.Common.{◌≡◌, ◌+◌, ◌*◌, length}
use Rattle.typed_trees.specs.Nodes.{node_tree}
use Rattle.mon_meaning.specs.Central.{all_held}
use Rattle.typed_trees.specs.ExplanationParts.{nodes}
use Rattle.mon_meaning.specs.within.Paths.{trees_of}
use Rattle.mon_meaning.proofs.WalkLemmas.{Walk}
use Rattle.mon_meaning.proofs.evaluation.+evaluation.Given as goal

abbrev pub decreases-rows_of : goal.decreases-rows_of
decreases-rows_of l = 4 * nodes (node_tree l.tree.now) + 3

abbrev pub decreases-rows_above : goal.decreases-rows_above
decreases-rows_above l = 4 * nodes (node_tree l.node.now) + 2

abbrev pub decreases-other_rows : goal.decreases-other_rows
decreases-other_rows l = 4 * nodes (node_tree l.node.now) + 1

abbrev pub decreases-right_rows : goal.decreases-right_rows
decreases-right_rows l = 4 * nodes (node_tree l.right.now) + 4

abbrev pub invariant-rows_of-loop-node : goal.invariant-rows_of-loop-node
invariant-rows_of-loop-node l = record {
  walk : Walk l.setting.grid (all_held l.setting.series.now) (node_tree l.tree) (trees_of l.above.items) l.rows
      l.fn.meter.load l.meter.load;
  limit : l.meter.limit ≡ l.fn.meter.limit;
}

abbrev pub decreases-rows_of-loop-node : goal.decreases-rows_of-loop-node
decreases-rows_of-loop-node l = length l.above.items
