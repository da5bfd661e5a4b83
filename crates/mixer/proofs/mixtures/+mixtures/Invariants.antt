-- The rows so far are those of a node on the way, and so are the pieces that are left and the load.
use Rattle.std.proofs.Common.{◌≡◌, ◌+◌, ◌*◌, length}
use Rattle.std.specs.Vec.Iter.{into_iter_items, into_iter_len}
use Rattle.typed_trees.specs.Nodes.{node_tree}
use Rattle.mon_meaning.specs.TopParts.{up_to}
use Rattle.mon_meaning.specs.within.Paths.{trees_of}
use Rattle.typed_trees.specs.ExplanationParts.{nodes}
use Rattle.mixer.proofs.MixedWalks.{Walk}
use Rattle.mixer.proofs.mixtures.+mixtures.Given as goal

abbrev pub decreases-mixed_rows : goal.decreases-mixed_rows
decreases-mixed_rows l = 3 * nodes (node_tree l.tree.now) + 2

abbrev pub decreases-rows_above : goal.decreases-rows_above
decreases-rows_above l = 3 * nodes (node_tree l.node.now) + 1

abbrev pub decreases-other_rows : goal.decreases-other_rows
decreases-other_rows l = 3 * nodes (node_tree l.node.now)

abbrev pub invariant-mixed_rows-loop-node : goal.invariant-mixed_rows-loop-node
invariant-mixed_rows-loop-node l = record {
  walk : Walk (up_to l.setting.below) (node_tree l.tree) (into_iter_items l.fn.pieces) (trees_of l.above.items) l.rows
      (into_iter_items l.pieces) l.fn.meter.load l.meter.load;
  items : into_iter_len l.pieces ≡ length (into_iter_items l.pieces);
  limit : l.meter.limit ≡ l.fn.meter.limit;
}

abbrev pub decreases-mixed_rows-loop-node : goal.decreases-mixed_rows-loop-node
decreases-mixed_rows-loop-node l = length l.above.items
