-- what is told of the rest of the tree, with the groupings so far, is told of the whole
use Rattle.std.proofs.Common.{◌≡◌, ◌≤◌, ◌+◌, ◌&&◌}
use Rattle.std.specs.Prelude.{nat_le}
use Rattle.typed_trees.specs.ExplanationParts.{nodes}
use Rattle.typed_trees.specs.Nodes.{node_tree}
use Rattle.mon_meaning.specs.Incremental.{group_count, is_incremental, is_one_path}
use Rattle.standing_incr.proofs.ways.is_incremental.Given as goal

abbrev pub invariant-loop-rest : goal.invariant-loop-rest
invariant-loop-rest l = record {
  few : l.groups ≤ 1;
  told : (is_one_path (node_tree l.rest) && nat_le (l.groups + group_count (node_tree l.rest)) 1)
      ≡ is_incremental (node_tree l.tree);
}

abbrev pub decreases-loop-rest : goal.decreases-loop-rest
decreases-loop-rest l = nodes (node_tree l.rest)
