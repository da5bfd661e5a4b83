-- The parts so far, with those of the parts to come, are all.
use Rattle.std.proofs.Common.{◌≡◌, ◌++◌}
use Rattle.typed_trees.specs.Nodes.{node_tree}
use Rattle.typed_trees.specs.Levels as spec
use Rattle.mon_meaning.specs.TopParts.{parts_seen, up_to}
use Rattle.mon_meaning.specs.within.PartsToCome.{nodes_left, parts_left}
use Rattle.mon_meaning.proofs.parts_up.top_parts.Given as goal

abbrev pub invariant-loop-part : goal.invariant-loop-part
invariant-loop-part l =
    parts_seen l.parts.items ++ parts_left (up_to l.highest) l.rest.items ≡ spec.top_parts (up_to l.highest)
    (node_tree l.tree)

abbrev pub decreases-loop-part : goal.decreases-loop-part
decreases-loop-part l = nodes_left l.rest.items
