use Rattle.std.proofs.Common.{◌-◌, false, length}
use Rattle.insertion_map.proofs.TreeLemmas.{AreBelow}
use Rattle.insertion_map.proofs.tree.HashTree.find.Given as goal

abbrev pub invariant-loop-node : goal.invariant-loop-node
invariant-loop-node g l = AreBelow (λ i. goal.F-post g l.test i false) l.nodes l.hash l.place l.bits

abbrev pub decreases-loop-node : goal.decreases-loop-node
decreases-loop-node g l = length l.nodes - l.place
