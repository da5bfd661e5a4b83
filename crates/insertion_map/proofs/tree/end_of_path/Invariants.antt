use Rattle.std.proofs.Common.{◌<◌, ◌-◌, length}
use Rattle.insertion_map.specs.Tree.{Leads}
use Rattle.insertion_map.proofs.tree.end_of_path.Given as goal

abbrev pub invariant-loop-place : goal.invariant-loop-place
invariant-loop-place l = (l.place < length l.nodes) × Leads l.nodes 0 l.hash l.place l.bits

abbrev pub decreases-loop-place : goal.decreases-loop-place
decreases-loop-place l = length l.nodes - l.place
