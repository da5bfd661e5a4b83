-- The loop goes down from what was handed to it.
use Rattle.std.proofs.Common.{◌≤◌}
use Rattle.typed_trees.specs.declared.nodes.Node.{size-Node}
use Rattle.typed_trees.proofs.nodes.Node.+drop.Given as goal

abbrev pub invariant-loop-self : goal.invariant-loop-self
invariant-loop-self l = size-Node l.self ≤ size-Node l.fn.self
