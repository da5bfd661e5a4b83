use Rattle.std.proofs.Common.{Bor, refl, subst}
use Rattle.typed_trees.specs.Nodes.{node_tree}
use Rattle.typed_trees.specs.declared.nodes.Node.{Node}
use Rattle.kept_laws.specs.Flowing.{WorksByRow}
use Rattle.standing_incr.proofs.FlowingLemmas.{work_end, work_next}
use Rattle.standing_incr.proofs.in_place.work_by_row.Goals as goal

pub loop-node-preserved : goal.loop-node-preserved
loop-node-preserved c rest =
    c.loop-node.invariant
    (work_next c.args.above.now c.loop-node.node-index c.node-item.result c.loop-node-test.true
    (subst (λ (one : Bor Node). WorksByRow (node_tree one.now)) c.node-item.is (c.if-not-works_by_row.ensures refl)) rest)

pub returns : goal.returns
returns c known =
    c.loop-node.invariant (work_end c.args.above.now c.loop-node.node-index c.loop-node-test.false)
