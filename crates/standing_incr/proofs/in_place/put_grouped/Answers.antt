use Rattle.std.proofs.Common.{◌≡◌, ◌∙◌, sym, ap, subst}
use Rattle.typed_trees.specs.Nodes as node
use Rattle.typed_trees.specs.Nodes.{NodeTree, node_tree}
use Rattle.typed_trees.specs.declared.nodes.Node.{Node}
use Rattle.standing_incr.specs.KeptTables.{grouped_part}
use Rattle.standing_incr.specs.Putting.{AreRegrouped, AreRegroupedBy, CanRegroup, CanRegroupBy}
use Rattle.standing_incr.proofs.in_place.put_grouped.Goals as goal

pub returns-in-GroupBy-clause-groups : goal.returns-in-GroupBy-clause-groups
returns-in-GroupBy-clause-groups c others can put =
    let w = c.in-GroupBy in
    let exchanges = c.args.exchanges.items in
    let old = c.args.groups.now.entries in
    let new = c.put_flowing.new.groups.entries in
    let part : node_tree c.in_ok-way.way.end.now ≡ node.GroupBy w.info w.by w.with (node_tree w.input.value) =
    ap node_tree w.is in
    let whole : grouped_part (node_tree c.args.tree.now) ≡ node.GroupBy w.info w.by w.with (node_tree w.input.value) =
    sym c.in_ok-way.ensures.end ∙ part in
    let own : CanRegroupBy others w.by w.with (node_tree w.input.value) exchanges old =
    subst (λ (t : NodeTree). CanRegroup others t exchanges old) whole can in
    let lent = subst (λ (n : Node). CanRegroupBy others w.by w.with (node_tree n) exchanges old) (sym c.deref.ensures) own in
    subst (λ (t : NodeTree). AreRegrouped others t exchanges new) (sym whole)
    (subst (λ (n : Node). AreRegroupedBy others w.by w.with (node_tree n) exchanges new) c.deref.ensures
    (c.put_flowing.ensures.groups others lent put))
