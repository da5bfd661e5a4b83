use Rattle.std.proofs.Common.{◌≡◌, ◌∙◌, sym, ap, subst}
use Rattle.typed_trees.specs.Nodes as node
use Rattle.typed_trees.specs.Nodes.{NodeTree, node_tree}
use Rattle.typed_trees.specs.declared.nodes.Node.{Node}
use Rattle.mon_value.specs.Groups.{CanGroup}
use Rattle.standing_incr.specs.KeptTables.{CanGroupAt, flowing_rows}
use Rattle.standing_incr.specs.Ways.{CanGoThrough, nodes_above}
use Rattle.standing_incr.specs.declared.ways.Stop.TheVariants as stop
use Rattle.standing_incr.proofs.filling.groups_of.Goals as goal

pub parts_below-requires : goal.parts_below-requires
parts_below-requires c =
    let w = c.in-GroupBy in
    let rows = c.args.table.now.rows in
    let part : node_tree c.in_ok-way.way.end.now ≡ node.GroupBy w.info w.by w.with (node_tree w.input.value) =
    ap node_tree w.is in
    let can : CanGroupAt (node.GroupBy w.info w.by w.with (node_tree w.input.value)) rows =
    subst (λ (t : NodeTree). CanGroupAt t rows) (sym c.in_ok-way.ensures.end ∙ part) c.requires.can in
    record {
      through = subst (λ (n : Node). CanGoThrough (nodes_above stop.Alignment (node_tree n)) rows) (sym c.deref.ensures)
          can.0;
      group = subst (λ (n : Node). CanGroup (node.columns_of (node_tree n)) w.by w.with (flowing_rows (node_tree n) rows))
          (sym c.deref.ensures) can.1;
    }
