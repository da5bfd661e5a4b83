use Rattle.std.proofs.Common.{◌≡◌, ◌∙◌, List, rules, sym, ap, subst}
use Rattle.typed_trees.specs.Nodes.{NodeTree, columns_of, node_tree}
use Rattle.typed_trees.specs.declared.nodes.NodeInfo.{NodeInfo}
use Rattle.standing_incr.specs.Results.{rows_kept}
use Rattle.standing_incr.specs.Ways.{CanGoThrough, nodes_above, rows_through}
use Rattle.standing_incr.specs.declared.ways.Stop.TheVariants as stop
use Rattle.standing_incr.proofs.results.result_of.Goals as goal

pub rows_through-requires : goal.rows_through-requires
rows_through-requires c =
    let tree = node_tree c.args.tree.now in
    record {
      can = subst (λ (nodes : List NodeTree). CanGoThrough nodes c.in_ok-kept.kept) (sym c.in_ok-way.ensures.above)
          (subst (CanGoThrough (nodes_above stop.Grouping tree)) (sym c.in_ok-kept.ensures.rows) c.requires.can);
    }

pub returns : goal.returns
returns c =
    let tree = node_tree c.args.tree.now in
    let columns : c.deref.result.now ≡ columns_of tree = c.deref.ensures ∙ ap (λ (i : NodeInfo). i.columns)
    c.info.ensures.info in
    let rows : c.in_ok-rows.rows ≡ rows_through (nodes_above stop.Grouping tree) (rows_kept c.args.tables.now) =
    c.in_ok-rows.ensures.rows
    ∙ (λ i. rows_through (c.in_ok-way.ensures.above i) (c.in_ok-kept.ensures.rows i)) in
    record {
      within = search rules;
      finished = c.in_ok-table_of.ensures.table ∙ (λ i. record { columns = columns i; rows = rows i });
      over = tt;
    }
