use Rattle.std.proofs.Common.{◌≡◌, ◌∙◌, [], List, map, sym, ap, subst}
use Rattle.std.specs.List.{AllByRecursion}
use Rattle.mon_value.specs.declared.columns.Column.{Column}
use Rattle.mon_value.specs.declared.tables.TimedRow.{TimedRow}
use Rattle.mql_ast.specs.Rows.{CanCompute}
use Rattle.mql_ast.specs.Trees.{item_tree}
use Rattle.typed_trees.specs.Nodes as node
use Rattle.typed_trees.specs.Nodes.{NodeTree, columns_of, info_of, node_tree}
use Rattle.typed_trees.specs.declared.nodes.Node.{Node}
use Rattle.typed_trees.specs.declared.nodes.NodeInfo.{NodeInfo}
use Rattle.mon_meaning.specs.Operations.{CanOperate}
use Rattle.mon_meaning.proofs.steps.one_sided_rows.Goals as goal

pub value_rows-requires-clause-rows : goal.value_rows-requires-clause-rows
value_rows-requires-clause-rows c =
    let w = c.in-Value in
    let input = node_tree w.input.value in
    let is : node_tree c.args.node.now ≡ node.Value w.info (map item_tree w.items) input = ap node_tree w.is in
    let can = subst (λ (tree : NodeTree). CanOperate tree c.args.rows []) is c.requires.can in
    let columns : c.deref-in-Value-2.result.now ≡ columns_of input =
    c.deref-in-Value-2.ensures
    ∙ ap (λ (i : NodeInfo). i.columns) (c.info-in-Value.ensures.info ∙ ap (λ (x : Node). info_of (node_tree x))
    c.deref-in-Value.ensures) in
    subst (λ (cs : List Column). AllByRecursion (λ (row : TimedRow). CanCompute cs row.cells) c.args.rows)
    (sym columns) can.1
