-- Trees, apart from where they stand in the text.
use Rattle.std.specs.Prelude.{List, [], None, map}
use Rattle.mon_expr.specs.SameTrees.{bare_predicate, bare_sum}
use Rattle.mql_ast.specs.Trees.{ItemTree}
use Rattle.typed_trees.specs.Nodes as node
use Rattle.typed_trees.specs.Nodes.{NodeTree}
use Rattle.typed_trees.specs.declared.levels.Level.TheVariants as level
use Rattle.typed_trees.specs.declared.nodes.NodeInfo.{NodeInfo}

-- of what is told of a node, its columns alone
abbrev pub bare_info : NodeInfo → NodeInfo
bare_info info = record { at = None; columns = info.columns; fixed = []; level = level.Leaf }

-- items by what they add up, whatever they are called
abbrev pub bare_items : List ItemTree → List ItemTree
bare_items = map (λ item. record { name = None; sum = bare_sum item.sum })

-- a tree that stands nowhere
abbrev pub bare_tree : NodeTree → NodeTree
bare_tree (node.Fetch info schema metric) = node.Fetch (bare_info info) schema metric
bare_tree (node.Filter info by input) = node.Filter (bare_info info) (bare_predicate by) (bare_tree input)
bare_tree (node.Align info by input) = node.Align (bare_info info) by (bare_tree input)
bare_tree (node.GroupBy info by with input) = node.GroupBy (bare_info info) by with (bare_tree input)
bare_tree (node.Value info items input) = node.Value (bare_info info) (bare_items items) (bare_tree input)
bare_tree (node.Top info most column input) = node.Top (bare_info info) most column (bare_tree input)
bare_tree (node.Join info left right) = node.Join (bare_info info) (bare_tree left) (bare_tree right)
bare_tree (node.Union info left right) = node.Union (bare_info info) (bare_tree left) (bare_tree right)
