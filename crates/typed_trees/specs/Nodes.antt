-- Typed trees, apart from where they lie in memory.
use Rattle.std.specs.Prelude.{ℕ, ℤ, List, map}
use Rattle.mon_value.specs.declared.aggregates.Aggregate.{Aggregate}
use Rattle.mon_value.specs.declared.aligners.Aligner.{Aligner}
use Rattle.mon_value.specs.declared.columns.Column.{Column}
use Rattle.mql_ast.specs.Trees.{PredicateTree, ItemTree, predicate_tree, item_tree}
use Rattle.typed_trees.specs.declared.fixed.Fixed.{Fixed}
use Rattle.typed_trees.specs.declared.levels.Level.{Level}
use Rattle.typed_trees.specs.declared.nodes.Node.{Node}
use Rattle.typed_trees.specs.declared.nodes.Node.TheVariants as node
use Rattle.typed_trees.specs.declared.nodes.NodeInfo.{NodeInfo}
use Rattle.typed_trees.specs.declared.nodes.Typed.{Typed}

-- a source or an operation, on what flows into it
pub data NodeTree : Type 0 where
  Fetch : NodeInfo → List ℕ → List ℕ → NodeTree
  Filter : NodeInfo → PredicateTree → NodeTree → NodeTree
  Align : NodeInfo → Aligner → NodeTree → NodeTree
  GroupBy : NodeInfo → List ℕ → List Aggregate → NodeTree → NodeTree
  Value : NodeInfo → List ItemTree → NodeTree → NodeTree
  Top : NodeInfo → ℕ → ℕ → NodeTree → NodeTree
  Join : NodeInfo → NodeTree → NodeTree → NodeTree
  Union : NodeInfo → NodeTree → NodeTree → NodeTree

-- a query's tree, and the grid of its times
pub record TypedTree : Type 0 where
  pub tree : NodeTree
  pub every : ℤ
  pub within : ℤ

-- what is told of a node
abbrev pub info_of : NodeTree → NodeInfo
info_of (Fetch info schema metric) = info
info_of (Filter info by input) = info
info_of (Align info by input) = info
info_of (GroupBy info by with input) = info
info_of (Value info items input) = info
info_of (Top info most column input) = info
info_of (Join info left right) = info
info_of (Union info left right) = info

-- the columns of its table
abbrev pub columns_of : NodeTree → List Column
columns_of tree = (info_of tree).columns

-- the level at which it is done
abbrev pub level_of : NodeTree → Level
level_of tree = (info_of tree).level

-- the columns of its table that are fixed to a literal
abbrev pub fixed_of : NodeTree → List Fixed
fixed_of tree = (info_of tree).fixed

-- the tree that a node is
abbrev pub node_tree : Node → NodeTree
node_tree (node.Fetch info schema metric) = Fetch info schema metric
node_tree (node.Filter' info by p input) = Filter info (predicate_tree by) (node_tree input)
node_tree (node.Align' info by p input) = Align info by (node_tree input)
node_tree (node.GroupBy' info by with p input) = GroupBy info by with (node_tree input)
node_tree (node.Value' info items p input) = Value info (map item_tree items) (node_tree input)
node_tree (node.Top' info most column p input) = Top info most column (node_tree input)
node_tree (node.Join' info p left q right) = Join info (node_tree left) (node_tree right)
node_tree (node.Union' info p left q right) = Union info (node_tree left) (node_tree right)

abbrev pub typed_tree : Typed → TypedTree
typed_tree typed = record { tree = node_tree typed.tree; every = typed.every; within = typed.within }
