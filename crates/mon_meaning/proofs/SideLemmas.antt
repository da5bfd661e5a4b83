-- What an operation with one side makes doesn't depend on other rows, and isn't counted.
use Rattle.std.proofs.Common.{◌≡◌, ◌+◌, ℕ, List, [], refl, add-zero, sym}
use Rattle.std.specs.Global.{Box}
use Rattle.mon_value.specs.declared.tables.TimedRow.{TimedRow}
use Rattle.typed_trees.specs.Nodes as tree
use Rattle.typed_trees.specs.Nodes.{NodeTree, node_tree}
use Rattle.typed_trees.specs.declared.nodes.Node.{Node}
use Rattle.typed_trees.specs.declared.nodes.Node.TheVariants as node
use Rattle.typed_trees.specs.declared.nodes.NodeInfo.{NodeInfo}
use Rattle.mon_meaning.specs.Operations.{CanOperate, operation_load, operation_rows}
use Rattle.mon_meaning.specs.within.Sides.{HasOneSide}

pub alone : (one : NodeTree) → HasOneSide one → (rows others : List TimedRow)
    → operation_rows one rows others ≡ operation_rows one rows []
alone (tree.Fetch info schema metric) side rows others = refl
alone (tree.Filter info by input) side rows others = refl
alone (tree.Align info by input) side rows others = refl
alone (tree.GroupBy info by with input) side rows others = refl
alone (tree.Value info items input) side rows others = refl
alone (tree.Top info most column input) side rows others = refl
alone (tree.Join info left right) side rows others = absurd side
alone (tree.Union info left right) side rows others = absurd side

pub can_alone : (one : NodeTree) → HasOneSide one → (rows others : List TimedRow) → CanOperate one rows others
    → CanOperate one rows []
can_alone (tree.Fetch info schema metric) side rows others can = tt
can_alone (tree.Filter info by input) side rows others can = tt
can_alone (tree.Align info by input) side rows others can = tt
can_alone (tree.GroupBy info by with input) side rows others can = can
can_alone (tree.Value info items input) side rows others can = can
can_alone (tree.Top info most column input) side rows others can = tt
can_alone (tree.Join info left right) side rows others can = absurd side
can_alone (tree.Union info left right) side rows others can = absurd side

pub no_load : (one : NodeTree) → HasOneSide one → (rows others : List TimedRow) (load : ℕ)
    → load ≡ load + operation_load one rows others
no_load (tree.Fetch info schema metric) side rows others load = sym (add-zero load)
no_load (tree.Filter info by input) side rows others load = sym (add-zero load)
no_load (tree.Align info by input) side rows others load = sym (add-zero load)
no_load (tree.GroupBy info by with input) side rows others load = sym (add-zero load)
no_load (tree.Value info items input) side rows others load = sym (add-zero load)
no_load (tree.Top info most column input) side rows others load = sym (add-zero load)
no_load (tree.Join info left right) side rows others load = absurd side
no_load (tree.Union info left right) side rows others load = absurd side

pub one_side : (one : Node)
    → ((info : NodeInfo) (left right : Box Node) → one ≡ node.Join info left right → ⊥)
    → ((info : NodeInfo) (left right : Box Node) → one ≡ node.Union info left right → ⊥) → HasOneSide (node_tree one)
one_side (node.Fetch info schema metric) join union = tt
one_side (node.Filter' info by p input) join union = tt
one_side (node.Align' info by p input) join union = tt
one_side (node.GroupBy' info by with p input) join union = tt
one_side (node.Value' info items p input) join union = tt
one_side (node.Top' info most column p input) join union = tt
one_side (node.Join' info p left q right) join union = absurd (join info _ _ refl)
one_side (node.Union' info p left q right) join union = absurd (union info _ _ refl)
