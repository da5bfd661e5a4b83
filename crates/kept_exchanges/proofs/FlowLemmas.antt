-- Operations one after another on one row.
use Rattle.std.proofs.Common.{◌≡◌, ◌∙◌, ◌++◌, ◌≤◌, ◌<◌, ◌+◌, ℕ, zero, suc, Bor, get_or, take, Option, Some, None, IfSome, List, [], ◌∷◌, length, slice_get, refl, sym, ap, subst, arith}
use Rattle.std.specs.List.{AllByRecursion, cons_option, filter_map}
use Rattle.mon_value.specs.declared.tables.TimedRow.{TimedRow}
use Rattle.mon_meaning.specs.Operations.{CanOperate, operation_rows}
use Rattle.mon_meaning.specs.within.Sides.{HasOneSide}
use Rattle.mon_meaning.specs.within.Paths.{trees_of}
use Rattle.typed_trees.specs.Nodes.{NodeTree, node_tree}
use Rattle.typed_trees.specs.declared.nodes.Node.{Node}
use Rattle.kept_exchanges.specs.Flows.{CanFlow, row_flowing, row_made}

pub flow_last : (above : List NodeTree) (tree : NodeTree) (row : Option TimedRow)
    → row_flowing (above ++ tree ∷ []) row ≡ row_flowing above (row_made tree row)
flow_last [] tree row = refl
flow_last (first ∷ above) tree row = ap (row_made first) (flow_last above tree row)

pub none_flows : (above : List NodeTree) → row_flowing above None ≡ None
none_flows [] = refl
none_flows (first ∷ above) = ap (row_made first) (none_flows above)

-- the last operation can be done on a row, and the others on what it makes
pub can_last : (above : List NodeTree) (tree : NodeTree) (row : Option TimedRow) → CanFlow (above ++ tree ∷ []) row
    → IfSome row (λ one. HasOneSide tree × CanOperate tree (one ∷ []) []) × CanFlow above (row_made tree row)
can_last [] tree row can = (can.0, tt)
can_last (first ∷ above) tree row can =
    let rest = can_last above tree row can.1 in (
      rest.0,
      (
        subst (λ o. IfSome o (λ one. HasOneSide first × CanOperate first (one ∷ []) [])) (flow_last above tree row) can.0,
        rest.1,
      ),
    )

-- so many nodes from the top, of which the last one is the next
pub node_last : (nodes : List (Bor Node)) (n : ℕ) (d : Bor Node) → n < length nodes
    → trees_of (take (n + 1) nodes) ≡ trees_of (take n nodes) ++ node_tree (get_or nodes n d).now ∷ []
node_last [] n d h = absurd (omega arith)
node_last (one ∷ nodes) zero d h = refl
node_last (one ∷ nodes) (suc n) d h =
    let next : suc n + 1 ≡ suc (n + 1) = omega arith in
    ap (λ k. trees_of (take k (one ∷ nodes))) next
    ∙ ap (λ trees. node_tree one.now ∷ trees) (node_last nodes n d (omega arith))
