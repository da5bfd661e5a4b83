-- What stands on the right of a link and is put at the end of the list comes first.
use Rattle.std.proofs.Common.{◌≡◌, ◌+◌, List, [], ◌∷◌, ◌++◌, refl, ap, arith}
use Rattle.mon_value.specs.declared.columns.Column.{Column}
use Rattle.mql_ast.specs.SumParts.{nodes}
use Rattle.mql_ast.specs.Trees.{sum_tree}
use Rattle.mql_ast.specs.declared.expressions.Expr.{Expr}
use denote.Ref.{Bor}
use Rattle.typed_columns.proofs.FaultLemmas.{first_with-append}
use Rattle.typed_columns.specs.OperandLinks.{Seen, link, operand_links, linked_nodes}

pub linked_push : (columns : List Column) (xs : List (Bor Expr)) (x : Bor Expr) (left : Seen)
    → operand_links columns (xs ++ x ∷ []) left ≡ operand_links columns xs (link columns (sum_tree x.now) left)
linked_push columns [] x left = refl
linked_push columns (y ∷ ys) x left = ap (link columns (sum_tree y.now)) (linked_push columns ys x left)

pub linked_nodes_push : (xs : List (Bor Expr)) (x : Bor Expr)
    → linked_nodes (xs ++ x ∷ []) ≡ nodes x.now + 1 + linked_nodes xs
linked_nodes_push [] x = omega arith
linked_nodes_push (y ∷ ys) x = omega (arith, linked_nodes_push ys x)

pub ruleset links_pushed = (linked_push, linked_nodes_push, first_with-append)
