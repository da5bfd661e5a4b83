-- What goes on a sum, as it is typed from the left.
use Rattle.std.specs.Prelude.{ℕ, ◌+◌, List, [], ◌∷◌, Option}
use Rattle.mon_value.specs.declared.columns.Column.{Column}
use Rattle.mql_ast.specs.SumParts.{nodes}
use Rattle.mql_ast.specs.Trees.{SumTree, sum_tree}
use Rattle.mql_ast.specs.declared.expressions.Expr.{Expr}
use Rattle.typed_trees.specs.declared.faults.TypeFault.{TypeFault}
use Rattle.typed_trees.specs.declared.widths.Operand.{Operand}
use Rattle.typed_trees.specs.Faults.{first_with}
use denote.Ref.{Bor}
use Rattle.typed_trees.specs.Items.{operand_faults, operand_of, operands_together, optional_width_faults}

-- an operand, and the first fault that was found so far
pub record Seen : Type 0 where
  pub operand : Operand
  pub first : Option TypeFault

abbrev pub seen_operand : Operand → Option TypeFault → Seen
seen_operand operand first = record { operand = operand; first = first }

-- a sum, and the first fault with its own
abbrev pub seen_sum : List Column → SumTree → Option TypeFault → Seen
seen_sum columns sum first = seen_operand (operand_of columns sum) (first_with first (operand_faults columns sum))

-- two operands put together
abbrev pub seen_together : Operand → Seen → Seen
seen_together left right =
    let both = operands_together left right.operand in
    seen_operand both (first_with right.first (optional_width_faults both.at both.width))

-- what was seen goes on with what stands on its right
abbrev pub link : List Column → SumTree → Seen → Seen
link columns right left = seen_together left.operand (seen_sum columns right left.first)

-- it goes on with everything in the list, the last first
abbrev pub operand_links : List Column → List (Bor Expr) → Seen → Seen
operand_links columns [] left = left
operand_links columns (x ∷ xs) left = link columns (sum_tree x.now) (operand_links columns xs left)

abbrev pub linked_nodes : List (Bor Expr) → ℕ
linked_nodes [] = 0
linked_nodes (x ∷ xs) = linked_nodes xs + (nodes x.now + 1)
