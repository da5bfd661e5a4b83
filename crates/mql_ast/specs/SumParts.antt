-- What is still to be printed of a sum.
use Rattle.std.specs.Prelude.{ℕ, ◌+◌, ◌*◌, List, [], ◌∷◌, ◌++◌}
use Rattle.mql_ast.specs.declared.expressions.Expr.{Expr}
use Rattle.mql_ast.specs.declared.expressions.Expr.TheVariants as expr
use Rattle.mql_ast.specs.declared.printing.sums.SumPart.{SumPart}
use Rattle.mql_ast.specs.declared.printing.sums.SumPart.TheVariants as part
use Rattle.mql_ast.specs.Trees.{sum_tree}
use Rattle.mql_ast.specs.Printed.{sum_text}

-- how many terms and operators an expression has
abbrev pub nodes : Expr → ℕ
nodes (expr.Column column) = 1
nodes (expr.Number at value) = 1
nodes (expr.Percentile at column p) = 1
nodes (expr.Plus' p left q right) = nodes left + nodes right + 1
nodes (expr.Minus' p left q right) = nodes left + nodes right + 1

abbrev pub part_text : SumPart → List ℕ
part_text (part.Sum sum operand) = sum_text operand (sum_tree sum.now)
part_text (part.Signs signs) = signs.now

abbrev pub part_weight : SumPart → ℕ
part_weight (part.Sum sum operand) = 3 * nodes sum.now
part_weight (part.Signs signs) = 1

-- the parts to come, the last of them first
abbrev pub remaining_text : List SumPart → List ℕ
remaining_text [] = []
remaining_text (x ∷ xs) = remaining_text xs ++ part_text x

abbrev pub remaining_weight : List SumPart → ℕ
remaining_weight [] = 0
remaining_weight (x ∷ xs) = remaining_weight xs + part_weight x
