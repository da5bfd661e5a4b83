-- What was written, in front of the parts that are left.
use Rattle.std.proofs.Common.{◌≡◌, ◌++◌, string_bytes, false}
use Rattle.mql_ast.specs.Trees.{sum_tree}
use Rattle.mql_ast.specs.Printed.{sum_text}
use Rattle.mql_ast.specs.SumParts.{remaining_text, remaining_weight}
use Rattle.mql_ast.proofs.printing.sums.print_sum.Given as goal

abbrev pub invariant-loop-part : goal.invariant-loop-part
invariant-loop-part l =
    string_bytes l.out ++ remaining_text l.parts.items ≡ string_bytes l.fn.out ++ sum_text false (sum_tree l.fn.sum)

abbrev pub decreases-loop-part : goal.decreases-loop-part
decreases-loop-part l = remaining_weight l.parts.items
