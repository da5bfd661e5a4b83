-- Where what is left of both is the same, the whole sums are.
use Rattle.std.proofs.Common.{◌≡◌, ◌≤◌}
use Rattle.mql_ast.specs.Trees.{sum_tree}
use Rattle.mql_ast.specs.declared.expressions.Expr.{size-Expr}
use Rattle.mon_expr.specs.SameTrees.{bare_sum}
use Rattle.mon_expr.proofs.same_sums.+are_same_sum.Given as goal

abbrev pub invariant-loop-one : goal.invariant-loop-one
invariant-loop-one l =
    (size-Expr l.one ≤ size-Expr l.fn.one)
    × (bare_sum (sum_tree l.one) ≡ bare_sum (sum_tree l.other)
    → bare_sum (sum_tree l.fn.one) ≡ bare_sum (sum_tree l.fn.other))
    × (bare_sum (sum_tree l.fn.one) ≡ bare_sum (sum_tree l.fn.other)
    → bare_sum (sum_tree l.one) ≡ bare_sum (sum_tree l.other))
