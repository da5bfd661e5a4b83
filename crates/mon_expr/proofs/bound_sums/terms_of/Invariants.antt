-- The terms that were found, in front of those of the parts that are left.
use Rattle.std.proofs.Common.{◌≡◌, ◌++◌, false}
use Rattle.mql_ast.specs.Trees.{sum_tree}
use Rattle.mon_expr.specs.SumTerms.{remaining_nodes, remaining_terms, terms_of}
use Rattle.mon_expr.proofs.bound_sums.terms_of.Given as goal

abbrev pub invariant-loop-part : goal.invariant-loop-part
invariant-loop-part l =
    l.terms ++ remaining_terms l.parts.items l.columns ≡ terms_of false (sum_tree l.fn.sum) l.columns

abbrev pub decreases-loop-part : goal.decreases-loop-part
decreases-loop-part l = remaining_nodes l.parts.items
