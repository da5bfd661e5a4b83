-- Where what is left of both is the same, the whole predicates are.
use Rattle.std.proofs.Common.{◌≡◌, ◌≤◌}
use Rattle.mql_ast.specs.Trees.{predicate_tree}
use Rattle.mql_ast.specs.declared.predicates.Predicate.{size-Predicate}
use Rattle.mon_expr.specs.SameTrees.{bare_predicate}
use Rattle.mon_expr.proofs.same_predicates.+are_same_predicate.Given as goal

abbrev pub invariant-loop-one : goal.invariant-loop-one
invariant-loop-one l =
    (size-Predicate l.one ≤ size-Predicate l.fn.one)
    × (bare_predicate (predicate_tree l.one) ≡ bare_predicate (predicate_tree l.other)
    → bare_predicate (predicate_tree l.fn.one) ≡ bare_predicate (predicate_tree l.fn.other))
    × (bare_predicate (predicate_tree l.fn.one) ≡ bare_predicate (predicate_tree l.fn.other)
    → bare_predicate (predicate_tree l.one) ≡ bare_predicate (predicate_tree l.other))
