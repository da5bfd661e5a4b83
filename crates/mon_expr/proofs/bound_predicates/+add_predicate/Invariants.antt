-- What is left to be added leads to the same answers as the whole.
use Rattle.std.proofs.Common.{◌≤◌}
use Rattle.mql_ast.specs.Trees.{predicate_tree}
use Rattle.mql_ast.specs.declared.predicates.Predicate.{size-Predicate}
use Rattle.mon_expr.proofs.ConditionLemmas.{Remains}
use Rattle.mon_expr.proofs.bound_predicates.+add_predicate.Given as goal

abbrev pub invariant-loop-rest : goal.invariant-loop-rest
invariant-loop-rest l =
    (size-Predicate l.rest ≤ size-Predicate l.fn.predicate)
    × Remains (predicate_tree l.fn.predicate) l.columns l.fn.if_true l.fn.if_false l.fn.conditions.items
    (predicate_tree l.rest) l.if_true l.if_false l.conditions.items
