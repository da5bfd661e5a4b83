-- The truth of what is left, turned around or not, is that of the whole.
use Rattle.std.proofs.Common.{◌≡◌, ◌≤◌}
use Rattle.mql_ast.specs.Trees.{predicate_tree}
use Rattle.mql_ast.specs.Rows.{predicate_truth}
use Rattle.mql_ast.specs.declared.predicates.Predicate.{size-Predicate}
use Rattle.mon_expr.proofs.TurnLemmas.{truth_turned}
use Rattle.mon_expr.proofs.predicates.+holds.Given as goal

abbrev pub invariant-loop-rest : goal.invariant-loop-rest
invariant-loop-rest l =
    (size-Predicate l.rest ≤ size-Predicate l.fn.predicate)
    × (truth_turned l.turned (predicate_truth (predicate_tree l.rest) l.columns l.cells)
    ≡ predicate_truth (predicate_tree l.fn.predicate) l.columns l.cells)
