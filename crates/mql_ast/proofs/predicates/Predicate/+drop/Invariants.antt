-- The loop goes down from what was handed to it.
use Rattle.std.proofs.Common.{◌≤◌}
use Rattle.mql_ast.specs.declared.predicates.Predicate.{size-Predicate}
use Rattle.mql_ast.proofs.predicates.Predicate.+drop.Given as goal

abbrev pub invariant-loop-self : goal.invariant-loop-self
invariant-loop-self l = size-Predicate l.self ≤ size-Predicate l.fn.self
