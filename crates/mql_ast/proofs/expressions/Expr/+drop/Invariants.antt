-- The loop goes down from what was handed to it.
use Rattle.std.proofs.Common.{◌≤◌}
use Rattle.mql_ast.specs.declared.expressions.Expr.{size-Expr}
use Rattle.mql_ast.proofs.expressions.Expr.+drop.Given as goal

abbrev pub invariant-loop-self : goal.invariant-loop-self
invariant-loop-self l = size-Expr l.self ≤ size-Expr l.fn.self
