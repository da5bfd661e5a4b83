-- What was written, in front of the parts that are left.
use Rattle.std.proofs.Common.{◌≡◌, ◌++◌, string_bytes}
use Rattle.mql_ast.specs.Trees.{predicate_tree}
use Rattle.mql_ast.specs.Printed.{predicate_text}
use Rattle.mql_ast.specs.PredicateParts.{remaining_text, remaining_weight}
use Rattle.mql_ast.proofs.printing.predicates.print_predicate.Given as goal

abbrev pub invariant-loop-part : goal.invariant-loop-part
invariant-loop-part l =
    string_bytes l.out ++ remaining_text l.parts.items ≡ string_bytes l.fn.out ++ predicate_text 0
    (predicate_tree l.fn.predicate)

abbrev pub decreases-loop-part : goal.decreases-loop-part
decreases-loop-part l = remaining_weight l.parts.items
