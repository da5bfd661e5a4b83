-- What was found, in front of what the parts to come fix.
use Rattle.std.proofs.Common.{◌≡◌, ◌++◌}
use Rattle.mql_ast.specs.Trees.{predicate_tree}
use Rattle.typed_trees.specs.FixedColumns as spec
use Rattle.typed_columns.specs.PredicateParts.{remaining_fixed, remaining_nodes}
use Rattle.typed_columns.proofs.fixed.fixed_by.Given as goal

abbrev pub invariant-loop-part : goal.invariant-loop-part
invariant-loop-part l = l.fixed ++ remaining_fixed l.parts.items ≡ spec.fixed_by (predicate_tree l.fn.by)

abbrev pub decreases-loop-part : goal.decreases-loop-part
decreases-loop-part l = remaining_nodes l.parts.items
