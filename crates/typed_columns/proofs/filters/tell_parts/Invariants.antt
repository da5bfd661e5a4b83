-- What was found, with what the parts to come have.
use Rattle.std.proofs.Common.{◌≡◌}
use Rattle.mql_ast.specs.Trees.{predicate_tree}
use Rattle.typed_trees.specs.Faults.{first_with}
use Rattle.typed_trees.specs.Fetches.{predicate_faults}
use Rattle.typed_columns.specs.PredicateParts.{remaining_faults, remaining_nodes}
use Rattle.typed_columns.proofs.filters.tell_parts.Given as goal

abbrev pub invariant-loop-part : goal.invariant-loop-part
invariant-loop-part l =
    first_with l.found.first (remaining_faults l.columns l.parts.items)
    ≡ first_with l.fn.found.first (predicate_faults l.columns (predicate_tree l.fn.predicate))

abbrev pub decreases-loop-part : goal.decreases-loop-part
decreases-loop-part l = remaining_nodes l.parts.items
