-- What is left names keys alone exactly where all does.
use Rattle.std.proofs.Common.{◌≡◌, ◌≤◌}
use Rattle.mql_ast.specs.Trees.{predicate_tree}
use Rattle.mql_ast.specs.PredicateParts.{nodes}
use Rattle.typed_trees.specs.Meaning.{names_keys}
use Rattle.typed_trees.proofs.key_filters.+names_keys.Given as goal

abbrev pub decreases-names_keys : goal.decreases-names_keys
decreases-names_keys l = nodes l.by.now

abbrev pub invariant-loop-rest : goal.invariant-loop-rest
invariant-loop-rest l = record {
  names : names_keys l.columns (predicate_tree l.rest) ≡ names_keys l.columns (predicate_tree l.fn.by);
  less : nodes l.rest ≤ nodes l.fn.by;
}
