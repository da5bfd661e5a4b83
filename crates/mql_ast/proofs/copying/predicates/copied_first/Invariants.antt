-- What is left to go down, with what goes on from there.
use Rattle.std.proofs.Common.{◌≡◌, ◌+◌}
use Rattle.mql_ast.specs.Trees.{predicate_tree}
use Rattle.mql_ast.specs.PredicateParts.{nodes}
use Rattle.mql_ast.specs.PredicateLinks.{linked_tree, linked_nodes}
use Rattle.mql_ast.proofs.copying.predicates.copied_first.Given as goal

abbrev pub invariant-loop-first : goal.invariant-loop-first
invariant-loop-first l = record {
  tree : linked_tree l.links.items (predicate_tree l.first) ≡ linked_tree l.fn.links.items
      (predicate_tree l.fn.predicate);
  count : linked_nodes l.links.items + nodes l.first ≡ linked_nodes l.fn.links.items + nodes l.fn.predicate;
}
