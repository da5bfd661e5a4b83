-- What was copied so far, with what goes on from there, is the whole.
use Rattle.std.proofs.Common.{◌≡◌, ◌+◌, ◌*◌, ◌≤◌, length}
use Rattle.mql_ast.specs.Trees.{predicate_tree}
use Rattle.mql_ast.specs.PredicateParts.{nodes}
use Rattle.mql_ast.specs.PredicateLinks.{linked_tree, link_nodes, linked_nodes}
use Rattle.mql_ast.proofs.+predicate_copies.Given as goal

abbrev pub decreases-copying::predicates::gone_on : goal.decreases-copying::predicates::gone_on
decreases-copying::predicates::gone_on l = 2 * link_nodes l.link

abbrev pub decreases-predicates::Predicate::copy : goal.decreases-predicates::Predicate::copy
decreases-predicates::Predicate::copy l = 2 * nodes l.self.now + 1

abbrev pub invariant-predicates::Predicate::copy-loop-link : goal.invariant-predicates::Predicate::copy-loop-link
invariant-predicates::Predicate::copy-loop-link l = record {
  tree : linked_tree l.links.items (predicate_tree l.copied) ≡ predicate_tree l.self;
  count : linked_nodes l.links.items ≤ nodes l.self;
}

abbrev pub decreases-predicates::Predicate::copy-loop-link : goal.decreases-predicates::Predicate::copy-loop-link
decreases-predicates::Predicate::copy-loop-link l = length l.links.items
