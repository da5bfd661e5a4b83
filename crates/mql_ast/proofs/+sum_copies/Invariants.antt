-- What was copied so far, with what goes on from there, is the whole.
use Rattle.std.proofs.Common.{◌≡◌, ◌+◌, ◌*◌, ◌≤◌, length}
use Rattle.mql_ast.specs.Trees.{sum_tree}
use Rattle.mql_ast.specs.SumParts.{nodes}
use Rattle.mql_ast.specs.SumLinks.{linked_tree, link_nodes, linked_nodes}
use Rattle.mql_ast.proofs.+sum_copies.Given as goal

abbrev pub decreases-copying::sums::gone_on : goal.decreases-copying::sums::gone_on
decreases-copying::sums::gone_on l = 2 * link_nodes l.link

abbrev pub decreases-expressions::Expr::copy : goal.decreases-expressions::Expr::copy
decreases-expressions::Expr::copy l = 2 * nodes l.self.now + 1

abbrev pub invariant-expressions::Expr::copy-loop-link : goal.invariant-expressions::Expr::copy-loop-link
invariant-expressions::Expr::copy-loop-link l = record {
  tree : linked_tree l.links.items (sum_tree l.copied) ≡ sum_tree l.self;
  count : linked_nodes l.links.items ≤ nodes l.self;
}

abbrev pub decreases-expressions::Expr::copy-loop-link : goal.decreases-expressions::Expr::copy-loop-link
decreases-expressions::Expr::copy-loop-link l = length l.links.items
