-- What was seen so far, with what goes on from there, is the whole.
use Rattle.std.proofs.Common.{◌≡◌, ◌+◌, ◌*◌, ◌≤◌, length}
use Rattle.mql_ast.specs.SumParts.{nodes}
use Rattle.mql_ast.specs.Trees.{sum_tree}
use Rattle.typed_columns.specs.OperandLinks.{operand_links, linked_nodes, seen_operand, seen_sum}
use Rattle.typed_columns.proofs.sums.+operands.Given as goal

abbrev pub decreases-gone_on : goal.decreases-gone_on
decreases-gone_on l = 2 * nodes l.right.now + 1

abbrev pub decreases-sum_operand : goal.decreases-sum_operand
decreases-sum_operand l = 2 * nodes l.sum.now

abbrev pub invariant-sum_operand-loop-link : goal.invariant-sum_operand-loop-link
invariant-sum_operand-loop-link l = record {
  whole : operand_links l.columns l.links.items (seen_operand l.so_far l.found.first)
      ≡ seen_sum l.columns (sum_tree l.sum) l.fn.found.first;
  count : linked_nodes l.links.items + 1 ≤ nodes l.sum;
}

abbrev pub decreases-sum_operand-loop-link : goal.decreases-sum_operand-loop-link
decreases-sum_operand-loop-link l = length l.links.items
