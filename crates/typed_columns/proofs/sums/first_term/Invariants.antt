-- What is left to go down, with what goes on from there.
use Rattle.std.proofs.Common.{◌≡◌, ◌+◌}
use Rattle.mql_ast.specs.SumParts.{nodes}
use Rattle.mql_ast.specs.Trees.{sum_tree}
use Rattle.typed_columns.specs.OperandLinks.{operand_links, linked_nodes, seen_sum}
use Rattle.typed_columns.proofs.sums.first_term.Given as goal

abbrev pub invariant-loop-first : goal.invariant-loop-first
invariant-loop-first l = record {
  whole : operand_links l.columns l.links.items (seen_sum l.columns (sum_tree l.first) l.fn.found.first)
      ≡ operand_links l.columns l.fn.links.items (seen_sum l.columns (sum_tree l.fn.sum) l.fn.found.first);
  same : l.found.first ≡ l.fn.found.first;
  count : linked_nodes l.links.items + nodes l.first ≡ linked_nodes l.fn.links.items + nodes l.fn.sum;
}
