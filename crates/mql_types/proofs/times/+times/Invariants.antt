-- What was said and found, with what the branches that are left have.
use Rattle.std.proofs.Common.{◌≡◌, map, drop}
use Rattle.mql_ast.specs.Trees.{branches, pipe_tree}
use Rattle.typed_trees.specs.Faults.{first_with}
use Rattle.typed_trees.specs.Times.{branch_ops, branch_order_faults, said_of}
use Rattle.mql_types.proofs.times.+times.Given as goal

abbrev pub invariant-hear_branches-loop-pipe : goal.invariant-hear_branches-loop-pipe
invariant-hear_branches-loop-pipe l = record {
  said : said_of l.times (branch_ops (branches (map pipe_tree (drop l.pipe-index l.pipes))))
      ≡ said_of l.fn.times (branch_ops (branches (map pipe_tree l.fn.pipes)));
  faults : first_with l.found.first (branch_order_faults (branches (map pipe_tree (drop l.pipe-index l.pipes))))
      ≡ first_with l.fn.found.first (branch_order_faults (branches (map pipe_tree l.fn.pipes)));
}
