-- What was found, with what is left.
use Rattle.std.proofs.Common.{◌≡◌, map, drop, false}
use Rattle.mql_ast.specs.Trees.{op_tree}
use Rattle.typed_trees.specs.Faults.{first_with}
use Rattle.typed_trees.specs.Times.{order_faults}
use Rattle.mql_types.proofs.times.tell_order.Given as goal

abbrev pub invariant-loop-place : goal.invariant-loop-place
invariant-loop-place l =
    first_with l.found.first
    (order_faults l.branch l.stood.every l.stood.within (map op_tree (drop l.place l.ops)))
    ≡ first_with l.fn.found.first (order_faults l.branch false false (map op_tree l.ops))
