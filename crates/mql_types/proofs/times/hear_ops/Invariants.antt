-- What was said, with what is left.
use Rattle.std.proofs.Common.{◌≡◌, map, drop}
use Rattle.mql_ast.specs.Trees.{op_tree}
use Rattle.typed_trees.specs.Times.{said_of}
use Rattle.mql_types.proofs.times.hear_ops.Given as goal

abbrev pub invariant-loop-op : goal.invariant-loop-op
invariant-loop-op l =
    said_of l.times (map op_tree (drop l.op-index l.ops)) ≡ said_of l.fn.times (map op_tree l.ops)
