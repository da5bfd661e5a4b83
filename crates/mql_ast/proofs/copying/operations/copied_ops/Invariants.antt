-- What was copied so far has the trees of the first ones.
use Rattle.std.proofs.Common.{◌≡◌, map, take}
use Rattle.mql_ast.specs.Trees.{op_tree}
use Rattle.mql_ast.proofs.copying.operations.copied_ops.Given as goal

abbrev pub invariant-loop-op : goal.invariant-loop-op
invariant-loop-op l = map op_tree l.copied.items ≡ map op_tree (take l.op-index l.ops)
