-- What was written, in front of the operations that are left.
use Rattle.std.proofs.Common.{◌≡◌, ◌++◌, string_bytes, map, drop}
use Rattle.mql_ast.specs.Printed.{ops_text}
use Rattle.mql_ast.specs.Trees.{op_tree}
use Rattle.mql_ast.proofs.printing.operations.print_ops.Given as goal

abbrev pub invariant-loop-op : goal.invariant-loop-op
invariant-loop-op l =
    string_bytes l.out ++ ops_text (map op_tree (drop l.op-index l.ops)) ≡ string_bytes l.fn.out
    ++ ops_text (map op_tree l.fn.ops)
