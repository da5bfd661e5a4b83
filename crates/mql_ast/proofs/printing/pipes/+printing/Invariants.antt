-- What was written, in front of the branches that are left.
use Rattle.std.proofs.Common.{◌≡◌, ◌++◌, string_bytes, map, drop}
use Rattle.mql_ast.specs.Printed.{branches_text, further_text}
use Rattle.mql_ast.specs.Trees.{pipe_tree, branches}
use Rattle.mql_ast.proofs.printing.pipes.+printing.Given as goal

abbrev pub invariant-print_branches-loop-pipe : goal.invariant-print_branches-loop-pipe
invariant-print_branches-loop-pipe l =
    string_bytes l.out ++ further_text (branches (map pipe_tree (drop l.pipe-index l.rest))) ≡ string_bytes l.fn.out
    ++ branches_text (branches (map pipe_tree l.fn.pipes))
