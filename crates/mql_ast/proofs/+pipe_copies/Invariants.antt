-- What was copied so far has the trees of the first ones.
use Rattle.std.proofs.Common.{◌≡◌, map, take}
use Rattle.mql_ast.specs.Trees.{pipe_tree}
use Rattle.mql_ast.proofs.+pipe_copies.Given as goal

abbrev pub invariant-copying::pipes::copied_pipes-loop-pipe : goal.invariant-copying::pipes::copied_pipes-loop-pipe
invariant-copying::pipes::copied_pipes-loop-pipe l = map pipe_tree l.copied.items ≡ map pipe_tree
    (take l.pipe-index l.pipes)
