-- The length so far, unless a step is left.
use Rattle.std.proofs.Common.{◌≡◌, map, drop}
use Rattle.mql_ast.specs.Trees.{op_tree}
use Rattle.typed_trees.specs.Times.{steps_length}
use Rattle.mql_types.proofs.StepLemmas.{length_behind}
use Rattle.mql_types.proofs.times.steps_length.Given as goal

abbrev pub invariant-loop-place : goal.invariant-loop-place
invariant-loop-place l =
    length_behind l.steps l.place (map op_tree (drop l.place l.ops)) ≡ steps_length (map op_tree l.ops)
