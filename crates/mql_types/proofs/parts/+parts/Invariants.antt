-- The table so far, with the branches that are left.
use Rattle.std.proofs.Common.{◌≡◌, map, drop}
use Rattle.mql_ast.specs.Trees.{branches, pipe_tree}
use Rattle.typed_trees.specs.Faults.{first_with}
use Rattle.typed_trees.specs.Nodes.{node_tree}
use Rattle.typed_trees.specs.Typing.{branches_faults, branches_node, further_faults, further_node}
use Rattle.mql_types.proofs.parts.+parts.Given as goal

abbrev pub invariant-branches_node-loop-pipe : goal.invariant-branches_node-loop-pipe
invariant-branches_node-loop-pipe l = record {
  node : further_node l.setting.schemas.now l.setting.every l.how.how l.how.at (node_tree l.left)
      (branches (map pipe_tree (drop l.pipe-index l.rest)))
      ≡ branches_node l.setting.schemas.now l.setting.every l.how.how l.how.at (branches (map pipe_tree l.fn.pipes));
  faults : first_with l.found.first
      (further_faults l.setting.schemas.now l.setting.every l.how.how l.how.at (node_tree l.left)
      (branches (map pipe_tree (drop l.pipe-index l.rest))))
      ≡ first_with l.fn.found.first (branches_faults l.setting.schemas.now l.setting.every l.how.how l.how.at
      (branches (map pipe_tree l.fn.pipes)));
}
