use Rattle.std.proofs.Common.{◌≡◌, ◌∙◌, ◌+◌, ◌∷◌, ◌++◌, List, Option, drop, map, ap, sym, rules, arith}
use Rattle.std.proofs.lemmas.List.{at_drop_all, drop_more}
use Rattle.mql_ast.specs.declared.operations.Op.{Op}
use Rattle.mql_ast.specs.declared.pipes.Pipe.{Pipe}
use Rattle.typed_trees.specs.declared.faults.TypeFault.{TypeFault}
use Rattle.typed_trees.specs.Nodes.{NodeTree, columns_of, node_tree}
use Rattle.std.proofs.lemmas.Result.{on_ok_weaker}
use Rattle.mql_ast.specs.Trees.{branches, op_tree, pipe_tree, source_tree}
use Rattle.mql_ast.proofs.BranchLemmas.{branches_of_source}
use Rattle.typed_trees.specs.Faults.{first_with}
use Rattle.mql_types.specs.PartViews.{part_view}
use Rattle.typed_trees.specs.Typing.{Part, branch_faults, branch_node, branches_faults, branches_node, further_faults}
use Rattle.typed_trees.specs.Typing.{further_node, ops_faults, pipe_faults, source_faults, source_part, table}
use Rattle.typed_columns.proofs.FaultLemmas.{first_with-append, first_with-three}
use Rattle.mql_types.proofs.parts.+parts.Goals as goal

pub source_part-returns-in_ok-node-in-Branches-clause-part : goal.source_part-returns-in_ok-node-in-Branches-clause-part
source_part-returns-in_ok-node-in-Branches-clause-part t c =
    let w = c.in-Branches in
    let h = c.args.setting.schemas.now in
    let e = c.args.setting.every in
    let made : part_view c.table.result
    ≡ table (branches_node h e w.how w.how_at (branches (map pipe_tree w.pipes.items))) =
    search rules in
    made ∙ ap (λ s. source_part h e s) (sym (ap source_tree w.is ∙ branches_of_source w.at w.pipes w.how w.how_at))

pub source_part-returns-in_ok-node-in-Branches-clause-faults :
    goal.source_part-returns-in_ok-node-in-Branches-clause-faults
source_part-returns-in_ok-node-in-Branches-clause-faults t c =
    let w = c.in-Branches in
    let h = c.args.setting.schemas.now in
    let e = c.args.setting.every in
    let told : c.branches_node.new.found.first
    ≡ first_with c.args.found.now.first
    (branches_faults h e w.how w.how_at (branches (map pipe_tree w.pipes.items))) =
    search rules in
    told ∙ ap (λ s. first_with c.args.found.now.first (source_faults h e s)) (sym (ap source_tree w.is
    ∙ branches_of_source w.at w.pipes w.how w.how_at))

pub pipe_part-returns-clause-faults : goal.pipe_part-returns-clause-faults
pipe_part-returns-clause-faults t c =
    let h = c.args.setting.schemas.now in
    let e = c.args.setting.every in
    let source = source_tree c.args.pipe.now.source in
    let ops = map op_tree c.args.pipe.now.ops in
    let middle = c.source_part.new.found.first in
    on_ok_weaker c.ops_part.result
    (λ told. told
    ∙ ap (λ (os : List Op). first_with middle (ops_faults h e (part_view c.in_ok-source.source) (map op_tree os)))
    c.as_slice.ensures.items
    ∙ ap (λ (part : Part). first_with middle (ops_faults h e part ops)) c.in_ok-source.ensures.part
    ∙ ap (λ first. first_with first (ops_faults h e (source_part h e source) ops)) c.in_ok-source.ensures.faults
    ∙ sym (first_with-append c.args.found.now.first (source_faults h e source)
    (ops_faults h e (source_part h e source) ops)))
    c.ops_part.ensures.faults

pub branches_node-returns-clause-node : goal.branches_node-returns-clause-node
branches_node-returns-clause-node t c =
    let left = node_tree c.loop-pipe.left in
    let F : List Pipe → NodeTree = λ ps. further_node c.args.setting.schemas.now c.args.setting.every c.args.how.how
    c.args.how.at left (branches (map pipe_tree ps)) in
    sym (at_drop_all F _ c.loop-pipe.pipe-index c.loop-pipe-test.false) ∙ c.loop-pipe.invariant.node

pub branches_node-returns-clause-faults : goal.branches_node-returns-clause-faults
branches_node-returns-clause-faults t c =
    let left = node_tree c.loop-pipe.left in
    let F : List Pipe → Option TypeFault = λ ps. first_with c.loop-pipe.found.first
    (further_faults c.args.setting.schemas.now c.args.setting.every c.args.how.how c.args.how.at left
    (branches (map pipe_tree ps))) in
    sym (at_drop_all F _ c.loop-pipe.pipe-index c.loop-pipe-test.false) ∙ c.loop-pipe.invariant.faults

pub branches_node-loop-pipe-preserved : goal.branches_node-loop-pipe-preserved
branches_node-loop-pipe-preserved t c =
    let h = c.args.setting.schemas.now in
    let e = c.args.setting.every in
    let how = c.args.how.how in
    let at = c.args.how.at in
    let pipes = c.in-Some.rest.now in
    let pipe : Pipe = c.pipe-item.result in
    let i = c.loop-pipe.pipe-index in
    let rest = branches (map pipe_tree (drop (i + 1) pipes)) in
    let left = node_tree c.loop-pipe.left in
    let right = node_tree c.in_ok-right.right in
    let found = c.loop-pipe.found.first in
    let own = pipe_faults h e (pipe_tree pipe) in
    let next : drop i pipes ≡ pipe ∷ drop (i + 1) pipes =
    drop_more pipes i pipe (omega (arith, c.loop-pipe-test.true))
    ∙ ap (λ (p : Pipe). p ∷ drop (i + 1) pipes) (sym c.pipe-item.is) in
    record {
      node = ap (λ (n : NodeTree). further_node h e how at n rest) c.in_ok-left-2.ensures.node
          ∙ ap (λ (n : NodeTree). further_node h e how at (branch_node h how at left n) rest) c.in_ok-right.ensures.node
          ∙ sym (ap (λ (ps : List Pipe). further_node h e how at left (branches (map pipe_tree ps))) next)
          ∙ c.loop-pipe.invariant.node;
      faults = ap (λ (n : NodeTree). first_with c.branch_node.new.found.first (further_faults h e how at n rest))
          c.in_ok-left-2.ensures.node
          ∙ first_with-three found _ c.branch_node.new.found.first own
          (branch_faults h how at (columns_of left) (columns_of right))
          (further_faults h e how at (branch_node h how at left right) rest) c.in_ok-right.ensures.faults
          c.in_ok-left-2.ensures.faults
          ∙ ap (λ (n : NodeTree). first_with found (own ++ (branch_faults h how at (columns_of left) (columns_of n)
          ++ further_faults h e how at (branch_node h how at left n) rest))) c.in_ok-right.ensures.node
          ∙ sym (ap (λ (ps : List Pipe). first_with found
          (further_faults h e how at left (branches (map pipe_tree ps)))) next)
          ∙ c.loop-pipe.invariant.faults;
    }
