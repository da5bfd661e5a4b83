use Rattle.std.proofs.Common.{◌≡◌, ◌∙◌, ◌+◌, ◌∷◌, List, drop, map, ap, sym, true, rules, arith}
use Rattle.std.proofs.lemmas.List.{drop_more}
use Rattle.mql_ast.specs.declared.pipes.Pipe.{Pipe}
use Rattle.typed_columns.proofs.FaultLemmas.{first_with-append}
use Rattle.mql_types.proofs.TimesLemmas.{said_of-append}
use Rattle.mql_ast.specs.Trees.{branches, pipe_tree, source_tree}
use Rattle.mql_ast.proofs.BranchLemmas.{branches_of_source}
use Rattle.typed_trees.specs.Faults.{first_with}
use Rattle.typed_trees.specs.Times.{branch_ops, branch_order_faults, pipe_ops, pipe_order_faults, said_of, source_ops}
use Rattle.typed_trees.specs.Times.{source_order_faults}
use Rattle.mql_types.proofs.times.+times.Goals as goal

pub hear_source-returns-in-Branches-clause-times : goal.hear_source-returns-in-Branches-clause-times
hear_source-returns-in-Branches-clause-times t c =
    let w = c.in-Branches in
    let heard : c.hear_branches.new.times
    ≡ said_of c.args.times.now (branch_ops (branches (map pipe_tree w.pipes.items))) =
    search rules in
    heard ∙ ap (λ s. said_of c.args.times.now (source_ops s)) (sym (ap source_tree w.is
    ∙ branches_of_source w.at w.pipes w.how w.how_at))

pub hear_source-returns-in-Branches-clause-faults : goal.hear_source-returns-in-Branches-clause-faults
hear_source-returns-in-Branches-clause-faults t c =
    let w = c.in-Branches in
    let told : c.hear_branches.new.found.first
    ≡ first_with c.args.found.now.first (branch_order_faults (branches (map pipe_tree w.pipes.items))) =
    search rules in
    told ∙ ap (λ s. first_with c.args.found.now.first (source_order_faults s)) (sym (ap source_tree w.is
    ∙ branches_of_source w.at w.pipes w.how w.how_at))

pub hear_branches-loop-pipe-preserved : goal.hear_branches-loop-pipe-preserved
hear_branches-loop-pipe-preserved t c =
    let pipes = c.args.pipes.now in
    let pipe : Pipe = c.pipe-item.result in
    let i = c.loop-pipe.pipe-index in
    let rest = branches (map pipe_tree (drop (i + 1) pipes)) in
    let next : drop i pipes ≡ pipe ∷ drop (i + 1) pipes =
    drop_more pipes i pipe (omega (arith, c.loop-pipe-test.true))
    ∙ ap (λ (p : Pipe). p ∷ drop (i + 1) pipes) (sym c.pipe-item.is) in
    record {
      said = ap (λ said. said_of said (branch_ops rest)) c.hear_pipe.ensures.times
          ∙ sym (said_of-append c.loop-pipe.times (pipe_ops (pipe_tree pipe)) (branch_ops rest))
          ∙ sym (ap (λ (ps : List Pipe). said_of c.loop-pipe.times (branch_ops (branches (map pipe_tree ps)))) next)
          ∙ c.loop-pipe.invariant.said;
      faults = ap (λ first. first_with first (branch_order_faults rest)) c.hear_pipe.ensures.faults
          ∙ sym (first_with-append c.loop-pipe.found.first (pipe_order_faults true (pipe_tree pipe))
          (branch_order_faults rest))
          ∙ sym (ap (λ (ps : List Pipe). first_with c.loop-pipe.found.first
          (branch_order_faults (branches (map pipe_tree ps)))) next)
          ∙ c.loop-pipe.invariant.faults;
    }
