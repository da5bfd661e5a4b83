use Rattle.std.proofs.Common.{map, ap, ◌∙◌}
use Rattle.mql_ast.specs.Trees.{pipe_tree}
use Rattle.mql_ast.proofs.BranchLemmas.{copied_branches}
use Rattle.mql_ast.proofs.+pipe_copies.Goals as goal

pub pipes::Source::copy-returns-in_ok-copied_pipes-in-Branches :
    goal.pipes::Source::copy-returns-in_ok-copied_pipes-in-Branches
pipes::Source::copy-returns-in_ok-copied_pipes-in-Branches t c =
    let w = c.in-Branches in
    let copied = c.in_ok-copied_pipes-in-Branches in
    record {
      tree = copied_branches w.at w.pipes copied.field-0 w.how w.how_at c.args.self.now w.is
          (copied.ensures.trees ∙ ap (map pipe_tree) c.as_slice.ensures.value);
    }
