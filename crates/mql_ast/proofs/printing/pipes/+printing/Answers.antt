use Rattle.std.proofs.Common.{◌++◌, string_bytes, codes, map, rules, ap, ◌∙◌, sym}
use Rattle.std.proofs.lemmas.Result.{on_ok_weaker}
use Rattle.mql_ast.specs.Trees.{pipe_tree, source_tree, branches}
use Rattle.mql_ast.specs.Printed.{source_text, branches_text, how_text}
use Rattle.mql_ast.proofs.BranchLemmas.{branches_of_source}
use Rattle.mql_ast.proofs.Chains.{three}
use Rattle.mql_ast.proofs.printing.pipes.+printing.Goals as goal

pub print_source-returns-in_ok-print_branches-in-Branches : goal.print_source-returns-in_ok-print_branches-in-Branches
print_source-returns-in_ok-print_branches-in-Branches t c =
    let out = string_bytes c.args.out.now in
    let w = c.in-Branches in
    record {
      text = on_ok_weaker c.print_how.result
          (λ e. three (codes "{") (branches_text (branches (map pipe_tree w.pipes.items))) (codes "} | "
          ++ how_text w.how) out (string_bytes c.push_str.new.self) (string_bytes c.print_branches.new.out)
          (string_bytes c.print_how.new.out) (search rules) (search rules) e
          ∙ ap (λ s. out ++ source_text s) (sym (ap source_tree w.is ∙ branches_of_source w.at w.pipes w.how w.how_at)))
          c.print_how.ensures.text;
    }
