use Rattle.std.proofs.Common.{◌≡◌, ◌∙◌, rules, string_bytes}
use Rattle.std.proofs.lemmas.Result.{IfOk-weaker}
use Rattle.mql_ast.specs.Trees.{query_tree}
use Rattle.mql_ast.specs.Printed.{pipe_text}
use Rattle.mql_ast.proofs.PipePrinted.{spelled_as_printed}
use Rattle.mql_ast.proofs.PipeFewest.{printed_has_fewest}
use Rattle.mql_ast.proofs.printing.print_query.Goals as goal

pub returns-clause-spelled : goal.returns-clause-spelled
returns-clause-spelled c =
    let tree = query_tree c.args.query.now in
    let text : string_bytes c.print_pipe.new.out ≡ pipe_text tree = search rules in
    IfOk-weaker c.from_string.result _ _ (λ printed same. spelled_as_printed tree printed (same ∙ text))
    c.from_string.ensures.bytes

pub returns-clause-fewest : goal.returns-clause-fewest
returns-clause-fewest c =
    let tree = query_tree c.args.query.now in
    let text : string_bytes c.print_pipe.new.out ≡ pipe_text tree = search rules in
    IfOk-weaker c.from_string.result _ _ (λ printed same. printed_has_fewest tree printed (same ∙ text))
    c.from_string.ensures.bytes
