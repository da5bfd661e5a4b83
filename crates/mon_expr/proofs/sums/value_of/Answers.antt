use Rattle.std.proofs.Common.{◌≡◌, ◌↔◌, ◌∙◌, IsNone, IsTrue}
use Rattle.std.proofs.lemmas.Result.{IfOk-weaker}
use Rattle.mql_ast.specs.Rows.{meets_no_values}
use Rattle.mql_ast.specs.Trees.{sum_tree}
use Rattle.mon_expr.specs.BoundSums.{bound_value}
use Rattle.mon_expr.proofs.NoValueLemmas.{none_exactly}
use Rattle.mon_expr.proofs.sums.value_of.Goals as goal

pub returns-clause-none : goal.returns-clause-none
returns-clause-none c =
    let sum = sum_tree c.args.expr.now in
    let columns = c.args.columns.now in
    let cells = c.args.cells.now in
    IfOk-weaker c.value_of.result (λ value. value ≡ bound_value c.in_ok-new.field-0 cells)
    (λ value. IsNone value ↔ IsTrue (meets_no_values sum columns cells))
    (λ value is. none_exactly sum columns cells value c.requires.typed c.requires.row (is
    ∙ c.in_ok-new.ensures.bound.value cells)) c.value_of.ensures.value
