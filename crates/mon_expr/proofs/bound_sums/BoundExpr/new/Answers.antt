use Rattle.mql_ast.specs.Trees.{sum_tree}
use Rattle.mon_expr.proofs.ExprLemmas.{bound_terms, numeric}
use Rattle.mon_expr.proofs.bound_sums.BoundExpr.new.Goals as goal

pub returns : goal.returns
returns c = record {
  bound = bound_terms (sum_tree c.args.expr.now) c.args.columns.now c.in_ok-terms_of.field-0
      (numeric c.args.expr.now c.in_default.not-Column) c.requires.typed c.requires.shares
      c.in_ok-terms_of.ensures.terms;
}
