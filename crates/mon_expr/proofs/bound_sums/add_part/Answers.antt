use Rattle.std.proofs.Common.{◌++◌, not, ap, ◌∙◌, sym}
use Rattle.std.proofs.lemmas.Result.{on_ok_weaker}
use Rattle.mql_ast.specs.Trees.{sum_tree}
use Rattle.mon_expr.specs.SumTerms.{terms_of}
use Rattle.mon_expr.proofs.TermLemmas.{sides_put}
use Rattle.mon_expr.proofs.bound_sums.add_part.Goals as goal

pub returns-in-Plus-clause-terms : goal.returns-in-Plus-clause-terms
returns-in-Plus-clause-terms c =
    let minus = c.args.part.minus in
    let columns = c.args.columns.now in
    let whole =
    ap (λ e. terms_of minus (sum_tree e) columns ++ terms_of minus
    (sum_tree c.deref-in-Plus.result.now) columns) c.deref.ensures
    ∙ ap (λ e. terms_of minus (sum_tree c.in-Plus.left.value) columns ++ terms_of minus
    (sum_tree e) columns) c.deref-in-Plus.ensures
    ∙ ap (λ e. terms_of minus (sum_tree e) columns) (sym c.in-Plus.is) in
    on_ok_weaker c.push_sides.result (λ e. sides_put c.args.terms.now c.args.parts.now.items
    c.push_sides.new.parts.items _ _ c.args.part columns whole e) c.push_sides.ensures.parts

pub returns-in-Minus-clause-terms : goal.returns-in-Minus-clause-terms
returns-in-Minus-clause-terms c =
    let minus = c.args.part.minus in
    let columns = c.args.columns.now in
    let whole =
    ap (λ e. terms_of minus (sum_tree e) columns ++ terms_of (not minus)
    (sum_tree c.deref-in-Minus-2.result.now) columns) c.deref-in-Minus.ensures
    ∙ ap (λ e. terms_of minus (sum_tree c.in-Minus.left.value) columns ++ terms_of (not minus)
    (sum_tree e) columns) c.deref-in-Minus-2.ensures
    ∙ ap (λ e. terms_of minus (sum_tree e) columns) (sym c.in-Minus.is) in
    on_ok_weaker c.push_sides-in-Minus.result (λ e. sides_put c.args.terms.now c.args.parts.now.items
    c.push_sides-in-Minus.new.parts.items _ _ c.args.part columns whole e) c.push_sides-in-Minus.ensures.parts
