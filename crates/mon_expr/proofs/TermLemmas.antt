-- A part that is put at the end comes first.
use Rattle.std.proofs.Common.{◌≡◌, ◌+◌, List, [], ◌∷◌, ◌++◌, sym, ap, ◌∙◌, arith, append_assoc, append-nil}
use Rattle.mon_value.specs.declared.columns.Column.{Column}
use Rattle.mql_ast.specs.SumParts.{nodes}
use Rattle.mon_expr.specs.declared.bound_sums.Part.{Part}
use Rattle.mon_expr.specs.declared.bound_sums.SignedTerm.{SignedTerm}
use Rattle.mon_expr.specs.SumTerms.{part_terms, remaining_nodes, remaining_terms}

pub remaining_terms_push : (xs : List Part) (x : Part) (columns : List Column) →
    remaining_terms (xs ++ x ∷ []) columns ≡ part_terms x columns ++ remaining_terms xs columns
remaining_terms_push [] x columns = sym (append-nil (part_terms x columns))
remaining_terms_push (y ∷ ys) x columns = ap (λ t. t ++ part_terms y columns) (remaining_terms_push ys x columns)
    ∙ append_assoc (part_terms x columns) _ _

pub remaining_nodes_push : (xs : List Part) (x : Part) →
    remaining_nodes (xs ++ x ∷ []) ≡ nodes x.sum.now + remaining_nodes xs
remaining_nodes_push [] x = omega arith
remaining_nodes_push (y ∷ ys) x = omega (arith, remaining_nodes_push ys x)

-- both sides of a sum are put among the parts to come
pub sides_put : (terms : List SignedTerm) (parts parts' : List Part) (left right part : Part) (columns : List Column) →
    part_terms left columns ++ part_terms right columns ≡ part_terms part columns →
    parts' ≡ (parts ++ right ∷ []) ++ left ∷ [] →
    terms ++ remaining_terms parts' columns ≡ terms ++ (part_terms part columns ++ remaining_terms parts columns)
sides_put terms parts parts' left right part columns whole put = ap (λ t. terms ++ t)
    (ap (λ ps. remaining_terms ps columns) put ∙ remaining_terms_push (parts ++ right ∷ []) left columns
    ∙ ap (λ t. part_terms left columns ++ t) (remaining_terms_push parts right columns)
    ∙ sym (append_assoc (part_terms left columns) (part_terms right columns) (remaining_terms parts columns))
    ∙ ap (λ t. t ++ remaining_terms parts columns) whole)
