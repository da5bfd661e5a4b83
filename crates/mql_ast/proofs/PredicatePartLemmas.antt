-- A part that is put at the end comes first.
use Rattle.std.proofs.Common.{◌≡◌, ℕ, ◌+◌, List, [], ◌∷◌, ◌++◌, sym, ap, ◌∙◌, arith, append_assoc, append-nil}
use Rattle.mql_ast.specs.declared.printing.predicates.PredicatePart.{PredicatePart}
use Rattle.mql_ast.specs.PredicateParts.{part_text, part_weight, remaining_text, remaining_weight}

pub text_push : (xs : List PredicatePart) (x : PredicatePart) → remaining_text (xs ++ x ∷ []) ≡ part_text x
    ++ remaining_text xs
text_push [] x = sym (append-nil (part_text x))
text_push (y ∷ ys) x = ap (λ t. t ++ part_text y) (text_push ys x) ∙ append_assoc (part_text x) _ _

pub weight_push : (xs : List PredicatePart) (x : PredicatePart) → remaining_weight (xs ++ x ∷ [])
    ≡ part_weight x + remaining_weight xs
weight_push [] x = omega arith
weight_push (y ∷ ys) x = omega (arith, weight_push ys x)

-- what was written goes on with the part that comes next
pub writes_on : (out out' whole : List ℕ) (xs xs' : List PredicatePart) (x : PredicatePart) → xs ≡ xs' ++ x ∷ [] → out'
    ≡ out ++ part_text x → out ++ remaining_text xs ≡ whole → out' ++ remaining_text xs' ≡ whole
writes_on out out' whole xs xs' x popped written kept =
    ap (λ t. t ++ remaining_text xs') written ∙ append_assoc out _ _ ∙ ap (λ t. out ++ t)
    (sym (text_push xs' x) ∙ ap remaining_text (sym popped)) ∙ kept
