-- Pieces that are written one after another.
use Rattle.std.proofs.Common.{◌≡◌, ℕ, List, ◌++◌, sym, ap, ◌∙◌, append_assoc}

pub three : (a b c start first second end : List ℕ) → first ≡ start ++ a → second ≡ first ++ b → end ≡ second ++ c
    → end ≡ start ++ (a ++ (b ++ c))
three a b c start first second end e f g = g ∙ ap (λ t. t ++ c) (f ∙ ap (λ t. t ++ b) e) ∙ append_assoc (start ++ a) b
    c ∙ append_assoc start a (b ++ c)

-- what is written and what is to come, together
pub opens : (out out' a t rest rest' : List ℕ) → out' ≡ out ++ a → rest' ≡ t ++ rest → out' ++ rest' ≡ out
    ++ ((a ++ t) ++ rest)
opens out out' a t rest rest' e f = ap (λ u. u ++ rest') e ∙ append_assoc out a rest' ∙ ap (λ u. out ++ (a ++ u)) f
    ∙ ap (λ u. out ++ u) (sym (append_assoc a t rest))
