-- The counts of a distribution as a text that grows at its end.
use Rattle.std.proofs.Common.{◌≡◌, ℕ, List, [], ◌∷◌, ◌++◌, sym, ap, append-nil}
use Rattle.std.specs.Fmt.{decimal}
use Rattle.std.specs.List.{flat_map}
use Rattle.mon_value.specs.Values.{counts_joined, semicolon}

-- each count after the first goes behind a `;`
pub counts_joined-cons : (x : ℕ) (xs : List ℕ) → counts_joined (x ∷ xs) ≡ decimal x
    ++ flat_map (λ n. semicolon ∷ decimal n) xs
counts_joined-cons x [] = sym (append-nil (decimal x))
counts_joined-cons x (y ∷ ys) = ap (λ text. decimal x ++ (semicolon ∷ text)) (counts_joined-cons y ys)

pub ruleset joined = (counts_joined-cons)
