-- Parts of a mean.
use Rattle.std.proofs.Common.{◌≡◌, ℤ, ap, ◌∙◌}
use Rattle.mon_fold.specs.declared.means.MeanPart.{MeanPart}

-- parts of one sum and one number are equal
pub same_mean : (a b : MeanPart) → a.sum ≡ b.sum → a.number ≡ b.number → a ≡ b
same_mean a b same_sum same_number =
    let part : ℤ → ℤ → MeanPart = λ s n. record { sum = s; number = n } in
    ap (λ s. part s a.number) same_sum ∙ ap (λ n. part b.sum n) same_number
