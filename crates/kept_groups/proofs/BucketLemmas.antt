-- Counts of which others are taken off.
use Rattle.std.proofs.Common.{◌≡◌, ◌∙◌, ℕ, zero, suc, ◌+◌, ◌-◌, ◌≤◌, List, [], ◌∷◌, length, get_or, refl, sym, ap, arith}
use Rattle.mon_value.specs.Groups.{counts_added}
use Rattle.mon_value.proofs.CountsLemmas.{counts_added-nil}
use Rattle.kept_groups.specs.Trades.{counts_less}

pub length-counts_less : (counts others : List ℕ) → length (counts_less counts others) ≡ length counts
length-counts_less [] others = refl
length-counts_less (count ∷ counts) [] = refl
length-counts_less (count ∷ counts) (other ∷ others) = omega (arith, length-counts_less counts others)

-- what gives counts with others added is the counts without them
pub less_is : (left counts others : List ℕ) → length left ≡ length counts → length others ≡ length counts
    → ((bucket : ℕ) → get_or left bucket 0 + get_or others bucket 0 ≡ get_or counts bucket 0)
    → left ≡ counts_less counts others
less_is [] [] others same long added = refl
less_is [] (count ∷ counts) others same long added = absurd (omega arith)
less_is (l ∷ left) [] others same long added = absurd (omega arith)
less_is (l ∷ left) (count ∷ counts) [] same long added = absurd (omega arith)
less_is (l ∷ left) (count ∷ counts) (other ∷ others) same long added =
    let whole : l + other ≡ count = added zero in
    let first : l ≡ count - other = omega (arith, whole) in
    let rest = less_is left counts others (omega arith) (omega arith) (λ bucket. added (suc bucket)) in
    λ i. first i ∷ rest i

-- with one distribution in the place of another of as many buckets
pub traded : (gone come rest : List ℕ) → length come ≡ length gone → length rest ≤ length gone
    → counts_added (counts_less (counts_added gone rest) gone) come ≡ counts_added come rest
traded [] [] [] long few = refl
traded [] [] (r ∷ rest) long few = absurd (omega arith)
traded [] (c ∷ come) rest long few = absurd (omega arith)
traded (g ∷ gone) [] rest long few = absurd (omega arith)
traded (g ∷ gone) (c ∷ come) [] long few =
    let first : (g - g) + c ≡ c = omega arith in
    let left = ap (λ counts. counts_added (counts_less counts gone) come) (sym (counts_added-nil gone)) in
    let rest = left ∙ traded gone come [] (omega arith) (omega arith) ∙ counts_added-nil come in
    λ i. first i ∷ rest i
traded (g ∷ gone) (c ∷ come) (r ∷ rest) long few =
    let first : ((g + r) - g) + c ≡ c + r = omega arith in
    let more = traded gone come rest (omega arith) (omega arith) in
    λ i. first i ∷ more i
