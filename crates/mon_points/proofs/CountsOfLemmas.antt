-- Counts that are read one after another.
use Rattle.std.proofs.Common.{◌≡◌, ℕ, zero, suc, ◌+◌, ◌<◌, List, [], ◌∷◌, ◌++◌, length, get_or, take, Option, Some}
use Rattle.std.proofs.Common.{None, refl, ap, arith, option_map}
use Rattle.std.specs.Option.{option_zip}
use Rattle.std.proofs.lemmas.List.{take_more}
use Rattle.std.proofs.lemmas.Option.{same_Some}
use Rattle.mon_points.specs.Records.{count_of, counts_of_texts}

abbrev joined : Option ℕ → Option (List ℕ) → Option (List ℕ)
joined first rest = option_map (λ counts. counts.0 ∷ counts.1) (option_zip first rest)

-- counts come of a first one and the others
joined-some : (first : Option ℕ) (rest : Option (List ℕ)) (counts : List ℕ) → joined first rest ≡ Some counts
    → (n : ℕ) × (ns : List ℕ) × (first ≡ Some n) × (rest ≡ Some ns) × (n ∷ ns ≡ counts)
joined-some None rest counts h = cc
joined-some (Some n) None counts h = cc
joined-some (Some n) (Some ns) counts h = (n, ns, refl, refl, same_Some _ _ h)

joined-none : (first : Option ℕ) → joined first None ≡ None
joined-none None = refl
joined-none (Some n) = refl

-- one more count
counts_of-push : (texts : List (List ℕ)) (text counts : List ℕ) (count : ℕ) → counts_of_texts texts ≡ Some counts
    → count_of text ≡ Some count → counts_of_texts (texts ++ text ∷ []) ≡ Some (counts ++ count ∷ [])
counts_of-push [] text counts count h k =
    let e : [] ≡ counts = same_Some _ _ h in
    rw (k, ← e)
counts_of-push (t ∷ texts) text counts count h k =
    let parts = joined-some (count_of t) (counts_of_texts texts) counts h in
    rw (parts.2, counts_of-push texts text parts.1 count parts.3 k) (ap (λ ns. Some (ns ++ count ∷ [])) parts.4)

pub counts_of-more : (texts : List (List ℕ)) (i : ℕ) (text counts : List ℕ) (count : ℕ) → i < length texts
    → text ≡ get_or texts i text → counts_of_texts (take i texts) ≡ Some counts → count_of text ≡ Some count
    → counts_of_texts (take (i + 1) texts) ≡ Some (counts ++ count ∷ [])
counts_of-more texts i text counts count l e h k = rw (take_more texts i text l, ← e)
    (counts_of-push (take i texts) text counts count h k)

-- a text that spells no count
pub counts_of-none : (texts : List (List ℕ)) (i : ℕ) (text : List ℕ) → i < length texts
    → text ≡ get_or texts i text → count_of text ≡ None → counts_of_texts texts ≡ None
counts_of-none [] i text l e k = absurd (omega arith)
counts_of-none (t ∷ texts) zero text l e k = let f : count_of t ≡ None = rw (← e) k in rw f
counts_of-none (t ∷ texts) (suc i) text l e k = rw (counts_of-none texts i text (omega arith) e k)
    (joined-none (count_of t))
