-- The first place at fault, one element after another.
use Rattle.std.proofs.Common.{◌≡◌, ◌∙◌, ℕ, zero, suc, ◌+◌, ◌<◌, Bool, true, false, List, [], ◌∷◌, Option, Some, None}
use Rattle.std.proofs.Common.{get_or, length, refl, ap, arith}
use Rattle.std.specs.Option.{option_or}
use Rattle.mon_topo.specs.Faults.{first_at, place_unless}
use Rattle.mon_topo.specs.declared.places.Place.{Place}

-- an element that isn't at fault leaves it to the rest
pub first_at-past : {X : Type 0} (fault : ℕ → X → Option Place) (i : ℕ) (x : X) (rest : List X)
    → fault i x ≡ None → first_at fault i (x ∷ rest) ≡ first_at fault (i + 1) rest
first_at-past fault i x rest e = ap (λ o. option_or o (first_at fault (i + 1) rest)) e

-- one that is at fault is the first
pub first_at-found : {X : Type 0} (fault : ℕ → X → Option Place) (i : ℕ) (x : X) (rest : List X) (place : Place)
    → fault i x ≡ Some place → first_at fault i (x ∷ rest) ≡ Some place
first_at-found fault i x rest place e = ap (λ o. option_or o (first_at fault (i + 1) rest)) e

-- what is as it must be, and a rest without a fault
pub passed : (good : Bool) (place : Place) (rest : Option Place) → option_or (place_unless good place) rest ≡ None
    → (good ≡ true) × (rest ≡ None)
passed true place rest e = (refl, e)
passed false place rest e = absurd (cc)

pub neither : {X : Type 0} (a b : Option X) → option_or a b ≡ None → (a ≡ None) × (b ≡ None)
neither None b e = (refl, e)
neither (Some x) b e = absurd (cc)

-- no element is at fault where no place is found
pub first_at-none : {X : Type 0} (fault : ℕ → X → Option Place) (i : ℕ) (xs : List X) → first_at fault i xs ≡ None
    → (k : ℕ) (d : X) → k < length xs → fault (i + k) (get_or xs k d) ≡ None
first_at-none fault i [] e k d there = absurd (omega arith)
first_at-none fault i (x ∷ xs) e zero d there =
    let here = (neither (fault i x) (first_at fault (i + 1) xs) e).0 in
    ap (λ n. fault n x) (omega arith) ∙ here
first_at-none fault i (x ∷ xs) e (suc k) d there =
    let rest = (neither (fault i x) (first_at fault (i + 1) xs) e).1 in
    ap (λ n. fault n (get_or xs k d)) (omega arith) ∙ first_at-none fault (i + 1) xs rest k d (omega arith)

-- which are numbered from 0
pub none_at : {X : Type 0} (fault : ℕ → X → Option Place) (xs : List X) → first_at fault 0 xs ≡ None
    → (k : ℕ) (d : X) → k < length xs → fault k (get_or xs k d) ≡ None
none_at fault xs e k d there =
    let same : k ≡ 0 + k = omega arith in
    ap (λ n. fault n (get_or xs k d)) same ∙ first_at-none fault 0 xs e k d there
