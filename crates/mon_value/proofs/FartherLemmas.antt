-- The farther one of two, place by place.
use Rattle.std.proofs.Common.{◌≡◌, ℕ, zero, suc, ◌+◌, ◌<◌, ◌≤◌, Bool, true, false, cond, nat_lt, List, [], ◌∷◌}
use Rattle.std.proofs.Common.{length, map, get_or, set, take, refl, sym, ap, ◌∙◌, add-one, arith}
use Rattle.std.proofs.lemmas.Bool.{cond_above, cond_below}
use Rattle.std.proofs.lemmas.List.{set-get_or}
use Rattle.mon_value.specs.Histories.{farther, farther_each, longer, longer_each}

module _ {X : Type 0} (far : X → ℕ) where
  pub farther_each-nil : (xs : List X) → farther_each far xs [] ≡ xs
  farther_each-nil [] = refl
  farther_each-nil (x ∷ xs) = refl

  -- one place more is joined
  each_more : (xs ys : List X) (i : ℕ) (d : X) → i < length ys → length xs ≡ length ys
      → farther_each far xs (take (i + 1) ys)
      ≡ set (farther_each far xs (take i ys)) i
      (farther far (get_or (farther_each far xs (take i ys)) i d) (get_or ys i d))
  each_more [] ys i d h e = absurd (omega arith)
  each_more (x ∷ xs) [] i d h e = absurd (omega arith)
  each_more (x ∷ xs) (y ∷ ys) zero d h e = ap (λ rest. farther far x y ∷ rest) (farther_each-nil xs)
  each_more (x ∷ xs) (y ∷ ys) (suc i) d h e =
      let rest = each_more xs ys i d (omega arith) (omega arith) in
      rw add-one (ap (λ rest. farther far x y ∷ rest) (rw add-one at rest))

  module _ (xs ys made next : List X) (i : ℕ) (d : X) (here : i < length ys) (alike : length xs ≡ length ys)
      (so_far : made ≡ farther_each far xs (take i ys)) where
    placed : next ≡ set made i (farther far (get_or made i d) (get_or ys i d))
        → next ≡ farther_each far xs (take (i + 1) ys)
    placed is =
        is ∙ ap (λ zs. set zs i (farther far (get_or zs i d) (get_or ys i d))) so_far
        ∙ sym (each_more xs ys i d here alike)

    -- the other one is farther, and is taken
    pub place_taken : far (get_or made i d) < far (get_or ys i d) → next ≡ set made i (get_or ys i d)
        → next ≡ farther_each far xs (take (i + 1) ys)
    place_taken less is =
        placed (is ∙ ap (set made i)
        (cond_below (far (get_or made i d)) (far (get_or ys i d)) (get_or ys i d) (get_or made i d) less))

    -- the other one is not farther
    pub place_kept : far (get_or ys i d) ≤ far (get_or made i d) → next ≡ made
        → next ≡ farther_each far xs (take (i + 1) ys)
    place_kept most is =
        let kept : get_or made i d ≡ farther far (get_or made i d) (get_or ys i d)
        = cond_above (far (get_or made i d)) (far (get_or ys i d)) (get_or ys i d) (get_or made i d) (get_or made i d)
        most refl in
        placed (is ∙ sym (set-get_or made i d) ∙ ap (set made i) kept)

  pub farther_each-length : (xs ys : List X) → length xs ≡ length ys → length (farther_each far xs ys) ≡ length ys
  farther_each-length [] ys e = refl
  farther_each-length (x ∷ xs) [] e = e
  farther_each-length (x ∷ xs) (y ∷ ys) e = ap suc (farther_each-length xs ys (omega arith))

-- how far the farther one of two is seen is the farther one of both
module _ {X Y : Type 0} (seen : X → Y) (own : X → ℕ) (far : Y → ℕ) (same : (x : X) → far (seen x) ≡ own x) where
  either_seen : (b : Bool) (x y : X) → seen (cond b y x) ≡ cond b (seen y) (seen x)
  either_seen true x y = refl
  either_seen false x y = refl

  farther-seen : (x y : X) → seen (farther own x y) ≡ farther far (seen x) (seen y)
  farther-seen x y =
      either_seen (nat_lt (own x) (own y)) x y
      ∙ (λ i. cond (nat_lt (sym (same x) i) (sym (same y) i)) (seen y) (seen x))

  pub farther_each-map : (xs ys : List X) → map seen (farther_each own xs ys)
      ≡ farther_each far (map seen xs) (map seen ys)
  farther_each-map [] ys = refl
  farther_each-map (x ∷ xs) [] = refl
  farther_each-map (x ∷ xs) (y ∷ ys) = (λ i. farther-seen x y i ∷ farther_each-map xs ys i)

-- ---- lists

longer_none : {X : Type 0} (xs : List X) → xs ≡ longer [] xs
longer_none [] = refl
longer_none (x ∷ xs) = cond_below zero (suc (length xs)) (x ∷ xs) [] (omega arith)

longer_alone : {X : Type 0} (xs : List X) → xs ≡ longer xs []
longer_alone [] = refl
longer_alone (x ∷ xs) = cond_above (suc (length xs)) zero [] (x ∷ xs) (x ∷ xs) (omega arith) refl

pub longer_each-get : {X : Type 0} (xss yss : List (List X)) (i : ℕ)
    → get_or (longer_each xss yss) i [] ≡ longer (get_or xss i []) (get_or yss i [])
longer_each-get [] yss i = longer_none (get_or yss i [])
longer_each-get (xs ∷ xss) [] i = longer_alone (get_or (xs ∷ xss) i [])
longer_each-get (xs ∷ xss) (ys ∷ yss) zero = refl
longer_each-get (xs ∷ xss) (ys ∷ yss) (suc i) = longer_each-get xss yss i
