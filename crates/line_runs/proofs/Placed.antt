-- Where an item of a list stands in lists that are parts of it.
use Rattle.std.proofs.Common.{◌≡◌, ◌+◌, ◌≤◌, ◌<◌, ◌∷◌, ℕ, zero, suc, Bool, true, false, cond, List, [], drop, filter}
use Rattle.std.proofs.Common.{length, slice_get, Some, refl, ap, subst, sym, ◌∙◌, arith}
use Rattle.std.proofs.lemmas.Bool.{false≢true}
use Rattle.run_traces.proofs.ListFacts.{no_item}

module _ {X : Type 0} where
  kept_by : (p : X → Bool) (x y : X) (xs : List X) (i : ℕ) (b : Bool) → p x ≡ b
      → ((k : ℕ) → slice_get (filter p xs) k ≡ Some y → (j : ℕ) × (slice_get xs j ≡ Some y))
      → slice_get (cond b (x ∷ filter p xs) (filter p xs)) i ≡ Some y → (j : ℕ) × (slice_get (x ∷ xs) j ≡ Some y)
  kept_by p x y xs zero true passes rest there = (0, there)
  kept_by p x y xs (suc i) true passes rest there = let at = rest i there in (suc at.0, at.1)
  kept_by p x y xs i false passes rest there = let at = rest i there in (suc at.0, at.1)

  -- what passes stands in the list
  pub kept_there : (p : X → Bool) (y : X) (xs : List X) (i : ℕ) → slice_get (filter p xs) i ≡ Some y
      → (j : ℕ) × (slice_get xs j ≡ Some y)
  kept_there p y [] i there = absurd (no_item i y there)
  kept_there p y (x ∷ xs) i there = kept_by p x y xs i (p x) refl (kept_there p y xs) there

  -- what stands behind the first so many stands in the whole
  pub behind : (n j k : ℕ) (xs : List X) (x : X) → k ≡ n + j → slice_get (drop n xs) j ≡ Some x
      → slice_get xs k ≡ Some x
  behind zero j k xs x same there =
      let at : j ≡ k = omega arith in subst (λ w. slice_get xs w ≡ Some x) at there
  behind (suc n) j k [] x same there = absurd (no_item j x there)
  behind (suc n) j zero (y ∷ xs) x same there = absurd (omega arith)
  behind (suc n) j (suc k) (y ∷ xs) x same there = behind n j k xs x (omega arith) there

  -- and the other way round
  pub from_drop : (n k : ℕ) (xs : List X) (x : X) → n ≤ k → slice_get xs k ≡ Some x
      → (j : ℕ) × (k ≡ n + j) × (slice_get (drop n xs) j ≡ Some x)
  from_drop zero k xs x low there = (k, omega arith, there)
  from_drop (suc n) k [] x low there = absurd (no_item k x there)
  from_drop (suc n) zero (y ∷ xs) x low there = absurd (omega arith)
  from_drop (suc n) (suc k) (y ∷ xs) x low there =
      let at = from_drop n k xs x (omega arith) there in
      (at.0, (let e = at.1 in omega arith), at.2)

  pub in_list : (xs : List X) (k : ℕ) (x : X) → slice_get xs k ≡ Some x → k < length xs
  in_list [] k x there = absurd (no_item k x there)
  in_list (y ∷ xs) zero x there = omega arith
  in_list (y ∷ xs) (suc k) x there = let l = in_list xs k x there in omega arith

  -- where nothing passes, no item does
  none_by : (p : X → Bool) (x : X) (xs : List X) (b : Bool) → p x ≡ b → p x ≡ true
      → cond b (x ∷ filter p xs) (filter p xs) ≡ [] → ⊥
  none_by p x xs true is passes none = absurd cc
  none_by p x xs false is passes none = absurd (false≢true (sym is ∙ passes))

  rest_by : (x : X) (kept : List X) (b : Bool) → cond b (x ∷ kept) kept ≡ [] → kept ≡ []
  rest_by x kept true none = absurd cc
  rest_by x kept false none = none

  pub none_kept : (p : X → Bool) (xs : List X) (j : ℕ) (x : X) → slice_get xs j ≡ Some x → p x ≡ true
      → filter p xs ≡ [] → ⊥
  none_kept p [] j x there passes none = absurd (no_item j x there)
  none_kept p (y ∷ xs) zero x there passes none =
      let same : y ≡ x = cc in
      none_by p y xs (p y) refl (ap p same ∙ passes) none
  none_kept p (y ∷ xs) (suc j) x there passes none =
      none_kept p xs j x there passes (rest_by y (filter p xs) (p y) none)
