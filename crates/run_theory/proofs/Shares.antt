-- No two lines share an entry.
use Rattle.std.proofs.Common.{◌≡◌, ℕ, ◌<◌, ◌≤◌, nat_eq, Bool, true, false, List, [], ◌∷◌}
use Rattle.std.proofs.Common.{slice_get, Some, sym, ◌∙◌, arith}
use Rattle.std.specs.List.{AllByRecursion, list_any}
use Rattle.std.proofs.lemmas.Bool.{false≢true, or_parts, false_from_ne_true, eq-eqb}
use Rattle.run_theory.specs.Parts.{AreApart, EachRan, Ran, RanBehind}
use Rattle.run_theory.specs.InPlace.{AreAlone}
use Rattle.run_theory.proofs.InPlace.{any_by, any_from}

module _ {W H E R : Type 0} (content : W → H → List E) (under : E → ℕ)
    (Makes : ℕ → R → (H → List E) → Type 0) (Finds : W → (H → ℕ) → (H → ℕ) → ℕ → R → Type 0)
    (is_of : R → H → ℕ → E → Bool) (whole : W)
    (placed : (from to : H → ℕ) (number : ℕ) (line : R) (h : H) (k : ℕ) (e : E)
    → Ran content under Makes Finds whole from to number line → slice_get (content whole h) k ≡ Some e
    → is_of line h k e ≡ true
    → (from h ≤ k) × (k < to h) × (under e ≡ number)) where
  -- lines of later parts have no entry of a line
  pub not_later : (from to : H → ℕ) (number : ℕ) (line : R) (later : List R) (h : H) (k : ℕ) (e : E)
      → Ran content under Makes Finds whole from to number line
      → AllByRecursion (RanBehind content under Makes Finds whole to) later → slice_get (content whole h) k ≡ Some e
      → is_of line h k e ≡ true → list_any (λ other. is_of other h k e) later ≡ false
  not_later from to number line later h k e ran behind there mine =
      let p = placed from to number line h k e ran there mine in
      false_from_ne_true (list_any (λ other. is_of other h k e) later)
      (λ found. any_from (RanBehind content under Makes Finds whole to) ⊥ (λ other. is_of other h k e) later behind
      (λ other its is. let q = placed its.from its.to its.number other h k e its.ran there is in
      let b = its.below h in omega arith) found)

  -- nor have those that ran beside it, under other numbers
  not_beside : (from to : H → ℕ) (numbers : List ℕ) (lines : List R) (number : ℕ) (h : H) (k : ℕ) (e : E)
      → EachRan content under Makes Finds whole from to numbers lines → list_any (nat_eq number) numbers ≡ false
      → slice_get (content whole h) k ≡ Some e → under e ≡ number
      → list_any (λ other. is_of other h k e) lines ≡ true → ⊥
  not_beside from to [] [] number h k e each apart there mine found = false≢true found
  not_beside from to [] (line ∷ lines) number h k e each apart there mine found = absurd each
  not_beside from to (n ∷ numbers) [] number h k e each apart there mine found = absurd each
  not_beside from to (n ∷ numbers) (line ∷ lines) number h k e each apart there mine found =
      let two = or_parts (nat_eq number n) (list_any (nat_eq number) numbers) apart in
      any_by (is_of line h k e) (list_any (λ other. is_of other h k e) lines)
      (λ is. let q = (placed from to n line h k e each.0 there is).2 in
      let same : nat_eq number n ≡ true = eq-eqb number n (sym mine ∙ q) in
      absurd (false≢true (sym two.0 ∙ same)))
      (not_beside from to numbers lines number h k e each.1 two.1 there mine) found

  pub part_alone : (from to : H → ℕ) (numbers : List ℕ) (lines : List R)
      → EachRan content under Makes Finds whole from to numbers lines → AreApart numbers
      → AreAlone is_of (content whole) lines
  part_alone from to [] [] each apart = tt
  part_alone from to [] (line ∷ lines) each apart = absurd each
  part_alone from to (n ∷ numbers) [] each apart = absurd each
  part_alone from to (n ∷ numbers) (line ∷ lines) each apart = (
    (λ h k e there mine. false_from_ne_true (list_any (λ other. is_of other h k e) lines)
        (not_beside from to numbers lines n h k e each.1 apart.0 there
        (placed from to n line h k e each.0 there mine).2)),
    part_alone from to numbers lines each.1 apart.1,
  )
