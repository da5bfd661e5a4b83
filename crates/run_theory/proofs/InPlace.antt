-- Where a line ran, and what its place is by the entries of other lines.
use Rattle.std.proofs.Common.{◌≡◌, ℕ, ◌<◌, ◌≤◌, Bool, true, false, ◌||◌, List, [], ◌∷◌}
use Rattle.std.proofs.Common.{slice_get, Some, refl, arith}
use Rattle.std.specs.List.{AllByRecursion, list_any}
use Rattle.std.proofs.lemmas.Bool.{false≢true}
use Rattle.run_theory.specs.Parts.{IsWithin, Ran, RanBefore, RanBehind}
use Rattle.run_theory.specs.InPlace.{first_place, last_end}
use Rattle.run_theory.proofs.Lists.{first_place_behind, last_end_within}

pub any_by : {C : Type 0} (b r : Bool) → (b ≡ true → C) → (r ≡ true → C) → (b || r) ≡ true → C
any_by true r here there found = here refl
any_by false r here there found = there found

pub any_from : {R : Type 0} (P : R → Type 0) (C : Type 0) (test : R → Bool) (xs : List R) → AllByRecursion P xs
    → ((x : R) → P x → test x ≡ true → C) → list_any test xs ≡ true → C
any_from P C test [] all from found = absurd (false≢true found)
any_from P C test (x ∷ xs) all from found =
    any_by (test x) (list_any test xs) (from x all.0) (any_from P C test xs all.1 from) found

module _ {W H E R : Type 0} (content : W → H → List E) (under : E → ℕ)
    (Makes : ℕ → R → (H → List E) → Type 0) (Finds : W → (H → ℕ) → (H → ℕ) → ℕ → R → Type 0)
    (is_of : R → H → ℕ → E → Bool) (whole : W)
    (placed : (from to : H → ℕ) (number : ℕ) (line : R) (h : H) (k : ℕ) (e : E)
    → Ran content under Makes Finds whole from to number line → slice_get (content whole h) k ≡ Some e
    → is_of line h k e ≡ true
    → (from h ≤ k) × (k < to h)) where
  -- all entries of the lines that its caller had seen lie before it
  pub low_within : (from : H → ℕ) (h : H) (seen : List R)
      → AllByRecursion (RanBefore content under Makes Finds whole from) seen
      → last_end (λ k e. list_any (λ line. is_of line h k e) seen) (content whole h) ≤ from h
  low_within from h seen before = last_end_within (λ k e. list_any (λ line. is_of line h k e) seen)
      (content whole h) (from h)
      (λ k e there found. any_from (RanBefore content under Makes Finds whole from) (k < from h)
      (λ line. is_of line h k e) seen
      before
      (λ line ran is. let p = placed ran.from ran.to ran.number line h k e ran.ran there is in
      let b = ran.below h in omega arith) found)

  -- and those of the lines whose callers had seen it behind it
  pub high_behind : (to : H → ℕ) (h : H) (later : List R) → IsWithin content to whole
      → AllByRecursion (RanBehind content under Makes Finds whole to) later
      → to h ≤ first_place (λ k e. list_any (λ line. is_of line h k e) later) (content whole h)
  high_behind to h later within behind = first_place_behind (λ k e. list_any (λ line. is_of line h k e) later)
      (content whole h)
      (to h) (within h)
      (λ k e there found. any_from (RanBehind content under Makes Finds whole to) (to h ≤ k)
      (λ line. is_of line h k e) later
      behind
      (λ line ran is. let p = placed ran.from ran.to ran.number line h k e ran.ran there is in
      let b = ran.below h in omega arith) found)
