-- The places of entries that pass a test are just those that the definitions say.
use Rattle.std.proofs.Common.{◌≡◌, ℕ, zero, suc, ◌<◌, ◌≤◌, Bool, true, false, List, [], ◌∷◌, length}
use Rattle.std.proofs.Common.{slice_get, Some, ap, ◌∙◌, arith, if◌then◌else◌}
use Rattle.std.proofs.lemmas.Bool.{false≢true}
use Rattle.run_theory.specs.InPlace.{end_behind, first_place, last_end}

some_end : (b : Bool) (m : ℕ) → b ≡ true → 0 < end_behind b m
some_end b (suc m) is = omega arith
some_end true zero is = omega arith
some_end false zero is = absurd (false≢true is)

one_farther : (b : Bool) (m k : ℕ) → k < m → suc k < end_behind b m
one_farther b (suc m) k less = omega arith
one_farther true zero k less = absurd (omega arith)
one_farther false zero k less = absurd (omega arith)

none_before : (b : Bool) (m : ℕ) → b ≡ true → (if b then 0 else suc m) ≤ 0
none_before true m is = omega arith
none_before false m is = absurd (false≢true is)

pub no_farther : (b : Bool) (m k : ℕ) → m ≤ k → (if b then 0 else suc m) ≤ suc k
no_farther true m k le = omega arith
no_farther false m k le = omega arith

module _ {E : Type 0} where
  -- each entry that passes stands before it
  pub last_end_holds : (test : ℕ → E → Bool) (history : List E) (k : ℕ) (e : E) → slice_get history k ≡ Some e
      → test k e ≡ true → k < last_end test history
  last_end_holds test [] k e there passes = absurd cc
  last_end_holds test (x ∷ history) zero e there passes =
      let same : x ≡ e = cc in
      some_end (test 0 x) (last_end (λ k. test (suc k)) history) (ap (test 0) same ∙ passes)
  last_end_holds test (x ∷ history) (suc k) e there passes =
      one_farther (test 0 x) (last_end (λ k. test (suc k)) history) k
      (last_end_holds (λ k. test (suc k)) history k e there passes)

  -- none that passes stands before it
  pub first_place_holds : (test : ℕ → E → Bool) (history : List E) (k : ℕ) (e : E) → slice_get history k ≡ Some e
      → test k e ≡ true → first_place test history ≤ k
  first_place_holds test [] k e there passes = absurd cc
  first_place_holds test (x ∷ history) zero e there passes =
      let same : x ≡ e = cc in
      none_before (test 0 x) (first_place (λ k. test (suc k)) history) (ap (test 0) same ∙ passes)
  first_place_holds test (x ∷ history) (suc k) e there passes =
      no_farther (test 0 x) (first_place (λ k. test (suc k)) history) k
      (first_place_holds (λ k. test (suc k)) history k e there passes)

  pub first_place_within : (test : ℕ → E → Bool) (history : List E) → first_place test history ≤ length history
  first_place_within test [] = omega arith
  first_place_within test (x ∷ history) =
      no_farther (test 0 x) (first_place (λ k. test (suc k)) history) (length history)
      (first_place_within (λ k. test (suc k)) history)
