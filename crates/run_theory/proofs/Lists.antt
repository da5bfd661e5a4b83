-- Places that pass a test, and what lies between two lengths.
use Rattle.std.proofs.Common.{◌≡◌, ℕ, zero, suc, ◌+◌, ◌-◌, ◌<◌, ◌≤◌, Bool, true, false, List, [], ◌∷◌, ◌++◌}
use Rattle.std.proofs.Common.{length}
use Rattle.std.proofs.Common.{take, drop, slice_get, Some, refl, sym, ap, ◌∙◌, arith, if◌then◌else◌}
use mathlib.Core.List.{IsPrefix}
use Rattle.std.proofs.lemmas.List.{take-append-le, length-append}
use Rattle.run_theory.specs.Parts.{between}
use Rattle.run_theory.specs.InPlace.{end_behind, first_place, last_end}

behind_within : (b : Bool) (m n : ℕ) → m ≤ n → end_behind b m ≤ suc n
behind_within b (suc m) n le = omega arith
behind_within true zero n le = omega arith
behind_within false zero n le = omega arith

none_here : (b : Bool) (m : ℕ) → (b ≡ true → ⊥) → m ≤ 0 → end_behind b m ≤ 0
none_here b (suc m) never le = absurd (omega arith)
none_here true zero never le = absurd (never refl)
none_here false zero never le = omega arith

first_by : (b : Bool) (m n : ℕ) → (b ≡ true → n ≤ 0) → n ≤ suc m → n ≤ (if b then 0 else suc m)
first_by true m n here other = here refl
first_by false m n here other = other

module _ {E : Type 0} where
  none_passes : (test : ℕ → E → Bool) (history : List E)
      → ((k : ℕ) (e : E) → slice_get history k ≡ Some e → test k e ≡ true → ⊥) → last_end test history ≤ 0
  none_passes test [] passed = omega arith
  none_passes test (e ∷ history) passed = none_here (test 0 e) (last_end (λ k. test (suc k)) history)
      (passed 0 e refl) (none_passes (λ k. test (suc k)) history (λ k e' there ok. passed (suc k) e' there ok))

  -- no entry that passes lies past it
  pub last_end_within : (test : ℕ → E → Bool) (history : List E) (n : ℕ)
      → ((k : ℕ) (e : E) → slice_get history k ≡ Some e → test k e ≡ true → k < n) → last_end test history ≤ n
  last_end_within test [] n passed = omega arith
  last_end_within test (e ∷ history) zero passed =
      none_passes test (e ∷ history) (λ k e' there ok. let l = passed k e' there ok in absurd (omega arith))
  last_end_within test (e ∷ history) (suc n) passed =
      behind_within (test 0 e) (last_end (λ k. test (suc k)) history) n
      (last_end_within (λ k. test (suc k)) history n
      (λ k e' there ok. let l = passed (suc k) e' there ok in omega arith))

  -- no entry that passes lies before it
  pub first_place_behind : (test : ℕ → E → Bool) (history : List E) (n : ℕ) → n ≤ length history
      → ((k : ℕ) (e : E) → slice_get history k ≡ Some e → test k e ≡ true → n ≤ k) → n ≤ first_place test history
  first_place_behind test [] n short passed = omega arith
  first_place_behind test (e ∷ history) n short passed =
      first_by (test 0 e) (first_place (λ k. test (suc k)) history) n (passed 0 e refl)
      (let l = first_place_behind (λ k. test (suc k)) history (n - 1) (omega arith)
      (λ k e' there ok. let p = passed (suc k) e' there ok in omega arith) in omega arith)

module _ {X : Type 0} where
  abbrev the_nothing : List X
  the_nothing = []

  drop_nothing : (n : ℕ) → drop n (the_nothing) ≡ the_nothing
  drop_nothing zero = refl
  drop_nothing (suc n) = refl

  between_none : (from mid : ℕ) (xs : List X) → from ≤ mid → mid ≤ 0
      → between from 0 xs ≡ between from mid xs ++ between mid 0 xs
  between_none zero zero xs low high = refl
  between_none (suc from) zero xs low high = absurd (omega arith)
  between_none from (suc mid) xs low high = absurd (omega arith)

  -- what lies between stays as a list grows
  pub between_stays : (from to : ℕ) (xs ys : List X) → to ≤ length xs → IsPrefix xs ys
      → between from to xs ≡ between from to ys
  between_stays from to xs ys within p =
      ap (drop from) (sym (take-append-le to xs p.0 within) ∙ ap (take to) p.1)

  -- what lies between two lengths is what lies up to one in between, and behind it
  pub between_cut : (from mid to : ℕ) (xs : List X) → from ≤ mid → mid ≤ to
      → between from to xs ≡ between from mid xs ++ between mid to xs
  between_cut from mid zero xs low high = between_none from mid xs low (omega arith)
  between_cut from zero (suc to) [] low high = drop_nothing from ∙ sym (ap (λ w. w ++ []) (drop_nothing from))
  between_cut from (suc mid) (suc to) [] low high = drop_nothing from ∙ sym (ap (λ w. w ++ []) (drop_nothing from))
  between_cut zero zero (suc to) (x ∷ xs) low high = refl
  between_cut zero (suc mid) (suc to) (x ∷ xs) low high =
      ap (λ w. x ∷ w) (between_cut 0 mid to xs (omega arith) (omega arith))
  between_cut (suc from) zero (suc to) (x ∷ xs) low high = absurd (omega arith)
  between_cut (suc from) (suc mid) (suc to) (x ∷ xs) low high =
      between_cut from mid to xs (omega arith) (omega arith)

  pub prefix_longer : (xs ys : List X) → IsPrefix xs ys → length xs ≤ length ys
  prefix_longer xs ys p = let e : length xs + length p.0 ≡ length ys = sym (length-append xs p.0) ∙ ap length p.1 in
      omega arith
