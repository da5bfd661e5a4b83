-- What holds behind some front of a text holds behind some front of a longer one.
use Rattle.std.proofs.Common.{◌≡◌, ℕ, zero, suc, Bool, true, ◌&&◌, List, [], ◌∷◌, drop}
use Rattle.std.proofs.Common.{inl, inr}
use Rattle.std.proofs.lemmas.Bool.{or_cases, or_right, and_parts}
use Rattle.mon_value.specs.Same.{holds_behind}

module _ (test : List ℕ → Bool) where
  -- one byte further in front
  pub behind_more : (n byte : ℕ) (bytes : List ℕ) → holds_behind test (drop n bytes) ≡ true →
      holds_behind test (drop n (byte ∷ bytes)) ≡ true
  behind_more zero byte bytes e = or_right (test (byte ∷ bytes)) (holds_behind test bytes) e
  behind_more (suc n) byte [] e = at_nothing n e
    where
      at_nothing : (n : ℕ) → holds_behind test (drop (suc n) []) ≡ true → holds_behind test (drop n []) ≡ true
      at_nothing zero e = e
      at_nothing (suc n) e = e
  behind_more (suc n) byte (next ∷ bytes) e = behind_more n next bytes e

  -- a piece may be taken at its first place: what matches behind a later one matches behind the first
  pub behind_later : (here : List ℕ → Bool) (n : ℕ) (bytes : List ℕ) →
      holds_behind (λ t. here t && holds_behind test (drop n t)) bytes ≡ true → holds_behind test (drop n bytes) ≡ true
  behind_later here n [] e = (and_parts (here []) (holds_behind test (drop n [])) e).1
  behind_later here n (byte ∷ bytes) e = elim (or_cases (here (byte ∷ bytes) && holds_behind test (drop n
      (byte ∷ bytes))) (holds_behind (λ t. here t && holds_behind test (drop n t)) bytes) e) [
        | inl now ↦ (and_parts (here (byte ∷ bytes)) (holds_behind test (drop n (byte ∷ bytes))) now).1
        | inr later ↦ behind_more n byte bytes (behind_later here n bytes later)
      ]
