-- Windows of three bytes.
use Rattle.std.proofs.Common.{◌≡◌, ℕ, ◌<◌, Bool, true, List, [], ◌∷◌, ◌++◌, length, refl, arith}
use Rattle.std.specs.List.{list_all}
use Rattle.std.proofs.lemmas.Bool.{and_parts, and_from}
use Rattle.mon_hints.specs.Hints.{windows}

-- every window passes
abbrev pub Pass : (List ℕ → Bool) → List ℕ → Type 0
Pass test bytes = list_all test (windows bytes) ≡ true

pub pass_tail : (test : List ℕ → Bool) (byte : ℕ) (bytes : List ℕ) → Pass test (byte ∷ bytes) → Pass test bytes
pass_tail test a [] h = refl
pass_tail test a (b ∷ []) h = refl
pass_tail test a (b ∷ c ∷ bytes) h =
    (and_parts (test (a ∷ b ∷ c ∷ [])) (list_all test (windows (b ∷ c ∷ bytes))) h).1

-- what passes of a text passes of what stands behind a front
pub pass_back : (test : List ℕ → Bool) (front bytes : List ℕ) → Pass test (front ++ bytes) → Pass test bytes
pass_back test [] bytes h = h
pass_back test (byte ∷ front) bytes h = pass_back test front bytes (pass_tail test byte (front ++ bytes) h)

-- and of a front
pub pass_front : (test : List ℕ → Bool) (bytes back : List ℕ) → Pass test (bytes ++ back) → Pass test bytes
pass_front test [] back h = refl
pass_front test (a ∷ []) back h = refl
pass_front test (a ∷ b ∷ []) back h = refl
pass_front test (a ∷ b ∷ c ∷ bytes) back h =
    let parts = and_parts (test (a ∷ b ∷ c ∷ [])) (list_all test (windows ((b ∷ c ∷ bytes) ++ back))) h in
    and_from (test (a ∷ b ∷ c ∷ [])) (list_all test (windows (b ∷ c ∷ bytes))) parts.0
    (pass_front test (b ∷ c ∷ bytes) back parts.1)

pub no_window : (bytes : List ℕ) → length bytes < 3 → windows bytes ≡ []
no_window [] h = refl
no_window (a ∷ []) h = refl
no_window (a ∷ b ∷ []) h = refl
no_window (a ∷ b ∷ c ∷ bytes) h = absurd (omega arith)
