-- One byte more of what is left.
use Rattle.std.proofs.Common.{◌≡◌, ℕ, ◌+◌, ◌<◌, Bool, true, false, List, [], ◌∷◌, length, refl, sym, ap, ◌∙◌, arith}
use Rattle.std.proofs.Common.{if◌then◌else◌}
use Rattle.std.proofs.lemmas.Bool.{false≢true}
use Rattle.mql_ast.specs.Tokens.{is_blank, Rest, first_of, behind_first, behind_blanks, head, behind, skip}

blank_on : (at : ℕ) (bs : List ℕ) → is_blank (first_of bs) ≡ true → behind_blanks (behind_first at bs).at
    (behind_first at bs).bytes ≡ behind_blanks at bs
blank_on at [] h = refl
blank_on at (b ∷ bs) h = sym (ap (λ t. if t then behind_blanks (at + 1) bs else record { at = at; bytes = b ∷ bs }) h)

pub skip_on : (s : Rest) → is_blank (head s) ≡ true → skip (behind s) ≡ skip s
unfolding skip
skip_on s h = blank_on s.at s.bytes h

blank_off : (at : ℕ) (bs : List ℕ) → is_blank (first_of bs) ≡ false →
    behind_blanks at bs ≡ record { at = at; bytes = bs }
blank_off at [] h = refl
blank_off at (b ∷ bs) h = ap (λ t. if t then behind_blanks (at + 1) bs else record { at = at; bytes = b ∷ bs }) h

pub skip_off : (s : Rest) → is_blank (head s) ≡ false → skip s ≡ s
unfolding skip
skip_off s h = blank_off s.at s.bytes h

first_shorter : (at : ℕ) (bs : List ℕ) → (first_of bs ≡ 0 → ⊥) → length (behind_first at bs).bytes < length bs
first_shorter at [] h = absurd (h refl)
first_shorter at (b ∷ bs) h = omega arith

pub behind_shorter : (s : Rest) → (head s ≡ 0 → ⊥) → length (behind s).bytes < length s.bytes
behind_shorter s h = first_shorter s.at s.bytes h

-- a test that 0 fails
pub tested_shorter : (test : ℕ → Bool) → test 0 ≡ false → (s : Rest) → test (head s) ≡ true →
    length (behind s).bytes < length s.bytes
tested_shorter test fails s h = behind_shorter s (λ e. absurd (false≢true (sym fails ∙ ap test (sym e) ∙ h)))

pub blank_shorter : (s : Rest) → is_blank (head s) ≡ true → length (behind s).bytes < length s.bytes
blank_shorter = tested_shorter is_blank refl

-- what is behind blanks, and that less is left behind one
pub ruleset skips = (skip_on, skip_off, blank_shorter)
