-- Facts of truth values, and of the bytes that words are made of.
use Rattle.std.proofs.Common.{◌≡◌, ◌&&◌, ◌||◌, Bool, false, refl, true, ℕ, ap, not, List, [], ◌∷◌, Some, None, arith}
use Rattle.std.proofs.Common.{if◌then◌else◌}
use Rattle.std.proofs.lemmas.Bool.Decides.{nat_tests}
use Rattle.mql_ast.specs.Tokens.{Rest, behind_word, first_of, is_blank, is_digit, is_letter, is_word_byte, word_bytes}

pub or_second : (a b : Bool) → b ≡ true → (a || b) ≡ true
or_second true b h = refl
or_second false b h = h

pub not_false : (t u : Bool) → (not t && u) ≡ true → (t ≡ false) × (u ≡ true)
not_false true u h = absurd (cc)
not_false false u h = (refl, h)

pub letter_in_word : (b : ℕ) → is_letter b ≡ true → is_word_byte b ≡ true
letter_in_word b h = ap (λ t. t || is_digit b) h

pub digit_in_word : (b : ℕ) → is_digit b ≡ true → is_word_byte b ≡ true
digit_in_word b h = either (is_letter b)
  where
    either : (t : Bool) → (t || is_digit b) ≡ true
    either true = refl
    either false = h

pub and_first : (a b : Bool) → (a && b) ≡ true → a ≡ true
and_first true b h = refl
and_first false b h = h

pub if_true : {A : Type 0} (t : Bool) (x y : A) → t ≡ true → (if t then x else y) ≡ x
if_true t x y h = ap (λ u. if u then x else y) h

pub if_false : {A : Type 0} (t : Bool) (x y : A) → t ≡ false → (if t then x else y) ≡ y
if_false t x y h = ap (λ u. if u then x else y) h

-- an option that a test gave
pub chosen : {A : Type 0} (t : Bool) (x y : A) → (if t then Some x else None) ≡ Some y → (t ≡ true) × (x ≡ y)
chosen true x y h = (refl, cc)
chosen false x y h = absurd (cc)

pub letter_no_blank : (b : ℕ) → is_letter b ≡ true → is_blank b ≡ false
letter_no_blank b h = grind (arith, nat_tests)

pub word_bytes_off : (rest : List ℕ) → is_word_byte (first_of rest) ≡ false → word_bytes rest ≡ []
word_bytes_off [] h = refl
word_bytes_off (b ∷ bs) h = if_false (is_word_byte b) _ _ h

pub behind_word_off : (at : ℕ) (rest : List ℕ) → is_word_byte (first_of rest) ≡ false → behind_word at rest
    ≡ record { at = at; bytes = rest }
behind_word_off at [] h = refl
behind_word_off at (b ∷ bs) h = if_false (is_word_byte b) _ _ h
