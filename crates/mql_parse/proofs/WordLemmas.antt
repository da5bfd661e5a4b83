-- Words and digits, one byte more.
use Rattle.std.proofs.Common.{◌≡◌, ℕ, ◌+◌, ◌<◌, true, List, [], ◌∷◌, length, refl, ap, if◌then◌else◌}
use Rattle.std.proofs.lemmas.Bool.{false≢true}
use Rattle.mql_ast.specs.Tokens.{is_word_byte, is_digit, Rest, first_of, behind_first, head, behind, word_bytes}
use Rattle.mql_parse.proofs.RestLemmas.{tested_shorter}

pub word_shorter : (s : Rest) → is_word_byte (head s) ≡ true → length (behind s).bytes < length s.bytes
word_shorter = tested_shorter is_word_byte refl

pub digit_shorter : (s : Rest) → is_digit (head s) ≡ true → length (behind s).bytes < length s.bytes
digit_shorter = tested_shorter is_digit refl

pub word_bytes_on : (at : ℕ) (bs : List ℕ) → is_word_byte (first_of bs) ≡ true →
    word_bytes bs ≡ first_of bs ∷ word_bytes (behind_first at bs).bytes
word_bytes_on at [] h = absurd (false≢true h)
word_bytes_on at (b ∷ bs) h = ap (λ t. if t then b ∷ word_bytes bs else []) h
