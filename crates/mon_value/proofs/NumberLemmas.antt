-- Digits that are read one after another.
use Rattle.std.proofs.Common.{◌≡◌, ◌+◌, ◌^◌, ◌<◌, ◌≤◌, ℕ, List, length, get_or, take, true, false, Some, None, arith}
use Rattle.std.proofs.Common.{length-take, take_all}
use Rattle.std.specs.Char.{is_ascii_digit, digit_value}
use Rattle.std.specs.Str.{all_ascii_digits}
use Rattle.std.specs.Str.Parse.{digits_value}
use Rattle.std.proofs.lemmas.Bool.{false_from_ne_true, and_right, and_from, le-leb, lt-ltb}
use Rattle.std.proofs.lemmas.Bool.Decides.{nat_tests}
use Rattle.std.proofs.lemmas.Int.Digits.{digits_more}
use Rattle.std.proofs.lemmas.Str.Parse.{IsNumeralModel, numerals_by_value, tells_all_ascii_digits, digits_value_short}
use Rattle.std.proofs.lemmas.Str.Parse.{digit_at}
use Rattle.mon_value.specs.Values.{is_numeral, numeral_of}

abbrev pub numerals : IsNumeralModel (λ ds. all_ascii_digits ds ≡ true) (digits_value 10)
numerals = numerals_by_value _ tells_all_ascii_digits

-- one more byte that is a digit
pub digits_grow : (text : List ℕ) (i : ℕ) → i < length text → all_ascii_digits (take i text) ≡ true
    → digit_value (get_or text i 0) < 10 → all_ascii_digits (take (i + 1) text) ≡ true
digits_grow text i h digits digit = numerals.from _ (digits_more 10 text i h (numerals.to _ digits) digit)

-- k digits at most spell a number below 10 to the k
pub value_small : (text : List ℕ) (i k : ℕ) → i ≤ k → all_ascii_digits (take i text) ≡ true → digits_value 10
    (take i text) < 10 ^ k
value_small text i k h digits = digits_value_short numerals (take i text) k digits (omega (arith, length-take i text))

-- a byte that is no digit
pub no_numeral : (text : List ℕ) (i : ℕ) → i < length text → is_ascii_digit (get_or text i 0) ≡ false → numeral_of text
    ≡ None
no_numeral text i h digit =
    let none : all_ascii_digits text ≡ false = false_from_ne_true _ (λ all. let d = digit_at text i (numerals.to _ all)
    h in grind (arith, nat_tests)) in
    let e : is_numeral text ≡ false = and_right _ _ none in
    rw e

-- a text of 1 to 32 digits
pub whole_numeral : (text : List ℕ) (i : ℕ) → length text ≤ i → 0 < length text → length text ≤ 32 → all_ascii_digits
    (take i text) ≡ true → numeral_of text ≡ Some (digits_value 10 (take i text))
whole_numeral text i h some few digits =
    let all : take i text ≡ text = take_all i text h in
    let e : is_numeral text ≡ true = and_from _ _ (and_from _ _ (lt-ltb _ _ some) (le-leb _ _ few))
    (rw all at digits) in
    rw (all, e)
