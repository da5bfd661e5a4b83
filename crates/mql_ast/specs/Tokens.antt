-- What is left of a text, and the tokens of query texts. Blanks stand before a token.
use Rattle.std.specs.Prelude.{ℕ, Bool, ◌==◌, ◌||◌, ◌&&◌, nat_le, ◌+◌, true, false, List, [], ◌∷◌, if◌then◌else◌, ℤ, pos}
use Rattle.std.specs.Prelude.{◌-◌, ◌*◌, ◌^◌, ◌-ℤ◌, unsigned_abs, not, codes, Option, Some, None, option_and_then}
use Rattle.mon_value.specs.declared.limits.TheConstants.{LONGEST_DURATION}
use Rattle.mql_ast.specs.declared.names.Name.{Name}

-- The bytes of which query texts are made.

-- a space, a tab, LF or CR
abbrev pub is_blank : ℕ → Bool
is_blank b = b == 32 || b == 9 || b == 10 || b == 13

-- what a name begins with: A to Z, a to z and `_`
abbrev pub is_letter : ℕ → Bool
is_letter b = (nat_le 97 b && nat_le b 122) || (nat_le 65 b && nat_le b 90) || b == 95

abbrev pub is_digit : ℕ → Bool
is_digit b = nat_le 48 b && nat_le b 57

-- what a name goes on with
abbrev pub is_word_byte : ℕ → Bool
is_word_byte b = is_letter b || is_digit b

-- what stands between the slashes of a metric's name
abbrev pub is_metric_byte : ℕ → Bool
is_metric_byte b = is_word_byte b || b == 46

-- / . : { } [ ] ( ) , ; | & ! = < > ~ + - "
abbrev pub is_sign : ℕ → Bool
is_sign b =
    b == 47 || b == 46 || b == 58 || b == 123 || b == 125 || b == 91 || b == 93 || b == 40 || b == 41
    || b == 44 || b == 59 || b == 124 || b == 38 || b == 33 || b == 61 || b == 60
    || b == 62 || b == 126 || b == 43 || b == 45 || b == 34

-- what may stand outside texts in quotes
abbrev pub is_alphabet : ℕ → Bool
is_alphabet b = is_word_byte b || is_blank b || is_sign b

-- What is left of a text.

-- the bytes that are left, and the place of their first
pub record Rest : Type 0 where
  pub at : ℕ
  pub bytes : List ℕ

-- the first byte, or 0 where nothing is left
abbrev pub first_of : List ℕ → ℕ
first_of [] = 0
first_of (b ∷ bs) = b

abbrev pub behind_first : ℕ → List ℕ → Rest
behind_first at [] = record { at = at; bytes = [] }
behind_first at (b ∷ bs) = record { at = at + 1; bytes = bs }

abbrev pub head : Rest → ℕ
head s = first_of s.bytes

-- what is left behind the first byte
abbrev pub behind : Rest → Rest
behind s = behind_first s.at s.bytes

abbrev pub behind_blanks : ℕ → List ℕ → Rest
behind_blanks at [] = record { at = at; bytes = [] }
behind_blanks at (b ∷ bs) = if is_blank b then behind_blanks (at + 1) bs else record { at = at; bytes = b ∷ bs }

-- what is left from the next token on
unfoldable pub skip : Rest → Rest
skip s = behind_blanks s.at s.bytes

abbrev pub is_none_left : List ℕ → Bool
is_none_left [] = true
is_none_left (b ∷ bs) = false

-- whether nothing is left
abbrev pub is_end : Rest → Bool
is_end s = is_none_left s.bytes

-- The tokens of query texts. Blanks stand before a token.

-- a sign of one byte, and what is left behind it
abbrev pub sign_at : ℕ → Rest → Option Rest
sign_at sign s = if head (skip s) == sign then Some (behind (skip s)) else None

-- these bytes, which stand here without blanks before them
abbrev pub past : List ℕ → Rest → Option Rest
past [] s = Some s
past (c ∷ cs) s = if head s == c then past cs (behind s) else None

-- a keyword or a sign of several bytes
abbrev pub keyword_at : List ℕ → Rest → Option Rest
keyword_at word s = past word (skip s)

abbrev pub word_bytes : List ℕ → List ℕ
word_bytes [] = []
word_bytes (b ∷ bs) = if is_word_byte b then b ∷ word_bytes bs else []

abbrev pub behind_word : ℕ → List ℕ → Rest
behind_word at [] = record { at = at; bytes = [] }
behind_word at (b ∷ bs) = if is_word_byte b then behind_word (at + 1) bs else record { at = at; bytes = b ∷ bs }

-- the letters, digits and `_` that stand here
abbrev pub word_here : Rest → Name × Rest
word_here s = (record { at = s.at; text = word_bytes s.bytes }, behind_word s.at s.bytes)

-- a name: a letter or `_`, and all letters, digits and `_` behind it
abbrev pub name_at : Rest → Option (Name × Rest)
name_at s = if is_letter (head (skip s)) then Some (word_here (skip s)) else None

abbrev pub with_byte : ℕ → Option (List ℕ × Rest) → Option (List ℕ × Rest)
with_byte b read = option_and_then (λ x. Some (b ∷ x.0, x.1)) read

-- a metric's bytes, from behind a slash or from behind another of its bytes
abbrev pub metric_from : Bool → ℕ → List ℕ → Option (List ℕ × Rest)
metric_from after_slash at [] = if after_slash then None else Some ([], record { at = at; bytes = [] })
metric_from after_slash at (b ∷ bs) =
    if is_metric_byte b then with_byte b (metric_from false (at + 1) bs) else
    (if b == 47 && not after_slash then with_byte b (metric_from true (at + 1) bs) else
    (if after_slash then None else Some ([], record { at = at; bytes = b ∷ bs })))

-- a metric's name, which begins at this place
abbrev pub metric_name : ℕ → List ℕ → Name
metric_name at bytes = record { at = at; text = 47 ∷ bytes }

abbrev pub metric_behind : ℕ → Rest → Option (Name × Rest)
metric_behind at slash = option_and_then (λ x. Some (metric_name at x.0, x.1)) (metric_from true slash.at slash.bytes)

-- a metric's name: one or more parts, each a slash and one or more letters, digits, `_` or dots
abbrev pub metric_at : Rest → Option (Name × Rest)
metric_at s = option_and_then (metric_behind (skip s).at) (keyword_at (codes "/") s)

-- the value of digits behind others, where it is at most so much
abbrev pub digits_from : ℕ → ℕ → ℕ → List ℕ → Option (ℕ × Rest)
digits_from most value at [] = Some (value, record { at = at; bytes = [] })
digits_from most value at (b ∷ bs) =
    if is_digit b then (if nat_le (value * 10 + (b - 48)) most
    then digits_from most (value * 10 + (b - 48)) (at + 1) bs else None)
    else Some (value, record { at = at; bytes = b ∷ bs })

-- a number from 1 on: a digit from 1 to 9, and digits
abbrev pub positive_at : ℕ → Rest → Option (ℕ × Rest)
positive_at most s =
    let t = skip s in
    if is_digit (head t) && not (head t == 48)
    then digits_from most (head t - 48) (behind t).at (behind t).bytes else None

-- a number: 0, or one from 1 on
abbrev pub number_at : ℕ → Rest → Option (ℕ × Rest)
number_at most s = if head (skip s) == 48 then Some (0, behind (skip s)) else positive_at most s

abbrev pub minus : ℕ → ℤ
minus n = pos 0 -ℤ pos n

-- a number with a sign or without, of 64 bits
abbrev pub signed_at : Rest → Option (ℤ × Rest)
signed_at s =
    if head (skip s) == 45 then option_and_then (λ n. Some (minus n.0, n.1)) (number_at (2 ^ 63) (behind (skip s)))
    else option_and_then (λ n. Some (pos n.0, n.1)) (number_at (2 ^ 63 - 1) s)

-- how many seconds a unit has, or 0 where it is none
abbrev pub unit_seconds : ℕ → ℕ
unit_seconds b =
    if b == 115 then 1 else (if b == 109 then 60 else (if b == 104 then 3600 else (if b == 100 then 86400 else 0)))

-- the longest duration, in seconds
abbrev pub longest : ℕ
longest = unsigned_abs LONGEST_DURATION

abbrev pub with_unit : ℕ × Rest → Option (ℤ × Rest)
with_unit n =
    let seconds = n.0 * unit_seconds (head n.1) in
    if unit_seconds (head n.1) == 0 then None else
    (if nat_le seconds longest then Some (pos seconds, behind n.1) else None)

-- a duration: a number, and a unit directly behind it
abbrev pub duration_at : Rest → Option (ℤ × Rest)
duration_at s = option_and_then with_unit (positive_at longest s)
