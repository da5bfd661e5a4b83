-- What a value prints as and how much it counts, the numbers and texts that bytes spell, and the bounds of both.
use Rattle.std.specs.Prelude.{ℕ, ◌^◌, List, Option, Some, None, if◌then◌else◌, ℤ, pos, neg_ℤ, Bool, ◌&&◌, [], ◌∷◌}
use Rattle.std.specs.Prelude.{length, option_map, nat_lt, nat_le, ◌==◌, true, false, map, codes, sum, unsigned_abs}
use Rattle.std.specs.Str.{is_utf8, all_ascii_digits}
use Rattle.std.specs.Str.Parse.{digits_value}
use Rattle.std.specs.Fmt.{decimal, signed_decimal}
use Rattle.std.specs.List.{join_with_byte}
pub use Rattle.mon_value.specs.declared.limits.TheConstants.{LONGEST_FILE, LONGEST_TEXT, LONGEST_DURATION, NUMBER_BITS}
pub use Rattle.mon_value.specs.declared.limits.TheConstants.{ROW_BITS, SUM_BITS, INCREASE_BITS, WIDEST_SUM}
pub use Rattle.mon_value.specs.declared.limits.TheConstants.{MOST_BUCKETS, MOST_SWITCHES}
use Rattle.mon_value.specs.declared.values.Value.{Value}
use Rattle.mon_value.specs.declared.values.Value.TheVariants as value

-- The bounds of sizes, durations and sums. Those that the code tests too are its constants.

-- the greatest magnitude of a sum or of a number of items, and the greatest total of counts
abbrev pub greatest_sum : ℕ
greatest_sum = 2 ^ WIDEST_SUM

-- Which bytes are a text.

-- the text that the bytes are, if they are UTF-8
abbrev pub text_in : List ℕ → Option (List ℕ)
text_in bytes = if is_utf8 bytes then Some bytes else None

-- Numbers as points and scripts spell them.

abbrev pub minus_sign : ℕ
minus_sign = 45

-- whether a text is 1 to 32 decimal digits and nothing else
abbrev pub is_numeral : List ℕ → Bool
is_numeral text = nat_lt 0 (length text) && nat_le (length text) 32 && all_ascii_digits text

-- the number that 1 to 32 decimal digits spell, with any zeros in front
abbrev pub numeral_of : List ℕ → Option ℕ
numeral_of text = if is_numeral text then Some (digits_value 10 text) else None

-- the number that a text spells: a numeral, or `-` and a numeral
abbrev pub number_of : List ℕ → Option ℤ
number_of [] = None
number_of (byte ∷ text) =
    if byte == minus_sign then option_map (λ n. neg_ℤ (pos n)) (numeral_of text)
    else option_map pos (numeral_of (byte ∷ text))

-- What a value prints as, and how much it counts.

abbrev pub semicolon : ℕ
semicolon = 59

-- the counts of a distribution in decimal, joined by `;`
abbrev pub counts_joined : List ℕ → List ℕ
counts_joined counts = join_with_byte semicolon (map decimal counts)

abbrev pub truth_text : Bool → List ℕ
truth_text true = codes "true"
truth_text false = codes "false"

-- a number in decimal, `true` or `false`, a text as it is, a distribution as its counts
abbrev pub value_text : Value → List ℕ
value_text (value.Int z) = signed_decimal z
value_text (value.Bool b) = truth_text b
value_text (value.Text bytes) = bytes
value_text (value.Dist counts) = counts_joined counts

-- how much a value counts: a number by its distance from 0, a distribution by its total
abbrev pub magnitude : Value → ℕ
magnitude (value.Int z) = unsigned_abs z
magnitude (value.Bool p) = 0
magnitude (value.Text s) = 0
magnitude (value.Dist counts) = sum counts
