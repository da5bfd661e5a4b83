use Rattle.std.proofs.Common.{sym, ◌∙◌, None, Some, ◌≡◌, pos, ℕ, ◌+◌, ◌<◌, ◌^◌, length, to_z, arith, get_or, take}
use Rattle.std.specs.Str.Parse.{digits_value}
use Rattle.std.proofs.lemmas.Bool.{OnTrue_at}
use Rattle.std.proofs.lemmas.Bool.Decides.{nat_tests}
use Rattle.std.proofs.lemmas.Str.{digit_value_digit}
use Rattle.std.proofs.lemmas.Str.Parse.{digit_from_value}
use Rattle.std.specs.Char.{digit_value}
use Rattle.std.specs.Int.{w128}
use Rattle.std.proofs.lemmas.Int.{ints}
use Rattle.std.proofs.lemmas.Int.Digits.{digits_value_more}
use Rattle.mon_value.specs.Values.{numeral_of}
use Rattle.mon_value.proofs.NumberLemmas.{digits_grow, value_small, no_numeral, whole_numeral}
use Rattle.mon_value.proofs.numbers.read_numeral.Goals as goal

-- a byte that is no digit
pub returns-then-not-is_ascii_digit : goal.returns-then-not-is_ascii_digit
returns-then-not-is_ascii_digit c =
    let e : numeral_of c.args.digits.now ≡ None = no_numeral c.args.digits.now c.loop-digit.digit-index (omega arith)
    (sym c.is_ascii_digit.ensures.value ∙ c.if-not-is_ascii_digit.true) in
    record { number = rw e }

-- up to 32 digits fit 128 bits
pub overflow_mul-number : goal.overflow_mul-number
overflow_mul-number c =
    let small : digits_value 10 (take c.loop-digit.digit-index c.args.digits.now) < 10 ^ 32 =
    value_small c.args.digits.now c.loop-digit.digit-index 32 (omega arith) c.loop-digit.invariant.0 in
    omega arith

pub overflow_add-number : goal.overflow_add-number
overflow_add-number c =
    let small : digits_value 10 (take c.loop-digit.digit-index c.args.digits.now) < 10 ^ 32 =
    value_small c.args.digits.now c.loop-digit.digit-index 32 (omega arith) c.loop-digit.invariant.0 in
    omega arith

-- one more digit
pub loop-digit-preserved : goal.loop-digit-preserved
loop-digit-preserved c =
    let digit = OnTrue_at c.if-not-is_ascii_digit.false c.is_ascii_digit.ensures.bound in
    let more = digits_value_more 10 c.args.digits.now c.loop-digit.digit-index (omega arith) in
    let byte : ℕ = get_or c.args.digits.now c.loop-digit.digit-index 0 in
    let read : digit_value byte + 48 ≡ byte = digit_value_digit byte (digit_from_value byte digit) in (
      digits_grow c.args.digits.now c.loop-digit.digit-index (omega arith) c.loop-digit.invariant.0 digit,
      omega (arith, more),
    )

pub overflow_cast-result : goal.overflow_cast-result
overflow_cast-result c =
    let small : digits_value 10 (take c.loop-digit.digit-index c.args.digits.now) < 10 ^ 32 =
    value_small c.args.digits.now c.loop-digit.digit-index 32 (omega arith) c.loop-digit.invariant.0 in
    omega (arith, ints)

-- all bytes were digits
pub returns : goal.returns
returns c =
    let text = c.args.digits.now in
    let i = c.loop-digit.digit-index in
    let some : 0 < length text = grind (arith, nat_tests) in
    let whole : numeral_of text ≡ Some (digits_value 10 (take i text)) = whole_numeral text i (omega arith) some
    (omega arith) c.loop-digit.invariant.0 in
    let small : digits_value 10 (take i text) < 10 ^ 32 = value_small text i 32 (omega arith)
    c.loop-digit.invariant.0 in
    let same : to_z w128 c.loop-digit.number ≡ pos (digits_value 10 (take i text)) = omega (arith, ints) in
    record { number = rw (whole, same) }
