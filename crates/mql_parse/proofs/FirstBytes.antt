-- Which words allow what begins with a byte.
use Rattle.std.proofs.Common.{◌≡◌, ℕ, Bool, true, false, ◌==◌, ◌||◌, refl, ap, ◌∙◌, if◌then◌else◌}
use Rattle.mql_ast.specs.Tokens.{is_digit, first_of}
use Rattle.mql_parse.specs.declared.faults.What.{What}
use Rattle.mql_parse.specs.declared.faults.What.TheVariants as what
use Rattle.mql_parse.proofs.FirstWords.{told, admits, digit_told, allowed_of}
use Rattle.mql_parse.proofs.Firsts.{Spot, Begun}
use Rattle.mon_value.proofs.PlainLemmas.{equal_numbers}

-- where the byte is this one, which begins this word
pub at_byte : (x : Spot) (w v : What) (b : ℕ) → told b (first_of x.more) ≡ v → admits w v ≡ true →
    (x.byte == b) ≡ true → Begun x w
at_byte x w v b e h k =
    allowed_of w v x.word x.byte (first_of x.more) x.starts
    (ap (λ n. told n (first_of x.more)) (equal_numbers x.byte b k) ∙ e) h

-- where the byte behind it is this one
pub at_bytes : (x : Spot) (w v : What) (b c : ℕ) → told b c ≡ v → admits w v ≡ true → (x.byte == b) ≡ true →
    (first_of x.more == c) ≡ true → Begun x w
at_bytes x w v b c e h k l = at_byte x w v b (ap (told b) (equal_numbers (first_of x.more) c l) ∙ e) h k

pub digit_begins : (x : Spot) (w : What) → admits w what.Number ≡ true → is_digit x.byte ≡ true → Begun x w
digit_begins x w h k =
    allowed_of w what.Number x.word x.byte (first_of x.more) x.starts (digit_told x.byte (first_of x.more) k) h

pub minus_or_digit : (x : Spot) (w : What) → admits w what.Minus ≡ true → admits w what.Number ≡ true →
    (x.byte == 45 || is_digit x.byte) ≡ true → Begun x w
minus_or_digit x w l m h = by_test (x.byte == 45) refl h
  where
    by_test : (t : Bool) → (x.byte == 45) ≡ t → (t || is_digit x.byte) ≡ true → Begun x w
    by_test true e k = at_byte x w what.Minus 45 refl l e
    by_test false e k = digit_begins x w m k

-- the signs
pub comma_begins : (x : Spot) (w : What) → admits w what.Comma ≡ true → (x.byte == 44) ≡ true → Begun x w
comma_begins x w = at_byte x w what.Comma 44 refl

pub opening_begins : (x : Spot) (w : What) → admits w what.OpenParenthesis ≡ true → (x.byte == 40) ≡ true → Begun x w
opening_begins x w = at_byte x w what.OpenParenthesis 40 refl

pub closing_begins : (x : Spot) (w : What) → admits w what.CloseParenthesis ≡ true → (x.byte == 41) ≡ true → Begun x w
closing_begins x w = at_byte x w what.CloseParenthesis 41 refl

pub close_bracket_begins : (x : Spot) (w : What) → admits w what.CloseBracket ≡ true → (x.byte == 93) ≡ true → Begun x w
close_bracket_begins x w = at_byte x w what.CloseBracket 93 refl

pub plus_begins : (x : Spot) (w : What) → admits w what.Plus ≡ true → (x.byte == 43) ≡ true → Begun x w
plus_begins x w = at_byte x w what.Plus 43 refl

pub minus_begins : (x : Spot) (w : What) → admits w what.Minus ≡ true → (x.byte == 45) ≡ true → Begun x w
minus_begins x w = at_byte x w what.Minus 45 refl

pub bar_begins : (x : Spot) (w : What) → admits w what.Bar ≡ true → (x.byte == 124) ≡ true → Begun x w
bar_begins x w = at_byte x w what.Bar 124 refl

pub exclamation_begins : (x : Spot) (w : What) → admits w what.Comparison ≡ true → (x.byte == 33) ≡ true → Begun x w
exclamation_begins x w = at_byte x w what.Comparison 33 refl

pub open_brace_begins : (x : Spot) (w : What) → admits w what.OpenBrace ≡ true → (x.byte == 123) ≡ true → Begun x w
open_brace_begins x w = at_byte x w what.OpenBrace 123 refl

pub close_brace_begins : (x : Spot) (w : What) → admits w what.CloseBrace ≡ true → (x.byte == 125) ≡ true → Begun x w
close_brace_begins x w = at_byte x w what.CloseBrace 125 refl

pub semicolon_begins : (x : Spot) (w : What) → admits w what.Semicolon ≡ true → (x.byte == 59) ≡ true → Begun x w
semicolon_begins x w = at_byte x w what.Semicolon 59 refl

pub open_bracket_begins : (x : Spot) (w : What) → admits w what.OpenBracket ≡ true → (x.byte == 91) ≡ true → Begun x w
open_bracket_begins x w = at_byte x w what.OpenBracket 91 refl

pub slash_begins : (x : Spot) (w : What) → admits w what.Metric ≡ true → (x.byte == 47) ≡ true → Begun x w
slash_begins x w = at_byte x w what.Metric 47 refl

pub quote_begins : (x : Spot) (w : What) → admits w what.Text ≡ true → (x.byte == 34) ≡ true → Begun x w
quote_begins x w = at_byte x w what.Text 34 refl

pub colon_begins : (x : Spot) (w : What) → admits w what.Colons ≡ true → admits w what.Colon ≡ true →
    (x.byte == 58) ≡ true → Begun x w
colon_begins x w h k = either (first_of x.more == 58) refl
  where
    either : (t : Bool) → (first_of x.more == 58) ≡ t → (x.byte == 58) ≡ true → Begun x w
    either true e = at_byte x w what.Colons 58 (ap (λ t. if t then what.Colons else what.Colon) e) h
    either false e = at_byte x w what.Colon 58 (ap (λ t. if t then what.Colons else what.Colon) e) k
