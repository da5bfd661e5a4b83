-- What lines say by which queries stand, and at which those that are due are asked, is lawful.
use Rattle.std.proofs.lemmas.Bool.{and_parts}
use Rattle.std.proofs.Common.{◌≡◌, ℕ, ◌+◌, ◌<◌, ℤ, ◌≤ℤ◌, ◌^◌, ◌-◌, ◌&&◌, pos, int_le, nat_le, Option, Some, None}
use Rattle.std.proofs.Common.{option_and_then, Bool, true, false, cond, List, [], ◌∷◌, length, Result, Ok, Err, refl, subst, ap, ◌∙◌}
use Rattle.std.proofs.Common.{arith}
use Rattle.std.specs.List.{All, list_all}
use Rattle.std.specs.Option.{ok_or}
use Rattle.std.specs.Str.{is_utf8}
use Rattle.std.proofs.lemmas.Bool.Decides.{nat_tests}
use Rattle.std.proofs.lemmas.Int.{ints}
use Rattle.std.proofs.lemmas.List.Elements.{All-cons, All-nil}
use Rattle.std.proofs.lemmas.Str.{IsUtf8-from_ascii, is_utf8-from_IsUtf8}
use Rattle.std.proofs.lemmas.Str.Ascii.{IsAscii-from_all}
use Rattle.mon_schema.specs.Names.{is_name, is_name_byte, is_name_start}
use Rattle.mon_schema.specs.declared.limits.TheConstants.{LONGEST_NAME}
use Rattle.mon_script.specs.Lines.{cut_at, has_space, is_moment, moment_of, space}
use Rattle.mon_script.specs.StandingLines.{behind_name, is_period, IsLawfulStanding, period_of, stand_of, texts_of}
use Rattle.mon_script.specs.StandingLines.{tick_of, ticks_at, timed}
use Rattle.mon_script.specs.declared.faults.ScriptKind.{ScriptKind}
use Rattle.mon_script.specs.declared.faults.ScriptKind.TheVariants as kind
use Rattle.mon_script.specs.declared.standing_lines.StandingLine.{StandingLine}
use Rattle.mon_script.specs.declared.standing_lines.StandingLine.TheVariants as line
use Rattle.mon_script.specs.declared.standing_lines.TheConstants.{LONGEST_PERIOD}
use Rattle.mon_value.specs.Answers.{◌>>=◌}
use Rattle.mon_value.specs.Values.{number_of, text_in}

-- ---- numbers

in_bounds : (least z number : ℤ) (low high : Bool) → int_le least z ≡ low
    → cond (low && high) (Some z) None ≡ Some number → least ≤ℤ number
in_bounds least z number true true h e =
    let same : z ≡ number = cc in
    subst (λ (m : ℤ). least ≤ℤ m) same (grind (arith, ints))
in_bounds least z number true false h e = cc
in_bounds least z number false high h e = cc

-- a moment is no less than 0
pub moment_lawful : (number : Option ℤ) (moment : ℤ)
    → option_and_then (λ z. cond (is_moment z) (Some z) None) number ≡ Some moment → pos 0 ≤ℤ moment
moment_lawful None moment e = cc
moment_lawful (Some z) moment e =
    in_bounds (pos 0) z moment (int_le (pos 0) z) (int_le z (pos (2 ^ 63 - 1))) refl e

pub period_lawful : (number : Option ℤ) (period : ℤ)
    → option_and_then (λ z. cond (is_period z) (Some z) None) number ≡ Some period → pos 1 ≤ℤ period
period_lawful None period e = cc
period_lawful (Some z) period e =
    in_bounds (pos 1) z period (int_le (pos 1) z) (int_le z LONGEST_PERIOD) refl e

-- ---- lines

abbrev bad : ScriptKind → Result StandingLine ScriptKind
bad why = Err why

ticks_by : (moment : Option ℤ) (said : StandingLine) → ((m : ℤ) → moment ≡ Some m → pos 0 ≤ℤ m)
    → ticks_at moment ≡ Ok said → IsLawfulStanding said
ticks_by None said all e = absurd cc
ticks_by (Some m) said all e =
    let same : line.Tick m ≡ said = cc in subst IsLawfulStanding same (all m refl)

tick_by : (word : List ℕ) (spaced : Bool) (said : StandingLine)
    → cond spaced (bad kind.BadWord) (ticks_at (moment_of word)) ≡ Ok said → IsLawfulStanding said
tick_by word true said e = absurd cc
tick_by word false said e = ticks_by (moment_of word) said (moment_lawful (number_of word)) e

pub tick_lawful : (word : List ℕ) (said : StandingLine) → tick_of word ≡ Ok said → IsLawfulStanding said
tick_lawful word said e = tick_by word (has_space word) said e

period_by : (name text : List ℕ) (period : Option ℤ) (said : StandingLine)
    → ((p : ℤ) → period ≡ Some p → pos 1 ≤ℤ p)
    → ok_or period kind.BadNumber >>= (λ p. Ok (line.Stand name p text)) ≡ Ok said → IsLawfulStanding said
period_by name text None said all e = absurd cc
period_by name text (Some p) said all e =
    let same : line.Stand name p text ≡ said = cc in subst IsLawfulStanding same (all p refl)

texts_by : (name word text : List ℕ) (utf8 : Bool) (said : StandingLine)
    → cond utf8 (timed name word text) (bad kind.BadWord) ≡ Ok said → IsLawfulStanding said
texts_by name word text true said e =
    period_by name text (period_of word) said (period_lawful (number_of word)) e
texts_by name word text false said e = absurd cc

behind_by : (name : List ℕ) (cut : Option (List ℕ × List ℕ)) (said : StandingLine)
    → ok_or cut kind.BadWord >>= (λ words. texts_of name words.0 words.1) ≡ Ok said → IsLawfulStanding said
behind_by name None said e = absurd cc
behind_by name (Some words) said e = texts_by name words.0 words.1 (is_utf8 words.1) said e

named_by : (name rest : List ℕ) (named : Bool) (said : StandingLine)
    → cond named (ok_or (cut_at space rest) kind.BadWord >>= λ words. texts_of name words.0 words.1)
    (bad kind.BadWord) ≡ Ok said → IsLawfulStanding said
named_by name rest true said e = behind_by name (cut_at space rest) said e
named_by name rest false said e = absurd cc

standing_by : (cut : Option (List ℕ × List ℕ)) (said : StandingLine)
    → ok_or cut kind.BadWord >>= (λ words. behind_name words.0 words.1) ≡ Ok said → IsLawfulStanding said
standing_by None said e = absurd cc
standing_by (Some words) said e = named_by words.0 words.1 (is_name words.0) said e

pub standing_lawful : (rest : List ℕ) (said : StandingLine) → stand_of rest ≡ Ok said → IsLawfulStanding said
standing_lawful rest said e = standing_by (cut_at space rest) said e

-- ---- names

start_small : (byte : ℕ) → is_name_start byte ≡ true → byte < 128
start_small byte is = grind (arith, nat_tests, is)

byte_small : (byte : ℕ) → is_name_byte byte ≡ true → byte < 128
byte_small byte is = grind (arith, nat_tests, is)

all_small : (name : List ℕ) → list_all is_name_byte name ≡ true → All (λ b. b < 128) name
all_small [] is = All-nil (λ b. b < 128)
all_small (byte ∷ rest) is =
    let both = and_parts (is_name_byte byte) (list_all is_name_byte rest) is in
    All-cons (λ b. b < 128) byte rest (byte_small byte both.0) (all_small rest both.1)

-- a name is text
pub name_utf8 : (name : List ℕ) → is_name name ≡ true → is_utf8 name ≡ true
unfolding is_name
name_utf8 [] is = absurd cc
name_utf8 (first ∷ rest) is =
    let head = and_parts (is_name_start first) (list_all is_name_byte rest && nat_le (length rest + 1) LONGEST_NAME) is in
    let tail = and_parts (list_all is_name_byte rest) (nat_le (length rest + 1) LONGEST_NAME) head.1 in
    is_utf8-from_IsUtf8 (first ∷ rest) (IsUtf8-from_ascii (first ∷ rest) (IsAscii-from_all (first ∷ rest)
    (All-cons (λ b. b < 128) first rest (start_small first head.0) (all_small rest tail.0))))

-- so its bytes are read as it is
pub name_text : (name : List ℕ) (read : Option (List ℕ)) → is_name name ≡ true → read ≡ text_in name
    → read ≡ Some name
name_text name read named is = is ∙ ap (λ (b : Bool). cond b (Some name) None) (name_utf8 name named)
