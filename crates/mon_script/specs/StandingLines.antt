-- What a line says by which a query comes to stand, or at which those that are due are asked; or why it says nothing.
use Rattle.std.specs.Prelude.{◌&&◌, ◌≤ℤ◌, ℕ, ℤ, pos, int_le, Bool, List, Option, Some, None, Result, Ok, Err}
use Rattle.std.specs.Prelude.{option_and_then, if◌then◌else◌}
use Rattle.std.specs.Option.{ok_or}
use Rattle.std.specs.Str.{is_utf8}
use Rattle.mon_schema.specs.Names.{is_name}
use Rattle.mon_value.specs.Answers.{◌>>=◌}
use Rattle.mon_value.specs.Values.{number_of}
use Rattle.mon_script.specs.Lines.{cut_at, has_space, moment_of, space}
use Rattle.mon_script.specs.declared.faults.ScriptKind.{ScriptKind}
use Rattle.mon_script.specs.declared.faults.ScriptKind.TheVariants as kind
use Rattle.mon_script.specs.declared.standing_lines.StandingLine.{StandingLine}
use Rattle.mon_script.specs.declared.standing_lines.StandingLine.TheVariants as line
use Rattle.mon_script.specs.declared.standing_lines.TheConstants.{LONGEST_PERIOD}

-- ---- standing queries

-- a period is a number from 1 to 1,000,000,000
abbrev pub is_period : ℤ → Bool
is_period z = int_le (pos 1) z && int_le z LONGEST_PERIOD

abbrev pub period_of : List ℕ → Option ℤ
period_of word = option_and_then (λ z. if is_period z then Some z else None) (number_of word)

abbrev pub timed : List ℕ → List ℕ → List ℕ → Result StandingLine ScriptKind
timed name word text = do
  period ← ok_or (period_of word) kind.BadNumber
  Ok (line.Stand name period text)

-- the text is any text of UTF-8
abbrev pub texts_of : List ℕ → List ℕ → List ℕ → Result StandingLine ScriptKind
texts_of name period text = if is_utf8 text then timed name period text else Err kind.BadWord

abbrev pub behind_word : List ℕ → List ℕ → Result StandingLine ScriptKind
behind_word name rest = do
  words ← ok_or (cut_at space rest) kind.BadWord
  texts_of name words.0 words.1

abbrev pub behind_name : List ℕ → List ℕ → Result StandingLine ScriptKind
behind_name name rest = if is_name name then behind_word name rest else Err kind.BadWord

-- `standing` has a name, a period and a text
abbrev pub stand_of : List ℕ → Result StandingLine ScriptKind
stand_of rest = do
  words ← ok_or (cut_at space rest) kind.BadWord
  behind_name words.0 words.1

-- ---- ticks

abbrev pub ticks_at : Option ℤ → Result StandingLine ScriptKind
ticks_at (Some moment) = Ok (line.Tick moment)
ticks_at None = Err kind.BadNumber

-- `tick` has a moment
abbrev pub tick_of : List ℕ → Result StandingLine ScriptKind
tick_of word = if has_space word then Err kind.BadWord else ticks_at (moment_of word)

-- ---- what holds of such a line that was read

-- a period is no less than 1, and a moment no less than 0
abbrev pub IsLawfulStanding : StandingLine → Type 0
IsLawfulStanding (line.Stand name period text) = pos 1 ≤ℤ period
IsLawfulStanding (line.Tick moment) = pos 0 ≤ℤ moment
