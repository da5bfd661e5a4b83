-- What a line says by which a query is followed from one moment to later ones; or why it says nothing.
use Rattle.std.specs.Prelude.{◌≡◌, ◌<◌, ◌≤◌, ◌+◌, ◌-◌, ◌*◌, ◌^◌, ◌&&◌, ℕ, zero, suc, ℤ, pos, int_le, nat_le, ◌≤ℤ◌, ◌+ℤ◌}
use Rattle.std.specs.Prelude.{Bool, List, [], ◌∷◌, Option, Some, None, Result, Ok, Err, unsigned_abs, if◌then◌else◌}
use Rattle.std.specs.Prelude.{option_and_then, option_map}
use Rattle.std.specs.Option.{ok_or}
use Rattle.std.specs.Str.{is_utf8}
use Rattle.mon_value.specs.Answers.{◌>>=◌}
use Rattle.mon_value.specs.Values.{number_of}
use Rattle.mon_script.specs.Lines.{cut_at, moment_of, space}
use Rattle.mon_script.specs.StandingLines.{period_of}
use Rattle.mon_script.specs.declared.faults.ScriptKind.{ScriptKind}
use Rattle.mon_script.specs.declared.faults.ScriptKind.TheVariants as kind
use Rattle.mon_script.specs.declared.follows.Moments.{Moments}
use Rattle.mon_script.specs.declared.follows.TheConstants.{MOST_MOMENTS}
use Rattle.mon_script.specs.declared.forms.LineForm.{LineForm}
use Rattle.mon_script.specs.declared.forms.LineForm.TheVariants as form

-- ---- moments

-- so many moments, each so long behind the one before it
abbrev pub moments_from : ℤ → ℤ → ℕ → List ℤ
moments_from first period zero = []
moments_from first period (suc more) = first ∷ moments_from (first +ℤ period) period more

abbrev pub all_moments : Moments → List ℤ
all_moments moments = moments_from moments.first moments.period moments.count

-- how long the last is behind the first
abbrev pub time_behind : Moments → ℕ
time_behind moments = unsigned_abs moments.period * (moments.count - 1)

-- the greatest moment that there is
abbrev pub last_moment : ℕ
last_moment = 2 ^ 63 - 1

-- there is one, they rise, and the last is a moment too
pub record AreLawfulMoments (moments : Moments) : Type 0 where
  pub first : pos 0 ≤ℤ moments.first
  pub period : pos 1 ≤ℤ moments.period
  pub some : 1 ≤ moments.count
  pub last : unsigned_abs moments.first + time_behind moments ≤ last_moment

-- ---- what a line says

-- the number of moments is one from 1 to 1,000
abbrev pub is_count : ℤ → Bool
is_count z = int_le (pos 1) z && int_le z MOST_MOMENTS

abbrev pub count_of : List ℕ → Option ℕ
count_of word = option_and_then (λ z. if is_count z then Some (unsigned_abs z) else None) (number_of word)

-- the last is a moment
abbrev pub fitting : Moments → Option Moments
fitting moments =
    if nat_le (unsigned_abs moments.first + time_behind moments) last_moment then Some moments else None

-- the first moment, the period and the number of moments
abbrev pub moments_spelled : List ℕ → List ℕ → List ℕ → Option Moments
moments_spelled first period count =
    option_and_then (λ at. option_and_then (λ step. option_and_then
    (λ many. fitting (record { first = at; period = step; count = many })) (count_of count)) (period_of period))
    (moment_of first)

abbrev pub timed : Option Moments → List ℕ → Result LineForm ScriptKind
timed moments text = do
  all ← ok_or moments kind.BadNumber
  Ok (form.Follow all text)

-- the text is any text of UTF-8
abbrev pub followed : Option Moments → List ℕ → Result LineForm ScriptKind
followed moments text = if is_utf8 text then timed moments text else Err kind.BadWord

abbrev pub behind_period : List ℕ → List ℕ → List ℕ → Result LineForm ScriptKind
behind_period first period rest = do
  words ← ok_or (cut_at space rest) kind.BadWord
  followed (moments_spelled first period words.0) words.1

abbrev pub behind_first : List ℕ → List ℕ → Result LineForm ScriptKind
behind_first first rest = do
  words ← ok_or (cut_at space rest) kind.BadWord
  behind_period first words.0 words.1

-- `follow` has a moment, a period, a number of moments and a text
abbrev pub follow_form : List ℕ → Result LineForm ScriptKind
follow_form rest = do
  words ← ok_or (cut_at space rest) kind.BadWord
  behind_first words.0 words.1
