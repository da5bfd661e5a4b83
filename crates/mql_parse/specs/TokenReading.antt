-- How the tokens of a text are read, and where one is at fault.
use Rattle.std.specs.Prelude.{ℕ, ℤ, pos, ◌+◌, ◌-◌, ◌*◌, ◌^◌, Bool, true, false, ◌==◌, ◌&&◌, not, nat_le, List, [], ◌∷◌}
use Rattle.std.specs.Prelude.{◌++◌, codes, Option, Some, None, Ok, Err, if◌then◌else◌}
use Rattle.mon_value.specs.Answers.{◌>>=◌}
use Rattle.mon_value.specs.Values.{text_in}
use Rattle.mql_ast.specs.declared.names.Name.{Name}
use Rattle.mql_ast.specs.Tokens.{is_letter, is_digit, is_metric_byte, Rest, head, behind, skip, word_here, minus}
use Rattle.mql_ast.specs.Tokens.{unit_seconds, longest}
use Rattle.mql_ast.specs.Quotes.{Open, Whole, TextStep, TextEnd, TextPass, TextKeep, TextBad, text_step, Sign, Plain}
use Rattle.mql_ast.specs.Quotes.{PatternStep, PatternEnd, PatternCut, PatternPass, PatternKeep, PatternUnfit}
use Rattle.mql_ast.specs.Quotes.{PatternBad, pattern_step}
use Rattle.mql_parse.specs.declared.faults.ParseKind.TheVariants.{BadToken, Expected, NumberTooLarge, BadPattern}
use Rattle.mql_parse.specs.declared.faults.What.TheVariants as what
use Rattle.mql_parse.specs.Outcomes.{Outcome, fault, unexpected_fault, exact, map_outcome}

unfoldable pub name : Rest → Outcome Name
name s = if is_letter (head (skip s)) then Ok (word_here (skip s)) else Err (unexpected_fault what.Name (skip s))

abbrev pub with_byte : ℕ → Outcome (List ℕ) → Outcome (List ℕ)
with_byte b read = map_outcome (λ more. b ∷ more) read

-- a metric's bytes, from behind a slash or from behind another of its bytes
abbrev pub metric_from : Bool → ℕ → List ℕ → Outcome (List ℕ)
metric_from after_slash at [] =
    if after_slash then Err (unexpected_fault what.Metric (record { at = at; bytes = [] }))
    else Ok ([], record { at = at; bytes = [] })
metric_from after_slash at (b ∷ bs) =
    if is_metric_byte b then with_byte b (metric_from false (at + 1) bs) else
    (if b == 47 && not after_slash then with_byte b (metric_from true (at + 1) bs) else
    (if after_slash then Err (unexpected_fault what.Metric (record { at = at; bytes = b ∷ bs }))
    else Ok ([], record { at = at; bytes = b ∷ bs })))

unfoldable pub metric : Rest → Outcome Name
metric s = do
  slash ← exact what.Metric (codes "/") (skip s)
  read ← metric_from true slash.at slash.bytes
  Ok (record { at = (skip s).at; text = 47 ∷ read.0 }, read.1)

-- digits behind others, of which the number so far is made
abbrev pub digits : ℕ → ℕ → ℕ → List ℕ → Outcome ℕ
digits most value at [] = Ok (value, record { at = at; bytes = [] })
digits most value at (b ∷ bs) =
    if is_digit b then (if nat_le (value * 10 + (b - 48)) most then digits most (value * 10 + (b - 48)) (at + 1) bs
    else Err (fault NumberTooLarge (record { at = at; bytes = b ∷ bs })))
    else Ok (value, record { at = at; bytes = b ∷ bs })

unfoldable pub positive : ℕ → Rest → Outcome ℕ
positive most s =
    let t = skip s in
    if is_digit (head t) && not (head t == 48) then digits most (head t - 48) (behind t).at (behind t).bytes
    else Err (unexpected_fault what.Number t)

unfoldable pub number : ℕ → Rest → Outcome ℕ
number most s = if head (skip s) == 48 then Ok (0, behind (skip s)) else positive most s

unfoldable pub signed_reading : Rest → Outcome ℤ
signed_reading s =
    if head (skip s) == 45 then map_outcome minus (number (2 ^ 63) (behind (skip s)))
    else map_outcome pos (number (2 ^ 63 - 1) s)

-- so many units, or the fault of what is none or of too many
abbrev pub units : ℕ × Rest → Outcome ℤ
units n =
    let seconds = n.0 * unit_seconds (head n.1) in
    if unit_seconds (head n.1) == 0 then Err (unexpected_fault what.Unit n.1) else
    (if nat_le seconds longest then Ok (pos seconds, behind n.1) else Err (fault NumberTooLarge n.1))

unfoldable pub duration : Rest → Outcome ℤ
duration s = positive longest s >>= units

-- a content that was read up to the quote here
abbrev pub text_end : Option (List ℕ) → Rest → Rest → Outcome (List ℕ)
text_end None s rest = Err (fault BadToken s)
text_end (Some text) s rest = Ok (text, rest)

abbrev pub after_text_step : TextStep → ℕ → Rest → Rest → List ℕ →
    (Open → List ℕ → Outcome (List ℕ)) → Outcome (List ℕ)
after_text_step TextEnd b s rest content go = text_end (text_in content) s rest
after_text_step (TextPass next) b s rest content go = go next content
after_text_step (TextKeep next) b s rest content go = go next (content ++ b ∷ [])
after_text_step TextBad b s rest content go = Err (fault BadToken s)

-- a text in quotes, of which this content was read
abbrev pub text_from : Open → List ℕ → ℕ → List ℕ → Outcome (List ℕ)
text_from unfinished content at [] = Err (fault (Expected what.Text) (record { at = at; bytes = [] }))
text_from unfinished content at (b ∷ bs) =
    after_text_step (text_step unfinished b) b (record { at = at; bytes = b ∷ bs }) (record { at = at + 1; bytes = bs })
    content (λ next more. text_from next more (at + 1) bs)

-- a text from behind its first quote
unfoldable pub text : Rest → Outcome (List ℕ)
text s = text_from Whole [] s.at s.bytes

-- a piece that was read up to here, among those before it
abbrev pub piece_end : Option (List ℕ) → Rest → List (List ℕ) → (List (List ℕ) → Outcome (List (List ℕ))) →
    Outcome (List (List ℕ))
piece_end None s pieces go = Err (fault BadToken s)
piece_end (Some piece) s pieces go = go (pieces ++ piece ∷ [])

abbrev pub after_pattern_step : PatternStep → ℕ → Rest → Rest → List (List ℕ) → List ℕ →
    (Open → Sign → List (List ℕ) → List ℕ → Outcome (List (List ℕ))) → Outcome (List (List ℕ))
after_pattern_step PatternEnd b s rest pieces content go = piece_end (text_in content) s pieces (λ all. Ok (all, rest))
after_pattern_step PatternCut b s rest pieces content go =
    piece_end (text_in content) s pieces (λ all. go Whole Plain all [])
after_pattern_step (PatternPass next mark) b s rest pieces content go = go next mark pieces content
after_pattern_step (PatternKeep next mark) b s rest pieces content go = go next mark pieces (content ++ b ∷ [])
after_pattern_step PatternUnfit b s rest pieces content go = Err (fault BadPattern s)
after_pattern_step PatternBad b s rest pieces content go = Err (fault BadToken s)

-- a pattern, of which these pieces and this content were read
abbrev pub pattern_from : Open → Sign → List (List ℕ) → List ℕ → ℕ → List ℕ → Outcome (List (List ℕ))
pattern_from unfinished mark pieces content at [] = Err (fault (Expected what.Text) (record { at = at; bytes = [] }))
pattern_from unfinished mark pieces content at (b ∷ bs) =
    after_pattern_step (pattern_step unfinished mark b) b (record { at = at; bytes = b ∷ bs })
    (record { at = at + 1; bytes = bs }) pieces content (λ next sign all more. pattern_from next sign all more (at + 1)
    bs)

-- a pattern from behind its first quote
unfoldable pub pattern : Rest → Outcome (List (List ℕ))
pattern s = pattern_from Whole Plain [] [] s.at s.bytes
