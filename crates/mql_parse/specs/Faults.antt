-- Where a text that no tree spells is at fault, which kinds that fault has, and what it prints as.
use Rattle.std.specs.Prelude.{ℕ, ◌+◌, ◌<◌, ◌≤◌, List, length, take, ◌≡◌, Bool, true, false, ◌==◌, ◌||◌, not, [], ◌∷◌}
use Rattle.std.specs.Prelude.{drop, Option, Some, None, if◌then◌else◌, ◌++◌, codes}
use Rattle.std.specs.Fmt.{decimal}
use Rattle.mon_value.specs.declared.refusals.Refusal.{Refusal}
use Rattle.mon_value.specs.declared.refusals.Refusal.TheVariants as refusal
use Rattle.mql_ast.specs.Grammar.{longest_text, Begins}
use Rattle.mql_ast.specs.Tokens.{is_digit, is_alphabet, unit_seconds}
use Rattle.mql_ast.specs.Quotes.{Open, Whole, TextStep, TextEnd, TextPass, TextKeep, TextBad, text_step}
use Rattle.mql_parse.specs.declared.faults.ParseFault.{ParseFault}
use Rattle.mql_parse.specs.declared.faults.ParseKind.TheVariants.{TooLong, BadToken, BadPattern, Expected}
use Rattle.mql_parse.specs.declared.faults.ParseKind.TheVariants.{NumberTooLarge, TooDeep}
use Rattle.mql_parse.specs.declared.faults.ParseKind.{ParseKind}
use Rattle.mql_parse.specs.declared.faults.What.TheVariants as what
use Rattle.mql_parse.specs.declared.faults.ParseKind.TheVariants as kind
use Rattle.mql_parse.specs.declared.faults.What.{What}

-- Where a text that no tree spells is at fault: behind the longest front of it that begins some query text.

-- the longest front of the text that begins some query text, whatever its length, has so many bytes
pub record IsLongestFront (text : List ℕ) (n : ℕ) : Type 0 where
  pub within : n ≤ length text
  pub begins : Begins (take n text)
  pub no_longer : n < length text → Begins (take (n + 1) text) → ⊥

-- what holds of a refusal's fault, where it is no want of memory
abbrev pub FaultOf : (ParseFault → Type 0) → Refusal ParseFault → Type 0
FaultOf P (refusal.Fault f) = P f
FaultOf P refusal.OutOfMemory = Unit {0}

-- a fault stands behind that front
abbrev pub IsAtLongestFront : List ℕ → ParseFault → Type 0
IsAtLongestFront text f = IsLongestFront text f.at

-- the fault of a text that is too long
abbrev pub too_long : ParseFault
too_long = record { at = longest_text; kind = TooLong }

-- Which kinds a fault has by its byte: in a text in quotes, outside the alphabet, and at the end of the text.

-- what of a text in quotes is open behind a byte of it: nothing, where the byte ends it
abbrev pub open_behind : TextStep → Option Open
open_behind TextEnd = None
open_behind (TextPass next) = Some next
open_behind (TextKeep next) = Some next
open_behind TextBad = Some Whole

abbrev pub quotes_after : Option Open → ℕ → Option Open
quotes_after None b = if b == 34 then Some Whole else None
quotes_after (Some unfinished) b = open_behind (text_step unfinished b)

-- what of a text in quotes is open behind these bytes, which stand behind others
abbrev pub open_quotes : Option Open → List ℕ → Option Open
open_quotes before [] = before
open_quotes before (b ∷ bs) = open_quotes (quotes_after before b) bs

-- whether the byte could stand in a text, or end it
abbrev pub could_stand : TextStep → Bool
could_stand TextEnd = true
could_stand (TextPass next) = true
could_stand (TextKeep next) = true
could_stand TextBad = false

-- the kinds that a byte of the alphabet may have outside texts in quotes
abbrev pub AlphabetKind : ℕ → ParseKind → Type 0
AlphabetKind b (Expected w) = Unit {0}
AlphabetKind b TooDeep = (b == 123 || b == 40 || b == 33) ≡ true
AlphabetKind b NumberTooLarge = (is_digit b || not (unit_seconds b == 0)) ≡ true
AlphabetKind b BadToken = ⊥
AlphabetKind b BadPattern = ⊥
AlphabetKind b TooLong = ⊥

abbrev pub OutsideKind : Bool → ℕ → ParseKind → Type 0
OutsideKind true b kind = AlphabetKind b kind
OutsideKind false b kind = kind ≡ BadToken

-- in quotes: a byte that could stand in a text is refused by a pattern alone
abbrev pub QuotedKind : Bool → ParseKind → Type 0
QuotedKind true kind = kind ≡ BadPattern
QuotedKind false kind = kind ≡ BadToken

abbrev pub IsExpected : ParseKind → Type 0
IsExpected (Expected w) = Unit {0}
IsExpected TooDeep = ⊥
IsExpected NumberTooLarge = ⊥
IsExpected BadToken = ⊥
IsExpected BadPattern = ⊥
IsExpected TooLong = ⊥

-- the kind of a fault, by what is open there and by the bytes that are left
abbrev pub KindFits : Option Open → List ℕ → ParseKind → Type 0
KindFits None [] kind = IsExpected kind
KindFits (Some unfinished) [] kind = kind ≡ Expected what.Text
KindFits None (b ∷ bs) kind = OutsideKind (is_alphabet b) b kind
KindFits (Some unfinished) (b ∷ bs) kind = QuotedKind (could_stand (text_step unfinished b)) kind

-- a fault is of a kind that its byte may have
abbrev pub FaultKind : List ℕ → ParseFault → Type 0
FaultKind text f = KindFits (open_quotes None (take f.at text)) (drop f.at text) f.kind

-- What the fault of a text prints as.

-- the word or the signs as a person reads them
abbrev pub what_text : What → List ℕ
what_text what.Fetch = codes "fetch"
what_text what.Name = codes "name"
what_text what.Metric = codes "metric"
what_text what.Text = codes "text"
what_text what.Number = codes "number"
what_text what.Unit = codes "unit"
what_text what.Truth = codes "truth"
what_text what.Comparison = codes "comparison"
what_text what.Aligner = codes "aligner"
what_text what.Aggregate = codes "aggregate"
what_text what.Operation = codes "operation"
what_text what.How = codes "how"
what_text what.OpenBrace = codes "{"
what_text what.CloseBrace = codes "}"
what_text what.OpenBracket = codes "["
what_text what.CloseBracket = codes "]"
what_text what.OpenParenthesis = codes "("
what_text what.CloseParenthesis = codes ")"
what_text what.Colons = codes "::"
what_text what.Colon = codes ":"
what_text what.Comma = codes ","
what_text what.Semicolon = codes ";"
what_text what.Bar = codes "|"
what_text what.Or = codes "||"
what_text what.And = codes "&&"
what_text what.Not = codes "!"
what_text what.Plus = codes "+"
what_text what.Minus = codes "-"

-- why a text has no tree
abbrev pub parse_kind_text : ParseKind → List ℕ
parse_kind_text kind.BadToken = codes "BadToken"
parse_kind_text (kind.Expected what) = codes "Expected " ++ what_text what
parse_kind_text kind.NumberTooLarge = codes "NumberTooLarge"
parse_kind_text kind.BadPattern = codes "BadPattern"
parse_kind_text kind.TooDeep = codes "TooDeep"
parse_kind_text kind.TooLong = codes "TooLong"

-- the place in the text, and why it has no tree
abbrev pub parse_fault_text : ParseFault → List ℕ
parse_fault_text fault = decimal fault.at ++ (codes " " ++ parse_kind_text fault.kind)
