-- The states of reading a text, as the definitions name them.
use Rattle.std.specs.Prelude.{ℕ, List, Option, Some, None, Result, Ok, Err}
use Rattle.mon_value.specs.Answers.{Gives}
use Rattle.mon_value.specs.declared.refusals.Refusal.{Refusal}
use Rattle.mql_ast.specs.Tokens.{Rest}
use Rattle.mql_ast.specs.Quotes as quotes
use Rattle.mql_parse.specs.declared.quotes.Open.{Open}
use Rattle.mql_parse.specs.declared.quotes.Open.TheVariants.{Character, Escape, Bytes}
use Rattle.mql_parse.specs.declared.quotes.TextStep.{TextStep}
use Rattle.mql_parse.specs.declared.quotes.TextStep.TheVariants as text
use Rattle.mql_parse.specs.declared.patterns.Sign.{Sign}
use Rattle.mql_parse.specs.declared.patterns.Sign.TheVariants as sign
use Rattle.mql_parse.specs.declared.patterns.PatternStep.{PatternStep}
use Rattle.mql_parse.specs.declared.patterns.PatternStep.TheVariants as pattern
use Rattle.mql_parse.specs.declared.faults.ParseFault.{ParseFault}
use Rattle.mql_parse.specs.declared.faults.ParseKind.TheVariants.{BadToken}
use Rattle.mql_parse.specs.Outcomes.{fault}

abbrev pub open_seen : Open → quotes.Open
open_seen Character = quotes.Whole
open_seen Escape = quotes.Escape
open_seen (Bytes left low high) = quotes.More left low high

abbrev pub open_maybe : Option Open → Option quotes.Open
open_maybe None = None
open_maybe (Some unfinished) = Some (open_seen unfinished)

abbrev pub text_step_seen : TextStep → quotes.TextStep
text_step_seen text.End = quotes.TextEnd
text_step_seen (text.Pass next) = quotes.TextPass (open_seen next)
text_step_seen (text.Keep next) = quotes.TextKeep (open_seen next)
text_step_seen text.Bad = quotes.TextBad

abbrev pub sign_seen : Sign → quotes.Sign
sign_seen sign.Whole = quotes.Plain
sign_seen sign.Dot = quotes.Dot
sign_seen sign.Backslash = quotes.Backslash

abbrev pub pattern_step_seen : PatternStep → quotes.PatternStep
pattern_step_seen pattern.End = quotes.PatternEnd
pattern_step_seen pattern.Cut = quotes.PatternCut
pattern_step_seen (pattern.Pass next mark) = quotes.PatternPass (open_seen next) (sign_seen mark)
pattern_step_seen (pattern.Keep next mark) = quotes.PatternKeep (open_seen next) (sign_seen mark)
pattern_step_seen pattern.Unfit = quotes.PatternUnfit
pattern_step_seen pattern.Bad = quotes.PatternBad

-- a piece that ends here, or that its content is no text
abbrev pub piece_given : Option (List ℕ) → Rest → Result (List ℕ) ParseFault
piece_given None s = Err (fault BadToken s)
piece_given (Some piece) s = Ok piece

abbrev pub PieceGiven : Result (List ℕ) (Refusal ParseFault) → Option (List ℕ) → Rest → Type 0
PieceGiven result content s = Gives result (piece_given content s)
