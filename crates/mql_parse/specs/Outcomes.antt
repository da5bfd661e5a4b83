-- What reading a part of a text comes to: the part and what is left, or the fault.
use Rattle.std.specs.Prelude.{ℕ, ◌==◌, List, [], ◌∷◌, ◌++◌, Result, Ok, Err, if◌then◌else◌}
use Rattle.mon_value.specs.Answers.{GivesView, ◌>>=◌}
use Rattle.mon_value.specs.declared.refusals.Refusal.{Refusal}
use Rattle.mql_ast.specs.Tokens.{is_alphabet, is_word_byte, Rest, head, behind, skip}
use Rattle.mql_parse.specs.declared.cursor.Cursor.{Cursor}
use Rattle.mql_parse.specs.declared.faults.ParseFault.{ParseFault}
use Rattle.mql_parse.specs.declared.faults.ParseKind.{ParseKind}
use Rattle.mql_parse.specs.declared.faults.ParseKind.TheVariants.{BadToken, Expected}
use Rattle.mql_parse.specs.declared.faults.What.{What}

abbrev pub Outcome : Type 0 → Type 0
Outcome A = Result (A × Rest) ParseFault

-- a part that is read in any case
abbrev pub outcome_of : {A : Type 0} → A × Rest → Outcome A
outcome_of read = Ok read

-- what is left at a cursor
abbrev pub rest_of : Cursor → Rest
rest_of from = record { at = from.at; bytes = from.bytes.now }

-- a call reads what is to be read, as it is seen
abbrev pub Reads : {X T : Type 0} → (X → T) → Result (X × Cursor) (Refusal ParseFault) → Outcome T → Type 0
Reads view result outcome = GivesView (λ x. (view x.0, rest_of x.1)) result outcome

abbrev pub itself : {X : Type 0} → X → X
itself x = x

-- a call leaves what is to be left
abbrev pub Leaves : Result Cursor (Refusal ParseFault) → Result Rest ParseFault → Type 0
Leaves result outcome = GivesView rest_of result outcome

abbrev pub fault : ParseKind → Rest → ParseFault
fault kind s = record { at = s.at; kind = kind }

abbrev pub kind_of_fault : What → List ℕ → ParseKind
kind_of_fault what [] = Expected what
kind_of_fault what (b ∷ bs) = if is_alphabet b then Expected what else BadToken

-- the fault of what stands here in place of what might have come
abbrev pub unexpected_fault : What → Rest → ParseFault
unexpected_fault what s = fault (kind_of_fault what s.bytes) s

-- what is left behind these bytes, which stand here
abbrev pub exact : What → List ℕ → Rest → Result Rest ParseFault
exact what [] s = Ok s
exact what (c ∷ cs) s = if head s == c then exact what cs (behind s) else Err (unexpected_fault what s)

-- what is left behind a sign, which stands here or behind blanks
abbrev pub sign : ℕ → What → Rest → Result Rest ParseFault
sign b what s = if head (skip s) == b then Ok (behind (skip s)) else Err (unexpected_fault what (skip s))

-- no letter, digit or `_` stands here
abbrev pub apart : What → Rest → Result Rest ParseFault
apart what s = if is_word_byte (head s) then Err (unexpected_fault what s) else Ok s

-- the value of a part that was read, changed
abbrev pub map_outcome : {A B : Type 0} → (A → B) → Outcome A → Outcome B
map_outcome f read = read >>= λ x. Ok (f x.0, x.1)

-- a part that was read, up to a sign behind it
abbrev pub up_to_sign : {A : Type 0} → ℕ → What → Outcome A → Outcome A
up_to_sign b what read = read >>= λ x. sign b what x.1 >>= λ r. Ok (x.0, r)

-- bytes that were read, behind others
abbrev pub with_front : List ℕ → Outcome (List ℕ) → Outcome (List ℕ)
with_front front read = map_outcome (λ bytes. front ++ bytes) read

abbrev pub added_bytes : List ℕ → Result Cursor (Refusal ParseFault) → Result (List ℕ × Rest) (Refusal ParseFault)
added_bytes after (Ok from) = Ok (after, rest_of from)
added_bytes after (Err refusal) = Err refusal

-- a call puts the bytes that are to be read behind those of a text, and leaves what is to be left
abbrev pub Adds : List ℕ → List ℕ → Result Cursor (Refusal ParseFault) → Outcome (List ℕ) → Type 0
Adds before after result outcome =
    GivesView (λ x. x) (added_bytes after result) (with_front before outcome)
