-- Texts in quotes and patterns, byte by byte.
use Rattle.std.specs.Prelude.{ℕ, ◌+◌, ◌-◌, Bool, ◌==◌, ◌||◌, ◌&&◌, nat_le, List, [], ◌∷◌, ◌++◌, Option, Some, None}
use Rattle.std.specs.Prelude.{option_and_then, if◌then◌else◌}
use Rattle.mon_value.specs.Values.{text_in}
use Rattle.mql_ast.specs.Tokens.{Rest, sign_at}

-- what the bytes so far leave open: a character may begin, a backslash was read, or so many further bytes of a
-- character come, the next one between these
pub data Open : Type 0 where
  Whole : Open
  Escape : Open
  More : ℕ → ℕ → ℕ → Open

-- what the first byte of a character of four bytes leaves open
abbrev pub begins_long_character : ℕ → Option Open
begins_long_character b =
    if b == 240 then Some (More 3 144 191) else
    (if nat_le 241 b && nat_le b 243 then Some (More 3 128 191) else
    (if b == 244 then Some (More 3 128 143) else None))

-- what the first byte of a character leaves open: the characters from 32 on, in UTF-8
abbrev pub begins_character : ℕ → Option Open
begins_character b =
    if nat_le 32 b && nat_le b 127 then Some Whole else
    (if nat_le 194 b && nat_le b 223 then Some (More 1 128 191) else
    (if b == 224 then Some (More 2 160 191) else
    (if b == 237 then Some (More 2 128 159) else
    (if nat_le 225 b && nat_le b 239 then Some (More 2 128 191) else
    begins_long_character b))))

abbrev pub further : ℕ → Open
further left = if nat_le left 1 then Whole else More (left - 1) 128 191

-- what a byte does in a text: it ends the text, it is the backslash of an escape, it stands in the text, or it can't
-- stand there
pub data TextStep : Type 0 where
  TextEnd : TextStep
  TextPass : Open → TextStep
  TextKeep : Open → TextStep
  TextBad : TextStep

abbrev pub kept_open : Option Open → TextStep
kept_open None = TextBad
kept_open (Some unfinished) = TextKeep unfinished

abbrev pub text_step : Open → ℕ → TextStep
text_step Whole b = if b == 34 then TextEnd else (if b == 92 then TextPass Escape else kept_open (begins_character b))
text_step Escape b = if b == 34 || b == 92 then TextKeep Whole else TextBad
text_step (More left low high) b = if nat_le low b && nat_le b high then TextKeep (further left) else TextBad

abbrev pub after_text_step : TextStep → ℕ → Rest → List ℕ → (Open → List ℕ → Option (List ℕ × Rest)) →
    Option (List ℕ × Rest)
after_text_step TextEnd b rest content go = option_and_then (λ text. Some (text, rest)) (text_in content)
after_text_step (TextPass next) b rest content go = go next content
after_text_step (TextKeep next) b rest content go = go next (content ++ b ∷ [])
after_text_step TextBad b rest content go = None

-- a text up to its last quote, of which this content was read
abbrev pub text_from : Open → List ℕ → ℕ → List ℕ → Option (List ℕ × Rest)
text_from unfinished content at [] = None
text_from unfinished content at (b ∷ bs) =
    after_text_step (text_step unfinished b) b (record { at = at + 1; bytes = bs }) content
    (λ next more. text_from next more (at + 1) bs)

-- a text in quotes
abbrev pub text_at : Rest → Option (List ℕ × Rest)
text_at s = option_and_then (λ quote. text_from Whole [] quote.at quote.bytes) (sign_at 34 s)

-- what the signs so far leave open: a sign may begin, a dot needs its star, or a backslash what it stands before
pub data Sign : Type 0 where
  Plain : Sign
  Dot : Sign
  Backslash : Sign

-- what stands in a pattern only behind a backslash, or in `.*`: . * + ? ( ) [ ] { } | ^ $
abbrev pub is_mark : ℕ → Bool
is_mark b =
    b == 46 || b == 42 || b == 43 || b == 63 || b == 40 || b == 41 || b == 91 || b == 93
    || b == 123 || b == 125 || b == 124 || b == 94 || b == 36

-- what a byte does in a pattern: it ends the pattern, it ends a piece, it is part of a sign, it stands in the piece, it
-- could stand in a text and not here, or it could not stand in a text
pub data PatternStep : Type 0 where
  PatternEnd : PatternStep
  PatternCut : PatternStep
  PatternPass : Open → Sign → PatternStep
  PatternKeep : Open → Sign → PatternStep
  PatternUnfit : PatternStep
  PatternBad : PatternStep

abbrev pub kept_sign : Option Open → PatternStep
kept_sign None = PatternBad
kept_sign (Some unfinished) = PatternKeep unfinished Plain

abbrev pub unfit : Option Open → PatternStep
unfit None = PatternBad
unfit (Some unfinished) = PatternUnfit

abbrev pub sign_step : ℕ → PatternStep
sign_step b =
    if b == 34 then PatternEnd else
    (if b == 92 then PatternPass Escape Plain else
    (if b == 46 then PatternPass Whole Dot else
    (if is_mark b then PatternUnfit else kept_sign (begins_character b))))

-- behind a backslash of the text, `"` is a quote and a backslash is one of the pattern
abbrev pub escape_step : Sign → ℕ → PatternStep
escape_step Plain b =
    if b == 34 then PatternKeep Whole Plain else (if b == 92 then PatternPass Whole Backslash else PatternBad)
escape_step Dot b = PatternBad
escape_step Backslash b = if b == 92 then PatternKeep Whole Plain else (if b == 34 then PatternUnfit else PatternBad)

abbrev pub character_step : Sign → ℕ → PatternStep
character_step Plain b = sign_step b
character_step Dot b = if b == 42 then PatternCut else unfit (begins_character b)
character_step Backslash b =
    if b == 92 then PatternPass Escape Backslash
    else (if is_mark b then PatternKeep Whole Plain else unfit (begins_character b))

abbrev pub pattern_step : Open → Sign → ℕ → PatternStep
pattern_step Whole sign b = character_step sign b
pattern_step Escape sign b = escape_step sign b
pattern_step (More left low high) sign b =
    if nat_le low b && nat_le b high then PatternKeep (further left) Plain else PatternBad

abbrev pub with_piece : Option (List ℕ) → List (List ℕ) → (List (List ℕ) → Option (List (List ℕ) × Rest)) →
    Option (List (List ℕ) × Rest)
with_piece piece pieces go = option_and_then (λ text. go (pieces ++ text ∷ [])) piece

abbrev pub after_pattern_step : PatternStep → ℕ → Rest → List (List ℕ) → List ℕ →
    (Open → Sign → List (List ℕ) → List ℕ → Option (List (List ℕ) × Rest)) → Option (List (List ℕ) × Rest)
after_pattern_step PatternEnd b rest pieces content go = with_piece (text_in content) pieces (λ all. Some (all, rest))
after_pattern_step PatternCut b rest pieces content go =
    with_piece (text_in content) pieces (λ all. go Whole Plain all [])
after_pattern_step (PatternPass next mark) b rest pieces content go = go next mark pieces content
after_pattern_step (PatternKeep next mark) b rest pieces content go = go next mark pieces (content ++ b ∷ [])
after_pattern_step PatternUnfit b rest pieces content go = None
after_pattern_step PatternBad b rest pieces content go = None

-- a pattern up to its last quote, of which these pieces and this content were read
abbrev pub pattern_from : Open → Sign → List (List ℕ) → List ℕ → ℕ → List ℕ → Option (List (List ℕ) × Rest)
pattern_from unfinished mark pieces content at [] = None
pattern_from unfinished mark pieces content at (b ∷ bs) =
    after_pattern_step (pattern_step unfinished mark b) b (record { at = at + 1; bytes = bs }) pieces content
    (λ next sign all more. pattern_from next sign all more (at + 1) bs)

-- a pattern in quotes: its pieces, cut at each `.*`
abbrev pub pattern_at : Rest → Option (List (List ℕ) × Rest)
pattern_at s = option_and_then (λ quote. pattern_from Whole Plain [] [] quote.at quote.bytes) (sign_at 34 s)
