-- What may come where a text goes wrong: which bytes are a token of each word, and where one may stand.
use Rattle.std.specs.Prelude.{◌≡◌, ◌⊎◌, ℕ, true, false, List, [], ◌∷◌, ◌++◌, codes, take, Option, Some, None}
use Rattle.mql_ast.specs.declared.operations.FoldWord.TheVariants as fold
use Rattle.mql_ast.specs.declared.pipes.How.TheVariants as how
use Rattle.mql_ast.specs.Tokens.{is_blank, Rest, first_of, metric_at, number_at, duration_at}
use Rattle.mql_ast.specs.Quotes.{text_at, pattern_at}
use Rattle.mql_ast.specs.Grammar.{start, comparison_at, fold_named, how_word, Begins}
use Rattle.mql_parse.specs.declared.faults.ParseFault.{ParseFault}
use Rattle.mql_parse.specs.declared.faults.ParseKind.TheVariants.{Expected}
use Rattle.mql_parse.specs.declared.faults.What.{What}
use Rattle.mql_parse.specs.declared.faults.What.TheVariants as what
use Rattle.mql_parse.specs.WordOrder.{is_keyword}
use Rattle.mql_parse.specs.Faults.{open_quotes}

-- what is read so, with no blank in front, and nothing else
abbrev pub IsReadWhole : {A : Type 0} → (Rest → Option (A × Rest)) → List ℕ → Type 0
IsReadWhole {A = A} read t =
    (is_blank (first_of t) ≡ false) × ((n : ℕ × A) × (read (start t) ≡ Some (n.1, record { at = n.0; bytes = [] })))

abbrev pub IsOneOf : List (List ℕ) → List ℕ → Type 0
IsOneOf [] t = ⊥
IsOneOf (word ∷ words) t = (t ≡ word) ⊎ IsOneOf words t

abbrev pub aligner_words : List (List ℕ)
aligner_words = codes "delta" ∷ codes "next_older" ∷ []

abbrev pub fold_words : List (List ℕ)
fold_words =
    fold_named fold.Count ∷ fold_named fold.Sum ∷ fold_named fold.Min ∷ fold_named fold.Max ∷ fold_named fold.Mean
    ∷ fold_named fold.Merge ∷ fold_named fold.Aggregate ∷ []

abbrev pub operation_words : List (List ℕ)
operation_words =
    codes "filter" ∷ codes "align" ∷ codes "group_by" ∷ codes "value" ∷ codes "top" ∷ codes "every" ∷ codes "within"
    ∷ []

-- a token of this word, by which it is told from the others. Where a name may stand, `_` may, with which no keyword
-- begins; a unit is shown with its number, directly behind which it stands
abbrev pub IsBare : What → List ℕ → Type 0
IsBare what.Fetch t = t ≡ codes "fetch"
IsBare what.Name t = t ≡ codes "_"
IsBare what.Metric t = IsReadWhole metric_at t
IsBare what.Text t = IsReadWhole text_at t ⊎ IsReadWhole pattern_at t
IsBare what.Number t = (most : ℕ) × IsReadWhole (number_at most) t
IsBare what.Unit t = IsReadWhole duration_at t
IsBare what.Truth t = IsOneOf (codes "true" ∷ codes "false" ∷ []) t
IsBare what.Comparison t = IsReadWhole comparison_at t ⊎ (t ≡ codes "=~")
IsBare what.Aligner t = IsOneOf aligner_words t
IsBare what.Aggregate t = IsOneOf fold_words t
IsBare what.Operation t = IsOneOf operation_words t
IsBare what.How t = IsOneOf (how_word how.Join ∷ how_word how.Union ∷ []) t
IsBare what.OpenBrace t = t ≡ codes "{"
IsBare what.CloseBrace t = t ≡ codes "}"
IsBare what.OpenBracket t = t ≡ codes "["
IsBare what.CloseBracket t = t ≡ codes "]"
IsBare what.OpenParenthesis t = t ≡ codes "("
IsBare what.CloseParenthesis t = t ≡ codes ")"
IsBare what.Colons t = t ≡ codes "::"
IsBare what.Colon t = t ≡ codes ":"
IsBare what.Comma t = t ≡ codes ","
IsBare what.Semicolon t = t ≡ codes ";"
IsBare what.Bar t = t ≡ codes "|"
IsBare what.Or t = t ≡ codes "||"
IsBare what.And t = t ≡ codes "&&"
IsBare what.Not t = t ≡ codes "!"
IsBare what.Plus t = t ≡ codes "+"
IsBare what.Minus t = t ≡ codes "-"

-- a token that the front ends within: what was read of it is no whole token, and the rest of it may come. A text does
-- where its quotes are open
pub record IsGoneOn (front : List ℕ) (w : What) : Type 0 where
  pub before : List ℕ
  pub first : ℕ
  pub begun : List ℕ
  pub next : ℕ
  pub rest : List ℕ
  pub parts : front ≡ before ++ first ∷ begun
  pub unfinished : IsBare w (first ∷ begun) → ⊥
  pub token : IsBare w (first ∷ (begun ++ next ∷ rest))
  pub begins : Begins (front ++ next ∷ rest)
  pub quotes : w ≡ what.Text → open_quotes None front ≡ None → ⊥

-- this token on a new line behind the front, which no text in quotes goes on to, or in front of all else
abbrev pub with_token_behind : List ℕ → List ℕ → List ℕ
with_token_behind [] token = token
with_token_behind (b ∷ front) token = b ∷ (front ++ 10 ∷ token)

-- a token of this word may come behind the front. Where a name may, a keyword is no more than a name
pub record MayStandBehind (front : List ℕ) (w : What) : Type 0 where
  pub token : List ℕ
  pub is_token : IsBare w token
  pub begins : Begins (with_token_behind front token)
  pub no_name : is_keyword w ≡ true → Begins (with_token_behind front (codes "_")) → ⊥

-- what is expected is the token that the front ends within, or one that may come behind it
abbrev pub MayCome : List ℕ → What → Type 0
MayCome front w = IsGoneOn front w ⊎ MayStandBehind front w

abbrev pub ExpectedKind : List ℕ → ParseFault → Type 0
ExpectedKind text f = (w : What) → f.kind ≡ Expected w → MayCome (take f.at text) w
