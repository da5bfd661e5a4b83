-- How the names and aggregates of `group_by` are read.
use Rattle.std.specs.Prelude.{ℕ, ◌==◌, List, [], ◌∷◌, ◌++◌, codes, Option, Some, None, Ok, Err, if◌then◌else◌, nat_eq}
use Rattle.std.specs.Cmp.Lexicographic.{pointwise}
use Rattle.mon_value.specs.Answers.{◌>>=◌}
use Rattle.mql_ast.specs.declared.names.Name.{Name}
use Rattle.mql_ast.specs.declared.operations.Aggregate.{Aggregate}
use Rattle.mql_ast.specs.declared.operations.FoldWord.{FoldWord}
use Rattle.mql_ast.specs.declared.operations.FoldWord.TheVariants as fold
use Rattle.mql_ast.specs.Tokens.{Rest, head, behind, skip}
use Rattle.mql_parse.specs.declared.faults.What.TheVariants as what
use Rattle.mql_parse.specs.Outcomes.{Outcome, unexpected_fault, exact, sign, map_outcome, up_to_sign}
use Rattle.mql_parse.specs.Repeats.{Turn, Done, Again, on_read, repetition, list_turn}
use Rattle.mql_parse.specs.TokenReading.{name}

-- names between brackets, from behind the first
unfoldable pub names : Rest → Outcome (List Name)
names s =
    if head (skip s) == 93 then Ok ([], behind (skip s))
    else repetition (list_turn 93 what.CloseBracket name) [] s

-- the fold of this name
abbrev pub fold_of : List ℕ → Option FoldWord
fold_of word =
    if pointwise nat_eq word (codes "count") then Some fold.Count else
    (if pointwise nat_eq word (codes "sum") then Some fold.Sum else
    (if pointwise nat_eq word (codes "min") then Some fold.Min else
    (if pointwise nat_eq word (codes "max") then Some fold.Max else
    (if pointwise nat_eq word (codes "mean") then Some fold.Mean else
    (if pointwise nat_eq word (codes "merge") then Some fold.Merge else
    (if pointwise nat_eq word (codes "aggregate") then Some fold.Aggregate else None))))))

abbrev pub fold_word_from : FoldWord → List ℕ → Rest → Outcome FoldWord
fold_word_from word rest s = exact what.Aggregate rest s >>= λ r. Ok (word, r)

-- the word of a fold from behind `me`, from behind `m`, and from its first byte on
abbrev pub fold_behind_me : Rest → Outcome FoldWord
fold_behind_me s =
    if head s == 97 then fold_word_from fold.Mean (codes "n") (behind s) else
    (if head s == 114 then fold_word_from fold.Merge (codes "ge") (behind s)
    else Err (unexpected_fault what.Aggregate s))

unfoldable pub fold_behind_m : Rest → Outcome FoldWord
fold_behind_m s =
    if head s == 105 then fold_word_from fold.Min (codes "n") (behind s) else
    (if head s == 97 then fold_word_from fold.Max (codes "x") (behind s) else
    (if head s == 101 then fold_behind_me (behind s) else Err (unexpected_fault what.Aggregate s)))

unfoldable pub fold_here : Rest → Outcome FoldWord
fold_here s =
    if head s == 99 then fold_word_from fold.Count (codes "count") s else
    (if head s == 115 then fold_word_from fold.Sum (codes "sum") s else
    (if head s == 97 then fold_word_from fold.Aggregate (codes "aggregate") s else
    (if head s == 109 then fold_behind_m (behind s) else Err (unexpected_fault what.Aggregate s))))

abbrev pub some_column : Rest → Outcome (Option Name)
some_column s = map_outcome Some (name s)

-- the column of a fold, from behind its parenthesis. A count has none
abbrev pub fold_column : FoldWord → Rest → Outcome (Option Name)
fold_column fold.Count s = Ok (None, s)
fold_column fold.Sum s = some_column s
fold_column fold.Min s = some_column s
fold_column fold.Max s = some_column s
fold_column fold.Mean s = some_column s
fold_column fold.Merge s = some_column s
fold_column fold.Aggregate s = some_column s

abbrev pub aggregate_from : ℕ → Option Name → FoldWord → Option Name → Aggregate
aggregate_from at label word column = record { at = at; name = label; fold = word; column = column }

-- a fold from behind its parenthesis
unfoldable pub fold_call : ℕ → Option Name → FoldWord → Rest → Outcome Aggregate
fold_call at label word s =
    map_outcome (aggregate_from at label word) (up_to_sign 41 what.CloseParenthesis (fold_column word s))

-- a fold with a name, from behind the colon
abbrev pub labelled_fold : Name → Rest → Outcome Aggregate
labelled_fold label s = do
  word ← fold_here (skip s)
  open_parenthesis ← sign 40 what.OpenParenthesis word.1
  fold_call (skip s).at (Some label) word.0 open_parenthesis

-- a fold without a name, behind its word
abbrev pub bare_fold : ℕ → Option FoldWord → Rest → Outcome Aggregate
bare_fold at None t = Err (unexpected_fault what.Colon t)
bare_fold at (Some word) t =
    if head t == 40 then fold_call at None word (behind t) else Err (unexpected_fault what.OpenParenthesis t)

unfoldable pub aggregate : Rest → Outcome Aggregate
aggregate s = name s >>= λ first.
    (if head (skip first.1) == 58 then labelled_fold first.0 (behind (skip first.1))
    else bare_fold first.0.at (fold_of first.0.text) (skip first.1))

abbrev pub aggregates_on : List Aggregate → Aggregate × Rest → Turn (List Aggregate)
aggregates_on so_far read =
    let t = skip read.1 in
    if head t == 44 then Again (so_far ++ read.0 ∷ []) (behind t) else Done (so_far ++ read.0 ∷ []) read.1

unfoldable pub aggregate_turn : List Aggregate → Rest → Turn (List Aggregate)
aggregate_turn so_far s = on_read (aggregates_on so_far) (aggregate s)

-- aggregates with a comma between each two
unfoldable pub aggregates : Rest → Outcome (List Aggregate)
aggregates s = repetition aggregate_turn [] s
