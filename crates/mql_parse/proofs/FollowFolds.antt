-- The names and aggregates of `group_by` behind a number.
use Rattle.std.proofs.Common.{◌≡◌, ℕ, true, List, [], ◌∷◌, ◌++◌, codes, Option, Some, None, refl, subst, Ok, Err}
use Rattle.mon_value.specs.Answers.{◌>>=◌}
use Rattle.mql_ast.specs.declared.names.Name.{Name}
use Rattle.mql_ast.specs.declared.operations.Aggregate.{Aggregate}
use Rattle.mql_ast.specs.declared.operations.FoldWord.{FoldWord}
use Rattle.mql_ast.specs.declared.operations.FoldWord.TheVariants as fold
use Rattle.mql_ast.specs.Tokens.{Rest, behind, skip}
use Rattle.mql_parse.specs.declared.faults.What.TheVariants as what
use Rattle.mql_parse.specs.Outcomes.{Outcome, unexpected_fault, exact, sign, up_to_sign}
use Rattle.mql_parse.specs.Repeats.{Done, Again, list_turn, repetition}
use Rattle.mql_parse.specs.TokenReading as reading
use Rattle.mql_parse.specs.Folds as folds
use Rattle.mql_parse.specs.Steadiness.{here, next}
use Rattle.mql_parse.proofs.ListSound.{names_turn_behind, aggregates_turn_behind}
use Rattle.mql_parse.proofs.Follows.{Swap, Any, Follows, follows_ok, ok_any, follows_unexpected, follows_to}
use Rattle.mql_parse.proofs.Follows.{follows_bind, follows_map, follows_any, follows_behind_pass, follows_skip, taken}
use Rattle.mql_parse.proofs.Follows.{behind_taken, part_taken, follows_taken, next_taken, follows_next, sign_follows}
use Rattle.mql_parse.proofs.Follows.{up_to_follows}
use Rattle.mql_parse.proofs.FollowTurns.{FollowsTurn, follows_done, follows_again, turn_follows_from, turn_next_taken}
use Rattle.mql_parse.proofs.FollowTurns.{follows_on_read, list_turn_follows, repetition_follows}
use Rattle.mql_parse.proofs.FollowTokens.{no_counts, AlikeNames, name_itself, exact_follows, name_next}

-- a name of which nothing is asked further on
pub name_any : (x : Swap) → Follows x next next Any reading.name reading.name
name_any x = follows_any x next next AlikeNames reading.name reading.name (name_next x)

pub names_follows : (x : Swap) → Follows x next next Any folds.names folds.names
unfolding folds.names
names_follows x =
    let turn = list_turn 93 what.CloseBracket reading.name in
    next_taken x 93 next Any (λ t. Ok ([], behind t)) (λ t. Ok ([], behind t)) (λ s. repetition turn [] s)
    (λ s. repetition turn [] s) refl
    (part_taken x 93 next Any (λ t. Ok ([], t)) (λ t. Ok ([], t)) refl (ok_any x next [] []))
    (repetition_follows x Any turn names_turn_behind (λ a. tt)
    (λ a b g. list_turn_follows x 93 what.CloseBracket reading.name refl (name_any x) a b) [] [] tt)

-- a fold's word is the same in both texts
abbrev Same : FoldWord → FoldWord → Type 0
Same word other = word ≡ other

read_as_follows : (x : Swap) (word : FoldWord) (rest : List ℕ) → no_counts rest ≡ true →
    Follows x here here Same (folds.fold_word_from word rest) (folds.fold_word_from word rest)
read_as_follows x word rest n =
    follows_behind_pass x here here here Same (exact what.Aggregate rest) (exact what.Aggregate rest)
    (λ r. Ok (word, r)) (λ r. Ok (word, r)) (exact_follows x what.Aggregate rest n)
    (follows_ok x here Same word word refl)

fold_behind_me_follows : (x : Swap) → Follows x here here Same folds.fold_behind_me folds.fold_behind_me
fold_behind_me_follows x =
    follows_taken x 97 here Same (λ s. folds.fold_word_from fold.Mean (codes "n") (behind s))
    (λ s. folds.fold_word_from fold.Mean (codes "n") (behind s)) _ _ refl
    (behind_taken x 97 here Same (folds.fold_word_from fold.Mean (codes "n"))
    (folds.fold_word_from fold.Mean (codes "n")) refl
    (read_as_follows x fold.Mean (codes "n") refl))
    (follows_taken x 114 here Same (λ s. folds.fold_word_from fold.Merge (codes "ge") (behind s))
    (λ s. folds.fold_word_from fold.Merge (codes "ge") (behind s)) (λ s. Err (unexpected_fault what.Aggregate s))
    (λ s. Err (unexpected_fault what.Aggregate s)) refl
    (behind_taken x 114 here Same (folds.fold_word_from fold.Merge (codes "ge"))
    (folds.fold_word_from fold.Merge (codes "ge")) refl
    (read_as_follows x fold.Merge (codes "ge") refl))
    (follows_unexpected x here Same what.Aggregate what.Aggregate))

fold_behind_m_follows : (x : Swap) → Follows x here here Same folds.fold_behind_m folds.fold_behind_m
unfolding folds.fold_behind_m
fold_behind_m_follows x =
    follows_taken x 105 here Same (λ s. folds.fold_word_from fold.Min (codes "n") (behind s))
    (λ s. folds.fold_word_from fold.Min (codes "n") (behind s)) _ _ refl
    (behind_taken x 105 here Same (folds.fold_word_from fold.Min (codes "n"))
    (folds.fold_word_from fold.Min (codes "n")) refl
    (read_as_follows x fold.Min (codes "n") refl))
    (follows_taken x 97 here Same (λ s. folds.fold_word_from fold.Max (codes "x") (behind s))
    (λ s. folds.fold_word_from fold.Max (codes "x") (behind s)) _ _ refl
    (behind_taken x 97 here Same (folds.fold_word_from fold.Max (codes "x"))
    (folds.fold_word_from fold.Max (codes "x")) refl
    (read_as_follows x fold.Max (codes "x") refl))
    (follows_taken x 101 here Same (λ s. folds.fold_behind_me (behind s)) (λ s. folds.fold_behind_me (behind s))
    (λ s. Err (unexpected_fault what.Aggregate s)) (λ s. Err (unexpected_fault what.Aggregate s)) refl
    (behind_taken x 101 here Same folds.fold_behind_me folds.fold_behind_me refl (fold_behind_me_follows x))
    (follows_unexpected x here Same what.Aggregate what.Aggregate)))

fold_here_follows : (x : Swap) → Follows x here here Same folds.fold_here folds.fold_here
unfolding folds.fold_here
fold_here_follows x =
    follows_taken x 99 here Same (folds.fold_word_from fold.Count (codes "count"))
    (folds.fold_word_from fold.Count (codes "count"))
    _ _ refl (taken x 99 here Same _ _ (read_as_follows x fold.Count (codes "count") refl))
    (follows_taken x 115 here Same (folds.fold_word_from fold.Sum (codes "sum"))
    (folds.fold_word_from fold.Sum (codes "sum"))
    _ _ refl (taken x 115 here Same _ _ (read_as_follows x fold.Sum (codes "sum") refl))
    (follows_taken x 97 here Same (folds.fold_word_from fold.Aggregate (codes "aggregate"))
    (folds.fold_word_from fold.Aggregate (codes "aggregate")) _ _ refl
    (taken x 97 here Same _ _ (read_as_follows x fold.Aggregate (codes "aggregate") refl))
    (follows_taken x 109 here Same (λ s. folds.fold_behind_m (behind s)) (λ s. folds.fold_behind_m (behind s))
    (λ s. Err (unexpected_fault what.Aggregate s)) (λ s. Err (unexpected_fault what.Aggregate s)) refl
    (behind_taken x 109 here Same folds.fold_behind_m folds.fold_behind_m refl (fold_behind_m_follows x))
    (follows_unexpected x here Same what.Aggregate what.Aggregate))))

some_column_follows : (x : Swap) → Follows x next next Any folds.some_column folds.some_column
some_column_follows x = follows_map x next next Some Some reading.name reading.name (name_any x)

folded_column_follows : (x : Swap) (word : FoldWord) →
    Follows x next next Any (folds.fold_column word) (folds.fold_column word)
folded_column_follows x fold.Count = ok_any x next None None
folded_column_follows x fold.Sum = some_column_follows x
folded_column_follows x fold.Min = some_column_follows x
folded_column_follows x fold.Max = some_column_follows x
folded_column_follows x fold.Mean = some_column_follows x
folded_column_follows x fold.Merge = some_column_follows x
folded_column_follows x fold.Aggregate = some_column_follows x

fold_call_follows : (x : Swap) (m n : ℕ) (one two : Option Name) (word : FoldWord) →
    Follows x next next Any (folds.fold_call m one word) (folds.fold_call n two word)
unfolding folds.fold_call
fold_call_follows x m n one two word =
    let column = λ (s : Rest). up_to_sign 41 what.CloseParenthesis (folds.fold_column word s) in
    follows_map x next next (folds.aggregate_from m one word) (folds.aggregate_from n two word) column column
    (up_to_follows x 41 what.CloseParenthesis (folds.fold_column word) (folds.fold_column word) refl
    (folded_column_follows x word))

labelled_fold_follows : (x : Swap) (a b : Name) →
    Follows x next next Any (folds.labelled_fold a) (folds.labelled_fold b)
labelled_fold_follows x a b =
    follows_next x next Any (read a) (read b)
    (λ m n. follows_bind x next next next Same Any (λ s. folds.fold_here (skip s)) (λ s. folds.fold_here (skip s))
    (λ word. call a m word.0 word.1) (λ word. call b n word.0 word.1) (λ word. refl)
    (follows_skip x next Same folds.fold_here folds.fold_here
    (follows_to x here Same folds.fold_here folds.fold_here (fold_here_follows x)))
    (λ word other e. subst (λ z. Follows x next next Any (call a m word) (call b n z)) e
    (follows_behind_pass x next next next Any (sign 40 what.OpenParenthesis) (sign 40 what.OpenParenthesis)
    (folds.fold_call m (Some a) word) (folds.fold_call n (Some b) word)
    (sign_follows x 40 what.OpenParenthesis what.OpenParenthesis refl)
    (fold_call_follows x m n (Some a) (Some b) word))))
  where
    call : Name → ℕ → FoldWord → Rest → Outcome Aggregate
    call label at word r = sign 40 what.OpenParenthesis r >>= λ k. folds.fold_call at (Some label) word k

    read : Name → ℕ → Rest → Outcome Aggregate
    read label at s =
        folds.fold_here (skip s) >>= λ word. (sign 40 what.OpenParenthesis word.1 >>= λ k.
        folds.fold_call at (Some label) word.0 k)

bare_fold_follows : (x : Swap) (m n : ℕ) (word : Option FoldWord) →
    Follows x here next Any (folds.bare_fold m word) (folds.bare_fold n word)
bare_fold_follows x m n None = follows_unexpected x next Any what.Colon what.Colon
bare_fold_follows x m n (Some word) =
    follows_taken x 40 next Any (λ t. folds.fold_call m None word (behind t))
    (λ t. folds.fold_call n None word (behind t)) (λ t. Err (unexpected_fault what.OpenParenthesis t))
    (λ t. Err (unexpected_fault what.OpenParenthesis t)) refl
    (part_taken x 40 next Any (folds.fold_call m None word) (folds.fold_call n None word) refl
    (fold_call_follows x m n None None word))
    (follows_unexpected x next Any what.OpenParenthesis what.OpenParenthesis)

aggregate_follows : (x : Swap) → Follows x next next Any folds.aggregate folds.aggregate
unfolding folds.aggregate
aggregate_follows x =
    follows_bind x next next next AlikeNames Any reading.name reading.name _ _ name_itself (name_next x)
    (λ a b g. next_taken x 58 next Any (λ t. folds.labelled_fold a (behind t)) (λ t. folds.labelled_fold b (behind t))
    (λ r. folds.bare_fold a.at (folds.fold_of a.text) (skip r))
    (λ r. folds.bare_fold b.at (folds.fold_of b.text) (skip r)) refl
    (part_taken x 58 next Any (folds.labelled_fold a) (folds.labelled_fold b) refl (labelled_fold_follows x a b))
    (follows_skip x next Any (folds.bare_fold a.at (folds.fold_of a.text))
    (folds.bare_fold b.at (folds.fold_of b.text))
    (subst (λ word. Follows x here next Any (folds.bare_fold a.at (folds.fold_of a.text)) (folds.bare_fold b.at word))
    g.0 (bare_fold_follows x a.at b.at (folds.fold_of a.text)))))

aggregates_on_follows : (x : Swap) (one two : List Aggregate) (a b : Aggregate) →
    FollowsTurn x next Any (λ r. folds.aggregates_on one (a, r)) (λ r. folds.aggregates_on two (b, r))
aggregates_on_follows x one two a b =
    let all = one ++ a ∷ [] in
    let both = two ++ b ∷ [] in
    turn_next_taken x 44 Any (λ r. Again all r) (λ r. Again both r) (λ r. Done all r) (λ r. Done both r) refl
    (turn_follows_from x Any (λ r. Again all r) (λ r. Again both r) (follows_again x Any all both tt))
    (follows_done x Any all both tt)

aggregate_turn_follows : (x : Swap) (one two : List Aggregate) →
    FollowsTurn x next Any (folds.aggregate_turn one) (folds.aggregate_turn two)
unfolding folds.aggregate_turn
aggregate_turn_follows x one two =
    follows_on_read x next Any Any (folds.aggregates_on one) (folds.aggregates_on two) folds.aggregate folds.aggregate
    (λ a. tt) (aggregate_follows x) (λ a b g. aggregates_on_follows x one two a b)

pub aggregates_follows : (x : Swap) → Follows x next next Any folds.aggregates folds.aggregates
unfolding folds.aggregates
aggregates_follows x =
    repetition_follows x Any folds.aggregate_turn aggregates_turn_behind (λ a. tt)
    (λ a b g. aggregate_turn_follows x a b) [] [] tt
