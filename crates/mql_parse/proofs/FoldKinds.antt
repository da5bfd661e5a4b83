-- The kinds of faults in the names and aggregates of `group_by`.
use Rattle.std.proofs.Common.{◌≡◌, ℕ, true, ◌==◌, List, [], ◌∷◌, ◌++◌, codes, refl, Option, Some, None, Ok, Err}
use Rattle.mql_ast.specs.declared.names.Name.{Name}
use Rattle.mql_ast.specs.declared.operations.Aggregate.{Aggregate}
use Rattle.mql_ast.specs.declared.operations.FoldWord.{FoldWord}
use Rattle.mql_ast.specs.declared.operations.FoldWord.TheVariants as fold
use Rattle.mql_ast.specs.Tokens.{Rest, head, behind, skip}
use Rattle.mql_parse.specs.declared.faults.What.TheVariants as what
use Rattle.mql_parse.specs.Outcomes.{unexpected_fault, exact, sign, up_to_sign}
use Rattle.mql_parse.specs.Repeats.{Done, Again, repetition, list_turn}
use Rattle.mql_parse.specs.TokenReading as reading
use Rattle.mql_parse.specs.Folds as folds
use Rattle.mql_parse.proofs.ListSound.{names_turn_behind, aggregates_turn_behind}
use Rattle.mql_parse.proofs.KindFits.{Fits, TurnFits, outside_itself, bind_fits, map_fits, pass_then, if_fits, if_turn}
use Rattle.mql_parse.proofs.KindFits.{part_outside, behind_fits, skip_fits, part_fits, unexpected_fits, sign_fits}
use Rattle.mql_parse.proofs.KindFits.{up_to_fits, on_read_fits, list_turn_fits, repetition_fits}
use Rattle.mql_parse.proofs.TokenKinds.{plain_bytes, exact_fits, name_fits}

pub names_fits : (s : Rest) → Fits None s (folds.names s)
unfolding folds.names
names_fits s = if_fits None s (head (skip s) == 93) (Ok ([], behind (skip s)))
    (repetition (list_turn 93 what.CloseBracket reading.name) [] s) (λ h. part_outside (λ b. b == 93) refl refl s h)
    (λ _. repetition_fits (list_turn 93 what.CloseBracket reading.name) names_turn_behind
    (list_turn_fits 93 refl refl what.CloseBracket reading.name name_fits) [] s)

read_as_fits : (word : FoldWord) (rest : List ℕ) → plain_bytes rest ≡ true → (s : Rest) →
    Fits None s (folds.fold_word_from word rest s)
read_as_fits word rest h s = pass_then s (exact what.Aggregate rest s) (λ r. Ok (word, r))
    (exact_fits what.Aggregate rest h s) outside_itself

fold_behind_me_fits : (s : Rest) → Fits None s (folds.fold_behind_me s)
fold_behind_me_fits s =
    if_fits None s (head s == 97) (folds.fold_word_from fold.Mean (codes "n") (behind s)) _
    (λ h. behind_fits (λ b. b == 97) refl refl s h (folds.fold_word_from fold.Mean (codes "n") (behind s))
    (read_as_fits fold.Mean (codes "n") refl (behind s)))
    (λ _. if_fits None s (head s == 114) (folds.fold_word_from fold.Merge (codes "ge") (behind s))
    (Err (unexpected_fault what.Aggregate s))
    (λ h. behind_fits (λ b. b == 114) refl refl s h (folds.fold_word_from fold.Merge (codes "ge") (behind s))
    (read_as_fits fold.Merge (codes "ge") refl (behind s))) (λ _. unexpected_fits what.Aggregate s))

fold_behind_m_fits : (s : Rest) → Fits None s (folds.fold_behind_m s)
unfolding folds.fold_behind_m
fold_behind_m_fits s =
    if_fits None s (head s == 105) (folds.fold_word_from fold.Min (codes "n") (behind s)) _
    (λ h. behind_fits (λ b. b == 105) refl refl s h (folds.fold_word_from fold.Min (codes "n") (behind s))
    (read_as_fits fold.Min (codes "n") refl (behind s)))
    (λ _. if_fits None s (head s == 97) (folds.fold_word_from fold.Max (codes "x") (behind s)) _
    (λ h. behind_fits (λ b. b == 97) refl refl s h (folds.fold_word_from fold.Max (codes "x") (behind s))
    (read_as_fits fold.Max (codes "x") refl (behind s)))
    (λ _. if_fits None s (head s == 101) (folds.fold_behind_me (behind s)) (Err (unexpected_fault what.Aggregate s))
    (λ h. behind_fits (λ b. b == 101) refl refl s h (folds.fold_behind_me (behind s))
    (fold_behind_me_fits (behind s))) (λ _. unexpected_fits what.Aggregate s)))

fold_here_fits : (s : Rest) → Fits None s (folds.fold_here s)
unfolding folds.fold_here
fold_here_fits s =
    if_fits None s (head s == 99) (folds.fold_word_from fold.Count (codes "count") s) _
    (λ _. read_as_fits fold.Count (codes "count") refl s)
    (λ _. if_fits None s (head s == 115) (folds.fold_word_from fold.Sum (codes "sum") s) _
    (λ _. read_as_fits fold.Sum (codes "sum") refl s)
    (λ _. if_fits None s (head s == 97) (folds.fold_word_from fold.Aggregate (codes "aggregate") s) _
    (λ _. read_as_fits fold.Aggregate (codes "aggregate") refl s)
    (λ _. if_fits None s (head s == 109) (folds.fold_behind_m (behind s)) (Err (unexpected_fault what.Aggregate s))
    (λ h. behind_fits (λ b. b == 109) refl refl s h (folds.fold_behind_m (behind s))
    (fold_behind_m_fits (behind s))) (λ _. unexpected_fits what.Aggregate s))))

some_column_fits : (s : Rest) → Fits None s (folds.some_column s)
some_column_fits s = map_fits None s Some (reading.name s) (name_fits s)

folded_column_fits : (word : FoldWord) (s : Rest) → Fits None s (folds.fold_column word s)
folded_column_fits fold.Count s = outside_itself s
folded_column_fits fold.Sum s = some_column_fits s
folded_column_fits fold.Min s = some_column_fits s
folded_column_fits fold.Max s = some_column_fits s
folded_column_fits fold.Mean s = some_column_fits s
folded_column_fits fold.Merge s = some_column_fits s
folded_column_fits fold.Aggregate s = some_column_fits s

fold_call_fits : (at : ℕ) (label : Option Name) (word : FoldWord) (s : Rest) →
    Fits None s (folds.fold_call at label word s)
unfolding folds.fold_call
fold_call_fits at label word s =
    map_fits None s (folds.aggregate_from at label word)
    (up_to_sign 41 what.CloseParenthesis (folds.fold_column word s))
    (up_to_fits 41 refl refl what.CloseParenthesis s (folds.fold_column word s) (folded_column_fits word s))

labelled_fold_fits : (label : Name) (s : Rest) → Fits None s (folds.labelled_fold label s)
labelled_fold_fits label s =
    bind_fits None s (folds.fold_here (skip s)) _ (skip_fits s (folds.fold_here (skip s)) (fold_here_fits (skip s)))
    (λ word r. pass_then r (sign 40 what.OpenParenthesis r) (folds.fold_call (skip s).at (Some label) word)
    (sign_fits 40 refl refl what.OpenParenthesis r) (fold_call_fits (skip s).at (Some label) word))

bare_fold_fits : (at : ℕ) (word : Option FoldWord) (t : Rest) → Fits None t (folds.bare_fold at word t)
bare_fold_fits at None t = unexpected_fits what.Colon t
bare_fold_fits at (Some word) t =
    if_fits None t (head t == 40) (folds.fold_call at None word (behind t))
    (Err (unexpected_fault what.OpenParenthesis t))
    (λ h. behind_fits (λ b. b == 40) refl refl t h (folds.fold_call at None word (behind t))
    (fold_call_fits at None word (behind t))) (λ _. unexpected_fits what.OpenParenthesis t)

aggregate_fits : (s : Rest) → Fits None s (folds.aggregate s)
unfolding folds.aggregate
aggregate_fits s = bind_fits None s (reading.name s) _ (name_fits s)
    (λ first r. let bare = folds.bare_fold first.at (folds.fold_of first.text) (skip r) in
    if_fits None r (head (skip r) == 58) (folds.labelled_fold first (behind (skip r))) bare
    (λ h. part_fits (λ b. b == 58) refl refl r h (folds.labelled_fold first (behind (skip r)))
    (labelled_fold_fits first (behind (skip r))))
    (λ _. skip_fits r bare (bare_fold_fits first.at (folds.fold_of first.text) (skip r))))

aggregate_turn_fits : (so_far : List Aggregate) (s : Rest) → TurnFits s (folds.aggregate_turn so_far s)
unfolding folds.aggregate_turn
aggregate_turn_fits so_far s = on_read_fits s (folds.aggregates_on so_far) (folds.aggregate s) (aggregate_fits s)
    (λ a r. if_turn r (head (skip r) == 44) (Again (so_far ++ a ∷ []) (behind (skip r))) (Done (so_far ++ a ∷ []) r)
    (λ h. part_outside (λ b. b == 44) refl refl r h) (λ _. outside_itself r))

pub aggregates_fits : (s : Rest) → Fits None s (folds.aggregates s)
unfolding folds.aggregates
aggregates_fits s = repetition_fits folds.aggregate_turn aggregates_turn_behind aggregate_turn_fits [] s
