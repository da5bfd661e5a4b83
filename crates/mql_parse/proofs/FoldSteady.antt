-- The names and aggregates of `group_by` are read without looking behind them.
use Rattle.std.proofs.Common.{ℕ, ◌==◌, List, [], ◌∷◌, ◌++◌, codes, Option, Some, None, Ok, Err}
use Rattle.mon_value.specs.Answers.{◌>>=◌}
use Rattle.mql_ast.specs.declared.names.Name.{Name}
use Rattle.mql_ast.specs.declared.operations.Aggregate.{Aggregate}
use Rattle.mql_ast.specs.declared.operations.FoldWord.{FoldWord}
use Rattle.mql_ast.specs.declared.operations.FoldWord.TheVariants as fold
use Rattle.mql_ast.specs.Tokens.{Rest, head, behind, skip}
use Rattle.mql_parse.specs.declared.faults.What.TheVariants as what
use Rattle.mql_parse.specs.Outcomes.{unexpected_fault, exact, sign, up_to_sign}
use Rattle.mql_parse.specs.Repeats.{Done, Again, list_turn}
use Rattle.mql_parse.specs.TokenReading as reading
use Rattle.mql_parse.specs.Folds as folds
use Rattle.mql_parse.specs.Steadiness.{here, next, Steady, SteadyTurn}
use Rattle.mql_parse.proofs.ListSound.{names_turn_behind, aggregates_turn_behind}
use Rattle.mql_parse.proofs.Steady.{steady_from, steady_to, steady_ok, steady_unexpected, steady_bind, steady_map}
use Rattle.mql_parse.proofs.Steady.{steady_behind_pass, sign_next, steady_up_to, head_test, next_test, steady_if}
use Rattle.mql_parse.proofs.Steady.{steady_skip, steady_behind, steady_behind_skip, steady_part_behind, steady_next}
use Rattle.mql_parse.proofs.TurnSteady.{turn_done, turn_again, turn_from, turn_if, turn_behind_skip, turn_on_read}
use Rattle.mql_parse.proofs.TurnSteady.{list_turn_steady, steady_repetition}
use Rattle.mql_parse.proofs.TokenSteady.{exact_steady, name_next}

pub names_steady : Steady next here folds.names
unfolding folds.names
names_steady = steady_if next here (λ s. head (skip s) == 93) (λ s. Ok ([], behind (skip s))) _
    (next_test (λ b. b == 93)) (steady_behind_skip here (λ s. Ok ([], s)) (steady_ok here []))
    (steady_repetition here (list_turn 93 what.CloseBracket reading.name) names_turn_behind
    (λ so_far. list_turn_steady 93 what.CloseBracket reading.name so_far name_next) [])

read_as_steady : (word : FoldWord) (rest : List ℕ) → Steady here here (folds.fold_word_from word rest)
read_as_steady word rest = steady_behind_pass here here here (exact what.Aggregate rest) (λ r. Ok (word, r))
    (exact_steady what.Aggregate rest) (steady_ok here word)

fold_behind_me_steady : Steady here here folds.fold_behind_me
fold_behind_me_steady =
    steady_if here here (λ s. head s == 97) (λ s. folds.fold_word_from fold.Mean (codes "n") (behind s)) _
    (head_test (λ b. b == 97)) (steady_behind here (folds.fold_word_from fold.Mean (codes "n"))
    (read_as_steady fold.Mean (codes "n")))
    (steady_if here here (λ s. head s == 114) (λ s. folds.fold_word_from fold.Merge (codes "ge") (behind s)) _
    (head_test (λ b. b == 114)) (steady_behind here (folds.fold_word_from fold.Merge (codes "ge"))
    (read_as_steady fold.Merge (codes "ge")))
    (steady_unexpected here what.Aggregate))

fold_behind_m_steady : Steady here here folds.fold_behind_m
unfolding folds.fold_behind_m
fold_behind_m_steady =
    steady_if here here (λ s. head s == 105) (λ s. folds.fold_word_from fold.Min (codes "n") (behind s)) _
    (head_test (λ b. b == 105)) (steady_behind here (folds.fold_word_from fold.Min (codes "n"))
    (read_as_steady fold.Min (codes "n")))
    (steady_if here here (λ s. head s == 97) (λ s. folds.fold_word_from fold.Max (codes "x") (behind s)) _
    (head_test (λ b. b == 97)) (steady_behind here (folds.fold_word_from fold.Max (codes "x"))
    (read_as_steady fold.Max (codes "x")))
    (steady_if here here (λ s. head s == 101) (λ s. folds.fold_behind_me (behind s)) _ (head_test (λ b. b == 101))
    (steady_behind here folds.fold_behind_me fold_behind_me_steady)
    (steady_unexpected here what.Aggregate)))

fold_here_steady : Steady here here folds.fold_here
unfolding folds.fold_here
fold_here_steady =
    steady_if here here (λ s. head s == 99) (folds.fold_word_from fold.Count (codes "count")) _
    (head_test (λ b. b == 99))
    (read_as_steady fold.Count (codes "count"))
    (steady_if here here (λ s. head s == 115) (folds.fold_word_from fold.Sum (codes "sum")) _
    (head_test (λ b. b == 115))
    (read_as_steady fold.Sum (codes "sum"))
    (steady_if here here (λ s. head s == 97) (folds.fold_word_from fold.Aggregate (codes "aggregate")) _
    (head_test (λ b. b == 97)) (read_as_steady fold.Aggregate (codes "aggregate"))
    (steady_if here here (λ s. head s == 109) (λ s. folds.fold_behind_m (behind s)) _ (head_test (λ b. b == 109))
    (steady_behind here folds.fold_behind_m fold_behind_m_steady)
    (steady_unexpected here what.Aggregate))))

some_column_steady : Steady next next folds.some_column
some_column_steady = steady_map next next Some reading.name name_next

folded_column_steady : (word : FoldWord) → Steady next next (folds.fold_column word)
folded_column_steady fold.Count = steady_ok next None
folded_column_steady fold.Sum = some_column_steady
folded_column_steady fold.Min = some_column_steady
folded_column_steady fold.Max = some_column_steady
folded_column_steady fold.Mean = some_column_steady
folded_column_steady fold.Merge = some_column_steady
folded_column_steady fold.Aggregate = some_column_steady

fold_call_steady : (at : ℕ) (label : Option Name) (word : FoldWord) → Steady next next (folds.fold_call at label word)
unfolding folds.fold_call
fold_call_steady at label word =
    let column = λ (s : Rest). up_to_sign 41 what.CloseParenthesis (folds.fold_column word s) in
    steady_map next next (folds.aggregate_from at label word) column
    (steady_to next column (steady_up_to next 41 what.CloseParenthesis (folds.fold_column word)
    (folded_column_steady word)))

labelled_fold_steady : (label : Name) → Steady next next (folds.labelled_fold label)
labelled_fold_steady label =
    let call = λ (at : ℕ) (word : FoldWord) (r : Rest). sign 40 what.OpenParenthesis r >>= λ k. folds.fold_call at
    (Some label) word k in
    let read = λ (at : ℕ) (s : Rest). folds.fold_here (skip s) >>= λ word. call at word.0 word.1 in
    steady_next next read
    (λ at. steady_bind next next next (λ s. folds.fold_here (skip s)) (λ word. call at word.0 word.1)
    (steady_skip next folds.fold_here (steady_to here folds.fold_here fold_here_steady))
    (λ word. steady_behind_pass next next next (sign 40 what.OpenParenthesis) (folds.fold_call at (Some label) word)
    (sign_next 40 what.OpenParenthesis) (fold_call_steady at (Some label) word)))

bare_fold_steady : (at : ℕ) (word : Option FoldWord) → Steady here next (folds.bare_fold at word)
bare_fold_steady at None = steady_unexpected next what.Colon
bare_fold_steady at (Some word) =
    steady_if here next (λ t. head t == 40) (λ t. folds.fold_call at None word (behind t))
    (λ t. Err (unexpected_fault what.OpenParenthesis t)) (head_test (λ b. b == 40))
    (steady_behind next (folds.fold_call at None word)
    (steady_from next (folds.fold_call at None word) (fold_call_steady at None word)))
    (steady_unexpected next what.OpenParenthesis)

aggregate_steady : Steady next next folds.aggregate
unfolding folds.aggregate
aggregate_steady = steady_bind next next next reading.name _ name_next
    (λ first. steady_if next next (λ r. head (skip r) == 58) (λ r. folds.labelled_fold first (behind (skip r)))
    (λ r. folds.bare_fold first.at (folds.fold_of first.text) (skip r)) (next_test (λ b. b == 58))
    (steady_part_behind next (folds.labelled_fold first) (labelled_fold_steady first))
    (steady_skip next (folds.bare_fold first.at (folds.fold_of first.text))
    (bare_fold_steady first.at (folds.fold_of first.text))))

aggregates_on_steady : (so_far : List Aggregate) (a : Aggregate) →
    SteadyTurn next next (λ r. folds.aggregates_on so_far (a, r))
aggregates_on_steady so_far a =
    let all = so_far ++ a ∷ [] in
    turn_if next next (λ r. head (skip r) == 44) (λ r. Again all (behind (skip r))) (λ r. Done all r)
    (next_test (λ b. b == 44))
    (turn_behind_skip next (λ t. Again all t) (turn_from next (λ t. Again all t) (turn_again next all)))
    (turn_done next all)

pub aggregate_turn_steady : (so_far : List Aggregate) → SteadyTurn next next (folds.aggregate_turn so_far)
unfolding folds.aggregate_turn
aggregate_turn_steady so_far = turn_on_read next next next (folds.aggregates_on so_far) folds.aggregate aggregate_steady
    (aggregates_on_steady so_far)

pub aggregates_steady : Steady next next folds.aggregates
unfolding folds.aggregates
aggregates_steady = steady_repetition next folds.aggregate_turn aggregates_turn_behind aggregate_turn_steady []
