-- Sums and items are read without looking behind them.
use Rattle.std.proofs.Common.{ℕ, zero, suc, true, false, ◌==◌, ◌||◌, [], Ok, Err}
use Rattle.mon_value.specs.Answers.{◌>>=◌}
use Rattle.mql_ast.specs.declared.names.Name.{Name}
use Rattle.mql_ast.specs.Trees.{Column, Number, Percentile}
use Rattle.mql_ast.specs.Tokens.{is_letter, is_digit, Rest, head, behind, skip, word_here}
use Rattle.mql_parse.specs.declared.faults.ParseKind.TheVariants.{TooDeep}
use Rattle.mql_parse.specs.declared.faults.What.TheVariants as what
use Rattle.mql_parse.specs.Outcomes.{Outcome, unexpected_fault, sign, map_outcome}
use Rattle.mql_parse.specs.Repeats.{Done, goes_on, repetition, list_turn}
use Rattle.mql_parse.specs.TokenReading as reading
use Rattle.mql_parse.specs.SumReading as sums
use Rattle.mql_parse.specs.SumReading.{SumSeen, as_sum_seen, is_percentile}
use Rattle.mql_parse.specs.Steadiness.{here, next, Steady, SteadyTurn}
use Rattle.mql_parse.proofs.SumSound.{term_turn_behind}
use Rattle.mql_parse.proofs.ListSound.{items_turn_behind}
use Rattle.mql_parse.proofs.Steady.{steady_from, steady_to, steady_ok, steady_fault, steady_unexpected, steady_bind}
use Rattle.mql_parse.proofs.Steady.{steady_map, steady_behind_pass, steady_sign, sign_next, next_test, constant_test}
use Rattle.mql_parse.proofs.Steady.{steady_if, steady_skip, steady_behind, steady_part_behind, steady_next}
use Rattle.mql_parse.proofs.TurnSteady.{turn_done, turn_if, turn_part_behind, list_turn_steady, steady_repetition}
use Rattle.mql_parse.proofs.TokenSteady.{word_steady, name_next, positive_next, signed_steady}

percentile_steady : (at : ℕ) → Steady next here (sums.percentile at)
unfolding sums.percentile
percentile_steady at =
    steady_bind next next here reading.name _ name_next
    (λ column. steady_behind_pass next next here (sign 44 what.Comma) _ (sign_next 44 what.Comma)
    (steady_bind next next here (reading.positive 100) _ (positive_next 100)
    (λ p. steady_behind_pass next here here (sign 41 what.CloseParenthesis) _ (steady_sign 41 what.CloseParenthesis)
    (steady_ok here (as_sum_seen (Percentile at column p) false)))))

percentile_next : (at : ℕ) → Steady next next (sums.percentile at)
percentile_next at = steady_to next (sums.percentile at) (percentile_steady at)

word_read_steady : (word : Name) → Steady next next (λ r. sums.word_read (word, r))
word_read_steady word =
    steady_if next next (λ r. is_percentile word.text) _ (λ r. Ok (as_sum_seen (Column word) false, r))
    (constant_test next (is_percentile word.text))
    (steady_if next next (λ r. head (skip r) == 40) (λ r. sums.percentile word.at (behind (skip r)))
    (λ r. Ok (as_sum_seen (Column word) true, r)) (next_test (λ b. b == 40))
    (steady_part_behind next (sums.percentile word.at) (percentile_next word.at))
    (steady_ok next (as_sum_seen (Column word) true)))
    (steady_ok next (as_sum_seen (Column word) false))

word_term_steady : Steady here next (λ t. sums.word_read (word_here t))
word_term_steady = steady_bind here next next (λ t. Ok (word_here t)) sums.word_read
    (steady_to here (λ t. Ok (word_here t)) word_steady) word_read_steady

number_term_steady : Steady next next sums.number_term
number_term_steady =
    steady_next next (λ n s. map_outcome (λ z. as_sum_seen (Number n z) false) (reading.signed_reading s))
    (λ n. steady_map next next (λ z. as_sum_seen (Number n z) false) reading.signed_reading
    (steady_to next reading.signed_reading signed_steady))

pub term_steady_with : (group : Rest → Rest → Outcome SumSeen) → Steady here next (λ t. group t (behind t)) →
    Steady next next (sums.term_with group)
unfolding sums.term_with
term_steady_with group k =
    steady_if next next (λ s. head (skip s) == 40) (λ s. group (skip s) (behind (skip s))) _ (next_test (λ b. b == 40))
    (steady_skip next (λ t. group t (behind t)) k)
    (steady_if next next (λ s. head (skip s) == 45 || is_digit (head (skip s))) sums.number_term _
    (next_test (λ b. b == 45 || is_digit b)) number_term_steady
    (steady_if next next (λ s. is_letter (head (skip s))) (λ s. sums.word_read (word_here (skip s)))
    (λ s. Err (unexpected_fault what.Name (skip s))) (next_test is_letter)
    (steady_skip next (λ t. sums.word_read (word_here t)) word_term_steady)
    (steady_skip next (λ t. Err (unexpected_fault what.Name t)) (steady_unexpected next what.Name))))

pub term_turn_steady : (term : Rest → Outcome SumSeen) → Steady next next term → (left : SumSeen) →
    SteadyTurn next next (sums.term_turn term left)
unfolding sums.term_turn
term_turn_steady term k left =
    turn_if next next (λ s. head (skip s) == 43) (λ s. goes_on (sums.sum_plus left) (term (behind (skip s)))) _
    (next_test (λ b. b == 43)) (turn_part_behind next (sums.sum_plus left) term k)
    (turn_if next next (λ s. head (skip s) == 45) (λ s. goes_on (sums.sum_minus left) (term (behind (skip s))))
    (λ s. Done left s) (next_test (λ b. b == 45)) (turn_part_behind next (sums.sum_minus left) term k)
    (turn_done next left))

sum_steady_by : (d : ℕ) → Steady next next (sums.term d) → Steady next next (sums.sum d)
unfolding sums.sum_with
sum_steady_by d k = steady_bind next next next (sums.term d)
    (λ first. repetition (sums.term_turn (sums.term d)) first.0 first.1) k
    (steady_repetition next (sums.term_turn (sums.term d)) (term_turn_behind d) (term_turn_steady (sums.term d) k))

pub sum_end_steady : (inner : SumSeen) → Steady next next (λ r. sums.sum_end (inner, r))
sum_end_steady inner =
    let w = sums.behind_sum inner.bare in
    steady_behind_pass next next next (sign 41 w) (λ r. Ok (as_sum_seen inner.sum false, r)) (sign_next 41 w)
    (steady_ok next (as_sum_seen inner.sum false))

-- a sum in parentheses, from the first
pub group_steady : (d : ℕ) → Steady here next (λ t. sums.sum_group d t (behind t))
unfolding sums.sum_group
group_steady zero = steady_fault next TooDeep
group_steady (suc d) =
    let inner = λ (s : Rest). sums.sum d s >>= sums.sum_end in
    steady_behind next inner (steady_from next inner
    (steady_bind next next next (sums.sum d) sums.sum_end
    (sum_steady_by d (term_steady_with (sums.sum_group d) (group_steady d))) sum_end_steady))

pub sum_steady : (d : ℕ) → Steady next next (sums.sum d)
sum_steady d = sum_steady_by d (term_steady_with (sums.sum_group d) (group_steady d))

-- items
item_behind_steady : (d : ℕ) (label : Name) → Steady next next (λ r. sums.item_behind (sums.sum d) (label, r))
item_behind_steady d label =
    steady_if next next (λ r. head (skip r) == 58)
    (λ r. map_outcome (sums.labelled_sum label) (sums.sum d (behind (skip r)))) (λ r. Ok (sums.single label, r))
    (next_test (λ b. b == 58))
    (steady_map next next (sums.labelled_sum label) (λ r. sums.sum d (behind (skip r)))
    (steady_part_behind next (sums.sum d) (sum_steady d)))
    (steady_ok next (sums.single label))

pub item_steady : (d : ℕ) → Steady next next (sums.item_with (sums.sum d))
unfolding sums.item_with
item_steady d = steady_bind next next next reading.name (sums.item_behind (sums.sum d)) name_next (item_behind_steady d)

pub items_steady : (d : ℕ) → Steady next here (sums.items d)
unfolding sums.items_with_sum
items_steady d = steady_repetition here (list_turn 93 what.CloseBracket (sums.item_with (sums.sum d)))
    (items_turn_behind d) (λ so_far. list_turn_steady 93 what.CloseBracket (sums.item_with (sums.sum d)) so_far
    (item_steady d)) []
