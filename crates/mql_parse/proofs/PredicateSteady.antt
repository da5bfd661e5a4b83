-- Predicates are read without looking behind them.
use Rattle.std.proofs.Common.{ℕ, zero, suc, Bool, true, false, ◌==◌, ◌||◌, List, codes, if◌then◌else◌, Ok, Err}
use Rattle.mon_value.specs.Answers.{◌>>=◌}
use Rattle.mon_value.specs.declared.values.FieldValue.TheVariants as field
use Rattle.mql_ast.specs.declared.names.Name.{Name}
use Rattle.mql_ast.specs.declared.predicates.Comparison.{Comparison}
use Rattle.mql_ast.specs.declared.predicates.Comparison.TheVariants as comparison
use Rattle.mql_ast.specs.Trees.{PredicateTree, Compare, Like, Not, And, Or}
use Rattle.mql_ast.specs.Tokens.{is_letter, is_digit, Rest, head, behind, skip, word_here}
use Rattle.mql_parse.specs.declared.faults.ParseKind.TheVariants.{TooDeep}
use Rattle.mql_parse.specs.declared.faults.What.{What}
use Rattle.mql_parse.specs.declared.faults.What.TheVariants as what
use Rattle.mql_parse.specs.Outcomes.{Outcome, unexpected_fault, exact, sign, map_outcome, up_to_sign}
use Rattle.mql_parse.specs.Repeats.{Turn, Done, Stuck, goes_on, repetition}
use Rattle.mql_parse.specs.TokenReading as reading
use Rattle.mql_parse.specs.PredicateReading as predicates
use Rattle.mql_parse.specs.PredicateReading.{Compared, WithValue, WithPattern, Deeper, Opposite, Group}
use Rattle.mql_parse.specs.Steadiness.{here, next, Steady, SteadyTurn}
use Rattle.mql_parse.proofs.PredicateSound.{and_turn_behind, or_turn_behind}
use Rattle.mql_parse.proofs.PipeSound.{filter_turn_behind}
use Rattle.mql_parse.proofs.Steady.{steady_from, steady_to, steady_ok, steady_fault, steady_unexpected, steady_bind}
use Rattle.mql_parse.proofs.Steady.{steady_map, steady_behind_pass, steady_sign, steady_up_to, head_test, next_test}
use Rattle.mql_parse.proofs.Steady.{steady_if, steady_skip, steady_behind, steady_behind_skip, steady_next}
use Rattle.mql_parse.proofs.TurnSteady.{turn_done, turn_stuck, turn_from, turn_if, turn_behind_skip, turn_goes_on}
use Rattle.mql_parse.proofs.TurnSteady.{steady_repetition}
use Rattle.mql_parse.proofs.TokenSteady.{exact_steady, word_steady, signed_steady, text_steady, pattern_steady}

-- a byte that is read in any case
byte_steady : {A : Type 0} (a : A) → Steady here here (λ s. Ok (a, behind s))
byte_steady a = steady_behind here (λ s. Ok (a, s)) (steady_ok here a)

behind_equals_steady : Steady here here predicates.behind_equals
behind_equals_steady =
    steady_if here here (λ s. head s == 61) (λ s. Ok (WithValue comparison.Equal, behind s)) _
    (head_test (λ b. b == 61)) (byte_steady (WithValue comparison.Equal))
    (steady_if here here (λ s. head s == 126) (λ s. Ok (WithPattern, behind s))
    (λ s. Err (unexpected_fault what.Comparison s)) (head_test (λ b. b == 126)) (byte_steady WithPattern)
    (steady_unexpected here what.Comparison))

maybe_equal_steady : (without with : Comparison) → Steady here here (predicates.maybe_equal without with)
maybe_equal_steady without with =
    steady_if here here (λ s. head s == 61) (λ s. Ok (WithValue with, behind s)) (λ s. Ok (WithValue without, s))
    (head_test (λ b. b == 61)) (byte_steady (WithValue with)) (steady_ok here (WithValue without))

not_equal_steady : Steady here here
    (λ s. exact what.Comparison (codes "=") s >>= λ r. Ok (WithValue comparison.NotEqual, r))
not_equal_steady = steady_behind_pass here here here (exact what.Comparison (codes "="))
    (λ r. Ok (WithValue comparison.NotEqual, r)) (exact_steady what.Comparison (codes "="))
    (steady_ok here (WithValue comparison.NotEqual))

comparison_steady : Steady next here predicates.comparison_kind
unfolding predicates.comparison_kind
comparison_steady =
    steady_if next here (λ s. head (skip s) == 61) (λ s. predicates.behind_equals (behind (skip s))) _
    (next_test (λ b. b == 61)) (steady_behind_skip here predicates.behind_equals behind_equals_steady)
    (steady_if next here (λ s. head (skip s) == 33) _ _ (next_test (λ b. b == 33))
    (steady_behind_skip here (λ s. exact what.Comparison (codes "=") s >>=
    λ r. Ok (WithValue comparison.NotEqual, r)) not_equal_steady)
    (steady_if next here (λ s. head (skip s) == 60) _ _ (next_test (λ b. b == 60))
    (steady_behind_skip here (predicates.maybe_equal comparison.Less comparison.AtMost)
    (maybe_equal_steady comparison.Less comparison.AtMost))
    (steady_if next here (λ s. head (skip s) == 62) _ _ (next_test (λ b. b == 62))
    (steady_behind_skip here (predicates.maybe_equal comparison.Greater comparison.AtLeast)
    (maybe_equal_steady comparison.Greater comparison.AtLeast))
    (steady_skip here (λ t. Err (unexpected_fault what.Comparison t)) (steady_unexpected here what.Comparison)))))

truth_steady : (word : List ℕ) (truth : Bool) →
    Steady here here (λ s. exact what.Truth word s >>= λ r. Ok (field.Bool truth, r))
truth_steady word truth = steady_behind_pass here here here (exact what.Truth word) (λ r. Ok (field.Bool truth, r))
    (exact_steady what.Truth word) (steady_ok here (field.Bool truth))

value_steady : Steady next here predicates.literal_value
unfolding predicates.literal_value
value_steady =
    steady_if next here (λ s. head (skip s) == 34)
    (λ s. map_outcome (λ x. field.Text x) (reading.text (behind (skip s)))) _ (next_test (λ b. b == 34))
    (steady_map next here (λ x. field.Text x) (λ s. reading.text (behind (skip s)))
    (steady_behind_skip here reading.text text_steady))
    (steady_if next here (λ s. head (skip s) == 116) _ _ (next_test (λ b. b == 116))
    (steady_skip here (λ t. exact what.Truth (codes "true") t >>= λ r. Ok (field.Bool true, r))
    (truth_steady (codes "true") true))
    (steady_if next here (λ s. head (skip s) == 102) _ _ (next_test (λ b. b == 102))
    (steady_skip here (λ t. exact what.Truth (codes "false") t >>= λ r. Ok (field.Bool false, r))
    (truth_steady (codes "false") false))
    (steady_if next here (λ s. head (skip s) == 45 || is_digit (head (skip s)))
    (λ s. map_outcome (λ z. field.Int z) (reading.signed_reading s)) _ (next_test (λ b. b == 45 || is_digit b))
    (steady_map next here (λ z. field.Int z) reading.signed_reading signed_steady)
    (steady_skip here (λ t. Err (unexpected_fault what.Text t)) (steady_unexpected here what.Text)))))

compares_how_steady : (column : Name) (how : Compared) → Steady next here (λ r. predicates.compares_how column (how, r))
compares_how_steady column (WithValue how) =
    steady_next here (λ n s. map_outcome (λ v. Compare column how (record { at = n; value = v }))
    (predicates.literal_value s))
    (λ n. steady_map next here (λ v. Compare column how (record { at = n; value = v })) predicates.literal_value
    value_steady)
compares_how_steady column WithPattern =
    steady_next here (λ n s. sign 34 what.Text s >>=
    λ q. map_outcome (λ ps. Like column (record { at = n; pieces = ps })) (reading.pattern q))
    (λ n. steady_behind_pass next here here (sign 34 what.Text)
    (λ q. map_outcome (λ ps. Like column (record { at = n; pieces = ps })) (reading.pattern q))
    (steady_sign 34 what.Text)
    (steady_map here here (λ ps. Like column (record { at = n; pieces = ps })) reading.pattern pattern_steady))

condition_steady : Steady here here predicates.condition
unfolding predicates.condition
condition_steady =
    steady_bind here next here (λ t. Ok (word_here t))
    (λ x. predicates.comparison_kind x.1 >>= predicates.compares_how x.0)
    (steady_to here (λ t. Ok (word_here t)) word_steady)
    (λ column. steady_bind next next here predicates.comparison_kind (predicates.compares_how column)
    (steady_to next predicates.comparison_kind comparison_steady) (compares_how_steady column))

negation_steady_with : (opposite group : Rest → Rest → Outcome PredicateTree) →
    Steady here next (λ t. opposite t (behind t)) → Steady here next (λ t. group t (behind t)) →
    Steady next next (predicates.negation_with opposite group)
unfolding predicates.negation_with
negation_steady_with opposite group f g =
    steady_if next next (λ s. head (skip s) == 33) _ _ (next_test (λ b. b == 33))
    (steady_skip next (λ t. opposite t (behind t)) f)
    (steady_if next next (λ s. head (skip s) == 40) _ _ (next_test (λ b. b == 40))
    (steady_skip next (λ t. group t (behind t)) g)
    (steady_if next next (λ s. is_letter (head (skip s))) (λ s. predicates.condition (skip s)) _ (next_test is_letter)
    (steady_skip next predicates.condition (steady_to here predicates.condition condition_steady))
    (steady_skip next (λ t. Err (unexpected_fault what.Name t)) (steady_unexpected next what.Name))))

-- a part behind the second of two signs
double_steady : (b : ℕ) (w : What) (join : PredicateTree → PredicateTree → PredicateTree)
    (part : Rest → Outcome PredicateTree) → Steady next next part → (left : PredicateTree) →
    SteadyTurn next next (predicates.double_turn b w join part left)
double_steady b w join part k left =
    let second = λ (u : Rest). if head u == b then goes_on (join left) (part (behind u))
    else Stuck (unexpected_fault w u) in
    turn_if next next (λ s. head (skip s) == b) (λ s. second (behind (skip s))) (λ s. Done left s)
    (next_test (λ c. c == b))
    (turn_behind_skip next second
    (turn_if here next (λ u. head u == b) (λ u. goes_on (join left) (part (behind u)))
    (λ u. Stuck (unexpected_fault w u))
    (head_test (λ c. c == b))
    (turn_goes_on here next (join left) (λ u. part (behind u)) (steady_behind next part (steady_from next part k)))
    (turn_stuck next w)))
    (turn_done next left)

pub and_turn_steady : (part : Rest → Outcome PredicateTree) → Steady next next part → (left : PredicateTree) →
    SteadyTurn next next (predicates.and_turn part left)
unfolding predicates.and_turn
and_turn_steady part k left = double_steady 38 what.And And part k left

pub or_turn_steady : (part : Rest → Outcome PredicateTree) → Steady next next part → (left : PredicateTree) →
    SteadyTurn next next (predicates.or_turn part left)
unfolding predicates.or_turn
or_turn_steady part k left = double_steady 124 what.Or Or part k left

conjunction_steady_by : (d : ℕ) → Steady next next (predicates.negation d) → Steady next next (predicates.conjunction d)
unfolding predicates.conjunction_with
conjunction_steady_by d k = steady_bind next next next (predicates.negation d)
    (λ first. repetition (predicates.and_turn (predicates.negation d)) first.0 first.1) k
    (steady_repetition next (predicates.and_turn (predicates.negation d)) (and_turn_behind d)
    (and_turn_steady (predicates.negation d) k))

pub disjunction_steady_by : (d : ℕ) → Steady next next (predicates.negation d) → Steady next next
    (predicates.disjunction d)
unfolding predicates.disjunction_with
disjunction_steady_by d k = steady_bind next next next (predicates.conjunction d)
    (λ first. repetition (predicates.or_turn (predicates.conjunction d)) first.0 first.1) (conjunction_steady_by d k)
    (steady_repetition next (predicates.or_turn (predicates.conjunction d)) (or_turn_behind d)
    (or_turn_steady (predicates.conjunction d) (conjunction_steady_by d k)))

pub deeper_steady_by : (d : ℕ) (way : Deeper) → Steady next next (predicates.negation d) →
    Steady next next (predicates.deeper_with (predicates.negation d) way)
deeper_steady_by d Opposite k = steady_map next next Not (predicates.negation d) k
deeper_steady_by d Group k = steady_to next (λ s. up_to_sign 41 what.CloseParenthesis (predicates.disjunction d s))
    (steady_up_to next 41 what.CloseParenthesis (predicates.disjunction d) (disjunction_steady_by d k))

-- what stands behind a sign that goes a level deeper, from the sign
deeper_steady : (d : ℕ) (way : Deeper) → Steady here next (λ t. predicates.deeper d way t (behind t))
unfolding predicates.deeper
deeper_steady zero way = steady_fault next TooDeep
deeper_steady (suc d) way =
    let inner = predicates.deeper_with (predicates.negation d) way in
    steady_behind next inner (steady_from next inner
    (deeper_steady_by d way (negation_steady_with (predicates.deeper d Opposite) (predicates.deeper d Group)
    (deeper_steady d Opposite) (deeper_steady d Group))))

pub negation_steady : (d : ℕ) → Steady next next (predicates.negation d)
negation_steady d = negation_steady_with (predicates.deeper d Opposite) (predicates.deeper d Group)
    (deeper_steady d Opposite) (deeper_steady d Group)

pub conjunction_steady : (d : ℕ) → Steady next next (predicates.conjunction d)
conjunction_steady d = conjunction_steady_by d (negation_steady d)

-- a filter's predicate, and the bar behind it
pub filter_turn_steady : (part : Rest → Outcome PredicateTree) → Steady next next part → (left : PredicateTree × Bool) →
    SteadyTurn next next (predicates.filter_turn part left)
unfolding predicates.filter_turn
filter_turn_steady part k left =
    let join : PredicateTree → PredicateTree × Bool = λ right. (Or left.0 right, false) in
    let second : Rest → Turn (PredicateTree × Bool) = λ u. if head u == 124 then goes_on join
    (part (behind u)) else Done (left.0, true) u in
    turn_if next next (λ s. head (skip s) == 124) (λ s. second (behind (skip s))) (λ s. Done (left.0, false) s)
    (next_test (λ b. b == 124))
    (turn_behind_skip next second
    (turn_if here next (λ u. head u == 124) (λ u. goes_on join (part (behind u))) (λ u. Done (left.0, true) u)
    (head_test (λ b. b == 124))
    (turn_goes_on here next join (λ u. part (behind u)) (steady_behind next part (steady_from next part k)))
    (turn_from next (λ u. Done (left.0, true) u) (turn_done next (left.0, true)))))
    (turn_done next (left.0, false))

pub predicate_steady : (d : ℕ) → Steady next next (predicates.predicate d)
unfolding predicates.predicate
predicate_steady d = steady_bind next next next (predicates.conjunction d)
    (λ first. repetition (predicates.filter_turn (predicates.conjunction d)) (first.0, false) first.1)
    (conjunction_steady d)
    (λ first. steady_repetition next (predicates.filter_turn (predicates.conjunction d)) (filter_turn_behind d)
    (filter_turn_steady (predicates.conjunction d) (conjunction_steady d)) (first, false))
