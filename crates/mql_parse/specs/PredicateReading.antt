-- How predicates are read.
use Rattle.std.specs.Prelude.{ℕ, zero, suc, Bool, true, false, ◌==◌, ◌||◌, List, codes, Ok, Err, if◌then◌else◌}
use Rattle.mon_value.specs.Answers.{◌>>=◌}
use Rattle.mon_value.specs.declared.values.FieldValue.{FieldValue}
use Rattle.mon_value.specs.declared.values.FieldValue.TheVariants as field
use Rattle.mql_ast.specs.declared.names.Name.{Name}
use Rattle.mql_ast.specs.declared.predicates.Comparison.{Comparison}
use Rattle.mql_ast.specs.declared.predicates.Comparison.TheVariants as comparison
use Rattle.mql_ast.specs.declared.predicates.Pattern.{Pattern}
use Rattle.mql_ast.specs.Trees.{PredicateTree, Compare, Like, Not, And, Or}
use Rattle.mql_ast.specs.Tokens.{is_letter, is_digit, Rest, head, behind, skip, word_here}
use Rattle.mql_ast.specs.Grammar.{literal}
use Rattle.mql_parse.specs.declared.faults.ParseKind.TheVariants.{TooDeep}
use Rattle.mql_parse.specs.declared.faults.What.{What}
use Rattle.mql_parse.specs.declared.faults.What.TheVariants as what
use Rattle.mql_parse.specs.Outcomes.{Outcome, fault, unexpected_fault, exact, sign, map_outcome, up_to_sign}
use Rattle.mql_parse.specs.Repeats.{Turn, Done, Stuck, goes_on, repetition}
use Rattle.mql_parse.specs.TokenReading.{signed_reading, text, pattern}

-- how a condition compares: with a value, or with a pattern
pub data Compared : Type 0 where
  WithValue : Comparison → Compared
  WithPattern : Compared

abbrev pub value_comparison : Comparison × Rest → Outcome Compared
value_comparison read = Ok (WithValue read.0, read.1)

-- behind the first byte of a comparison
abbrev pub behind_equals : Rest → Outcome Compared
behind_equals s =
    if head s == 61 then Ok (WithValue comparison.Equal, behind s) else
    (if head s == 126 then Ok (WithPattern, behind s) else Err (unexpected_fault what.Comparison s))

abbrev pub maybe_equal : Comparison → Comparison → Rest → Outcome Compared
maybe_equal without with s = if head s == 61 then Ok (WithValue with, behind s) else Ok (WithValue without, s)

unfoldable pub comparison_kind : Rest → Outcome Compared
comparison_kind s =
    let t = skip s in
    let b = head t in
    if b == 61 then behind_equals (behind t) else
    (if b == 33 then (exact what.Comparison (codes "=") (behind t) >>= λ r. Ok (WithValue comparison.NotEqual, r)) else
    (if b == 60 then maybe_equal comparison.Less comparison.AtMost (behind t) else
    (if b == 62 then maybe_equal comparison.Greater comparison.AtLeast (behind t) else
    Err (unexpected_fault what.Comparison t))))

-- a literal's value
unfoldable pub literal_value : Rest → Outcome FieldValue
literal_value s =
    let t = skip s in
    let b = head t in
    if b == 34 then map_outcome (λ x. field.Text x) (text (behind t)) else
    (if b == 116 then (exact what.Truth (codes "true") t >>= λ r. Ok (field.Bool true, r)) else
    (if b == 102 then (exact what.Truth (codes "false") t >>= λ r. Ok (field.Bool false, r)) else
    (if b == 45 || is_digit b then map_outcome (λ z. field.Int z) (signed_reading s)
    else Err (unexpected_fault what.Text t))))

abbrev pub compares : Name → Comparison → Rest → Outcome PredicateTree
compares column how s = map_outcome (λ v. Compare column how (literal s v)) (literal_value s)

abbrev pub pattern_of : Rest → List (List ℕ) → Pattern
pattern_of s pieces = record { at = (skip s).at; pieces = pieces }

abbrev pub likens : Name → Rest → Outcome PredicateTree
likens column s = sign 34 what.Text s >>= λ q. map_outcome (λ ps. Like column (pattern_of s ps)) (pattern q)

abbrev pub compares_how : Name → Compared × Rest → Outcome PredicateTree
compares_how column (WithValue how, s) = compares column how s
compares_how column (WithPattern, s) = likens column s

-- a column that is compared with a value or a pattern, from its first byte on
unfoldable pub condition : Rest → Outcome PredicateTree
condition t = comparison_kind (word_here t).1 >>= compares_how (word_here t).0

-- a condition, the opposite of one, or a predicate in parentheses
unfoldable pub negation_with : (Rest → Rest → Outcome PredicateTree) → (Rest → Rest → Outcome PredicateTree) → Rest →
    Outcome PredicateTree
negation_with opposite group s =
    let t = skip s in
    let b = head t in
    if b == 33 then opposite t (behind t) else
    (if b == 40 then group t (behind t) else
    (if is_letter b then condition t else Err (unexpected_fault what.Name t)))

-- a further part behind a sign that is written twice
abbrev pub double_turn : ℕ → What → (PredicateTree → PredicateTree → PredicateTree) → (Rest → Outcome PredicateTree) →
    PredicateTree → Rest → Turn PredicateTree
double_turn b what join part left s =
    let t = skip s in
    if head t == b then (if head (behind t) == b then goes_on (join left) (part (behind (behind t)))
    else Stuck (unexpected_fault what (behind t))) else Done left s

unfoldable pub and_turn : (Rest → Outcome PredicateTree) → PredicateTree → Rest → Turn PredicateTree
and_turn part left s = double_turn 38 what.And And part left s

unfoldable pub or_turn : (Rest → Outcome PredicateTree) → PredicateTree → Rest → Turn PredicateTree
or_turn part left s = double_turn 124 what.Or Or part left s

-- conditions joined by `&&`
unfoldable pub conjunction_with : (Rest → Outcome PredicateTree) → Rest → Outcome PredicateTree
conjunction_with negation s = negation s >>= λ first. repetition (and_turn negation) first.0 first.1

-- conditions joined by `||`, in parentheses, where a bar needs its second
unfoldable pub disjunction_with : (Rest → Outcome PredicateTree) → Rest → Outcome PredicateTree
disjunction_with negation s =
    conjunction_with negation s >>= λ first. repetition (or_turn (conjunction_with negation)) first.0 first.1

-- what stands behind a sign that goes a level deeper: `!`, or a parenthesis
pub data Deeper : Type 0 where
  Opposite : Deeper
  Group : Deeper

abbrev pub deeper_with : (Rest → Outcome PredicateTree) → Deeper → Rest → Outcome PredicateTree
deeper_with negation Opposite s = map_outcome Not (negation s)
deeper_with negation Group s = up_to_sign 41 what.CloseParenthesis (disjunction_with negation s)

-- the opposite of what stands behind the sign here, or a predicate in parentheses from behind the first here
unfoldable pub deeper : ℕ → Deeper → Rest → Rest → Outcome PredicateTree
deeper zero way here s = Err (fault TooDeep here)
deeper (suc d) way here s = deeper_with (negation_with (deeper d Opposite) (deeper d Group)) way s

abbrev pub negation : ℕ → Rest → Outcome PredicateTree
negation d = negation_with (deeper d Opposite) (deeper d Group)

abbrev pub conjunction : ℕ → Rest → Outcome PredicateTree
conjunction d = conjunction_with (negation d)

abbrev pub disjunction : ℕ → Rest → Outcome PredicateTree
disjunction d = disjunction_with (negation d)

-- a filter's predicate, and whether the bar behind it was read too
unfoldable pub filter_turn : (Rest → Outcome PredicateTree) → PredicateTree × Bool → Rest → Turn (PredicateTree × Bool)
filter_turn conjunction left s =
    let t = skip s in
    if head t == 124 then (if head (behind t) == 124
    then goes_on (λ right. (Or left.0 right, false)) (conjunction (behind (behind t)))
    else Done (left.0, true) (behind t)) else Done (left.0, false) s

unfoldable pub predicate : ℕ → Rest → Outcome (PredicateTree × Bool)
predicate d s = conjunction d s >>= λ first. repetition (filter_turn (conjunction d)) (first.0, false) first.1
