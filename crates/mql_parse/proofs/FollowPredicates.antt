-- Predicates behind a number.
use Rattle.std.proofs.Common.{◌≡◌, ℕ, zero, suc, Bool, true, false, ◌==◌, ◌||◌, List, codes, refl, subst}
use Rattle.std.proofs.Common.{if◌then◌else◌, Ok, Err}
use Rattle.mon_value.specs.Answers.{◌>>=◌}
use Rattle.mon_value.specs.declared.values.FieldValue.TheVariants as field
use Rattle.mql_ast.specs.declared.names.Name.{Name}
use Rattle.mql_ast.specs.declared.predicates.Comparison.{Comparison}
use Rattle.mql_ast.specs.declared.predicates.Comparison.TheVariants as comparison
use Rattle.mql_ast.specs.Trees.{PredicateTree, Compare, Like, Not, And, Or}
use Rattle.mql_ast.specs.Tokens.{is_letter, is_digit, Rest, head, behind, skip, word_here}
use Rattle.mql_parse.specs.declared.faults.ParseKind.TheVariants.{TooDeep}
use Rattle.mql_parse.specs.declared.faults.What.{What}
use Rattle.mql_parse.specs.declared.faults.What.TheVariants as what
use Rattle.mql_parse.specs.Outcomes.{Outcome, fault, unexpected_fault, exact, sign, map_outcome}
use Rattle.mql_parse.specs.Repeats.{Turn, Done, Stuck, goes_on, repetition}
use Rattle.mql_parse.specs.TokenReading as reading
use Rattle.mql_parse.specs.PredicateReading as predicates
use Rattle.mql_parse.specs.PredicateReading.{Compared, WithValue, WithPattern, Deeper, Opposite, Group}
use Rattle.mql_parse.specs.Steadiness.{here, next}
use Rattle.mql_parse.proofs.PredicateSound.{and_turn_behind, or_turn_behind}
use Rattle.mql_parse.proofs.PipeSound.{filter_turn_behind}
use Rattle.mql_parse.proofs.Follows.{Swap, counts, Any, Follows, Taken, follows_ok, ok_any, follows_fault}
use Rattle.mql_parse.proofs.Follows.{follows_unexpected, follows_from, follows_to, follows_bind, follows_then}
use Rattle.mql_parse.proofs.Follows.{follows_map, follows_behind_pass, next_tests, follows_if, follows_skip, taken}
use Rattle.mql_parse.proofs.Follows.{behind_taken, part_taken, follows_taken, next_taken, follows_next, sign_here}
use Rattle.mql_parse.proofs.Follows.{up_to_follows}
use Rattle.mql_parse.proofs.FollowTurns.{FollowsTurn, follows_done, follows_stuck, turn_follows_from, follows_goes_on}
use Rattle.mql_parse.proofs.FollowTurns.{turn_taken, turn_next_taken, repetition_follows}
use Rattle.mql_parse.proofs.FollowTokens.{no_counts, AlikeNames, name_itself, exact_follows, word_follows}
use Rattle.mql_parse.proofs.FollowTokens.{signed_follows, blind_letter}
use Rattle.mql_parse.proofs.FollowQuotes.{text_follows, pattern_follows}
use Rattle.mql_parse.proofs.FollowSums.{blind_start}

-- a comparison is the same in both texts
abbrev Same : Compared → Compared → Type 0
Same how other = how ≡ other

same_itself : (how : Compared) → Same how how
same_itself how = refl

byte_follows : (x : Swap) (b : ℕ) → counts b ≡ false → (how : Compared) →
    Taken x b here Same (λ s. Ok (how, behind s)) (λ s. Ok (how, behind s))
byte_follows x b n how =
    behind_taken x b here Same (λ s. Ok (how, s)) (λ s. Ok (how, s)) n (follows_ok x here Same how how refl)

behind_equals_follows : (x : Swap) → Follows x here here Same predicates.behind_equals predicates.behind_equals
behind_equals_follows x =
    follows_taken x 61 here Same (λ s. Ok (WithValue comparison.Equal, behind s))
    (λ s. Ok (WithValue comparison.Equal, behind s)) _ _ refl (byte_follows x 61 refl (WithValue comparison.Equal))
    (follows_taken x 126 here Same (λ s. Ok (WithPattern, behind s)) (λ s. Ok (WithPattern, behind s))
    (λ s. Err (unexpected_fault what.Comparison s)) (λ s. Err (unexpected_fault what.Comparison s)) refl
    (byte_follows x 126 refl WithPattern) (follows_unexpected x here Same what.Comparison what.Comparison))

maybe_equal_follows : (x : Swap) (without with : Comparison) →
    Follows x here here Same (predicates.maybe_equal without with) (predicates.maybe_equal without with)
maybe_equal_follows x without with =
    follows_taken x 61 here Same (λ s. Ok (WithValue with, behind s)) (λ s. Ok (WithValue with, behind s))
    (λ s. Ok (WithValue without, s)) (λ s. Ok (WithValue without, s)) refl (byte_follows x 61 refl (WithValue with))
    (follows_ok x here Same (WithValue without) (WithValue without) refl)

abbrev not_equal : Rest → Outcome Compared
not_equal s = exact what.Comparison (codes "=") s >>= λ r. Ok (WithValue comparison.NotEqual, r)

not_equal_follows : (x : Swap) → Follows x here here Same not_equal not_equal
not_equal_follows x =
    let how = WithValue comparison.NotEqual in
    follows_behind_pass x here here here Same (exact what.Comparison (codes "=")) (exact what.Comparison (codes "="))
    (λ r. Ok (how, r)) (λ r. Ok (how, r)) (exact_follows x what.Comparison (codes "=") refl)
    (follows_ok x here Same how how refl)

comparison_follows : (x : Swap) → Follows x next here Same predicates.comparison_kind predicates.comparison_kind
unfolding predicates.comparison_kind
comparison_follows x =
    next_taken x 61 here Same (λ t. predicates.behind_equals (behind t)) (λ t. predicates.behind_equals (behind t))
    _ _ refl
    (behind_taken x 61 here Same predicates.behind_equals predicates.behind_equals refl (behind_equals_follows x))
    (next_taken x 33 here Same (λ t. not_equal (behind t)) (λ t. not_equal (behind t)) _ _ refl
    (behind_taken x 33 here Same not_equal not_equal refl (not_equal_follows x))
    (next_taken x 60 here Same (λ t. less (behind t)) (λ t. less (behind t)) _ _ refl
    (behind_taken x 60 here Same less less refl (maybe_equal_follows x comparison.Less comparison.AtMost))
    (next_taken x 62 here Same (λ t. more (behind t)) (λ t. more (behind t)) _ _ refl
    (behind_taken x 62 here Same more more refl (maybe_equal_follows x comparison.Greater comparison.AtLeast))
    (follows_skip x here Same (λ t. Err (unexpected_fault what.Comparison t))
    (λ t. Err (unexpected_fault what.Comparison t))
    (follows_unexpected x here Same what.Comparison what.Comparison)))))
  where
    less : Rest → Outcome Compared
    less = predicates.maybe_equal comparison.Less comparison.AtMost

    more : Rest → Outcome Compared
    more = predicates.maybe_equal comparison.Greater comparison.AtLeast

truth_follows : (x : Swap) (word : List ℕ) (truth : Bool) → no_counts word ≡ true →
    Follows x here here Any (λ s. exact what.Truth word s >>= λ r. Ok (field.Bool truth, r))
    (λ s. exact what.Truth word s >>= λ r. Ok (field.Bool truth, r))
truth_follows x word truth n =
    follows_behind_pass x here here here Any (exact what.Truth word) (exact what.Truth word)
    (λ r. Ok (field.Bool truth, r)) (λ r. Ok (field.Bool truth, r)) (exact_follows x what.Truth word n)
    (ok_any x here (field.Bool truth) (field.Bool truth))

value_follows : (x : Swap) → Follows x next here Any predicates.literal_value predicates.literal_value
unfolding predicates.literal_value
value_follows x =
    let quoted = λ (t : Rest). map_outcome (λ y. field.Text y) (reading.text t) in
    let number = λ (s : Rest). map_outcome (λ z. field.Int z) (reading.signed_reading s) in
    next_taken x 34 here Any (λ t. quoted (behind t)) (λ t. quoted (behind t)) _ _ refl
    (behind_taken x 34 here Any quoted quoted refl
    (follows_map x here here (λ y. field.Text y) (λ y. field.Text y) reading.text reading.text (text_follows x)))
    (next_taken x 116 here Any (λ t. exact what.Truth (codes "true") t >>= λ r. Ok (field.Bool true, r))
    (λ t. exact what.Truth (codes "true") t >>= λ r. Ok (field.Bool true, r)) _ _ refl
    (taken x 116 here Any _ _ (truth_follows x (codes "true") true refl))
    (next_taken x 102 here Any (λ t. exact what.Truth (codes "false") t >>= λ r. Ok (field.Bool false, r))
    (λ t. exact what.Truth (codes "false") t >>= λ r. Ok (field.Bool false, r)) _ _ refl
    (taken x 102 here Any _ _ (truth_follows x (codes "false") false refl))
    (follows_if x next here Any (λ s. head (skip s) == 45 || is_digit (head (skip s)))
    (λ s. head (skip s) == 45 || is_digit (head (skip s))) number number _ _
    (next_tests x (λ b. b == 45 || is_digit b) blind_start)
    (follows_map x next here (λ z. field.Int z) (λ z. field.Int z) reading.signed_reading reading.signed_reading
    (signed_follows x))
    (follows_skip x here Any (λ t. Err (unexpected_fault what.Text t)) (λ t. Err (unexpected_fault what.Text t))
    (follows_unexpected x here Any what.Text what.Text)))))

compares_how_follows : (x : Swap) (a b : Name) (how : Compared) →
    Follows x next next Any (λ r. predicates.compares_how a (how, r)) (λ r. predicates.compares_how b (how, r))
compares_how_follows x a b (WithValue how) =
    let read = λ (column : Name) (n : ℕ) (s : Rest). map_outcome (λ v. Compare column how
    (record { at = n; value = v })) (predicates.literal_value s) in
    follows_next x next Any (read a) (read b)
    (λ m n. follows_map x next next (λ v. Compare a how (record { at = m; value = v }))
    (λ v. Compare b how (record { at = n; value = v })) predicates.literal_value predicates.literal_value
    (follows_to x next Any predicates.literal_value predicates.literal_value (value_follows x)))
compares_how_follows x a b WithPattern =
    let pieces = λ (column : Name) (n : ℕ) (q : Rest). map_outcome (λ ps. Like column
    (record { at = n; pieces = ps })) (reading.pattern q) in
    let read = λ (column : Name) (n : ℕ) (s : Rest). sign 34 what.Text s >>= pieces column n in
    follows_next x next Any (read a) (read b)
    (λ m n. follows_to x next Any (read a m) (read b n)
    (quoted (pieces a m) (pieces b n)
    (follows_map x here here (λ ps. Like a (record { at = m; pieces = ps }))
    (λ ps. Like b (record { at = n; pieces = ps })) reading.pattern reading.pattern (pattern_follows x))))
  where
    quoted : (one two : Rest → Outcome PredicateTree) → Follows x here here Any one two →
        Follows x next here Any (λ s. sign 34 what.Text s >>= one) (λ s. sign 34 what.Text s >>= two)
    quoted one two k =
        follows_behind_pass x next here here Any (sign 34 what.Text) (sign 34 what.Text) one two
        (sign_here x 34 what.Text what.Text refl) k

condition_follows : (x : Swap) → Follows x here next Any predicates.condition predicates.condition
unfolding predicates.condition
condition_follows x =
    let on : Name × Rest → Outcome PredicateTree =
    λ y. predicates.comparison_kind y.1 >>= predicates.compares_how y.0 in
    follows_bind x here next next AlikeNames Any (λ t. Ok (word_here t)) (λ t. Ok (word_here t)) on on name_itself
    (follows_to x here AlikeNames (λ t. Ok (word_here t)) (λ t. Ok (word_here t)) (word_follows x))
    (λ a b g. follows_bind x next next next Same Any predicates.comparison_kind predicates.comparison_kind
    (predicates.compares_how a) (predicates.compares_how b) same_itself
    (follows_to x next Same predicates.comparison_kind predicates.comparison_kind (comparison_follows x))
    (λ how other e. subst (λ z. Follows x next next Any (λ r. predicates.compares_how a (how, r))
    (λ r. predicates.compares_how b (z, r))) e (compares_how_follows x a b how)))

negation_follows_with : (x : Swap) (opposite group : Rest → Rest → Outcome PredicateTree) →
    Taken x 33 next Any (λ t. opposite t (behind t)) (λ t. opposite t (behind t)) →
    Taken x 40 next Any (λ t. group t (behind t)) (λ t. group t (behind t)) →
    Follows x next next Any (predicates.negation_with opposite group) (predicates.negation_with opposite group)
unfolding predicates.negation_with
negation_follows_with x opposite group f g =
    next_taken x 33 next Any (λ t. opposite t (behind t)) (λ t. opposite t (behind t)) _ _ refl f
    (next_taken x 40 next Any (λ t. group t (behind t)) (λ t. group t (behind t)) _ _ refl g
    (follows_if x next next Any (λ s. is_letter (head (skip s))) (λ s. is_letter (head (skip s)))
    (λ s. predicates.condition (skip s)) (λ s. predicates.condition (skip s))
    (λ s. Err (unexpected_fault what.Name (skip s))) (λ s. Err (unexpected_fault what.Name (skip s)))
    (next_tests x is_letter blind_letter)
    (follows_skip x next Any predicates.condition predicates.condition (condition_follows x))
    (follows_skip x next Any (λ t. Err (unexpected_fault what.Name t)) (λ t. Err (unexpected_fault what.Name t))
    (follows_unexpected x next Any what.Name what.Name))))

-- a part behind the second of two signs
double_follows : (x : Swap) (b : ℕ) (w : What) (join : PredicateTree → PredicateTree → PredicateTree)
    (part : Rest → Outcome PredicateTree) → counts b ≡ false → Follows x next next Any part part →
    (one two : PredicateTree) →
    FollowsTurn x next Any (predicates.double_turn b w join part one) (predicates.double_turn b w join part two)
double_follows x b w join part n k one two =
    turn_next_taken x b Any (second one) (second two) (λ s. Done one s) (λ s. Done two s) n
    (turn_taken x b Any (λ u. goes_on (join one) (part u)) (λ u. goes_on (join two) (part u))
    (λ u. Stuck (unexpected_fault w u)) (λ u. Stuck (unexpected_fault w u)) n
    (follows_goes_on x here Any (join one) (join two) part part (λ c d. tt) (follows_from x next Any part part k))
    (follows_stuck x Any w))
    (follows_done x Any one two tt)
  where
    second : PredicateTree → Rest → Turn PredicateTree
    second left u = if head u == b then goes_on (join left) (part (behind u)) else Stuck (unexpected_fault w u)

and_turn_follows : (x : Swap) (part : Rest → Outcome PredicateTree) → Follows x next next Any part part →
    (one two : PredicateTree) → FollowsTurn x next Any (predicates.and_turn part one) (predicates.and_turn part two)
unfolding predicates.and_turn
and_turn_follows x part k one two = double_follows x 38 what.And And part refl k one two

or_turn_follows : (x : Swap) (part : Rest → Outcome PredicateTree) → Follows x next next Any part part →
    (one two : PredicateTree) → FollowsTurn x next Any (predicates.or_turn part one) (predicates.or_turn part two)
unfolding predicates.or_turn
or_turn_follows x part k one two = double_follows x 124 what.Or Or part refl k one two

conjunction_follows_by : (x : Swap) (d : ℕ) → Follows x next next Any (predicates.negation d) (predicates.negation d) →
    Follows x next next Any (predicates.conjunction d) (predicates.conjunction d)
unfolding predicates.conjunction_with
conjunction_follows_by x d k =
    let turn = predicates.and_turn (predicates.negation d) in
    let on : PredicateTree × Rest → Outcome PredicateTree = λ first. repetition turn first.0 first.1 in
    follows_then x next next next Any (predicates.negation d) (predicates.negation d) on on k
    (λ a b. repetition_follows x Any turn (and_turn_behind d) (λ c. tt)
    (λ c e g. and_turn_follows x (predicates.negation d) k c e) a b tt)

disjunction_follows_by : (x : Swap) (d : ℕ) → Follows x next next Any (predicates.negation d) (predicates.negation d) →
    Follows x next next Any (predicates.disjunction d) (predicates.disjunction d)
unfolding predicates.disjunction_with
disjunction_follows_by x d k =
    let turn = predicates.or_turn (predicates.conjunction d) in
    let on : PredicateTree × Rest → Outcome PredicateTree = λ first. repetition turn first.0 first.1 in
    follows_then x next next next Any (predicates.conjunction d) (predicates.conjunction d) on on
    (conjunction_follows_by x d k)
    (λ a b. repetition_follows x Any turn (or_turn_behind d) (λ c. tt)
    (λ c e g. or_turn_follows x (predicates.conjunction d) (conjunction_follows_by x d k) c e) a b tt)

deeper_follows_by : (x : Swap) (d : ℕ) (way : Deeper) →
    Follows x next next Any (predicates.negation d) (predicates.negation d) →
    Follows x next next Any (predicates.deeper_with (predicates.negation d) way)
    (predicates.deeper_with (predicates.negation d) way)
deeper_follows_by x d Opposite k =
    follows_map x next next Not Not (predicates.negation d) (predicates.negation d) k
deeper_follows_by x d Group k =
    up_to_follows x 41 what.CloseParenthesis (predicates.disjunction d) (predicates.disjunction d) refl
    (disjunction_follows_by x d k)

-- what stands behind a sign that goes a level deeper, from the sign
deeper_follows : (x : Swap) (d : ℕ) (way : Deeper) (b : ℕ) → counts b ≡ false →
    Taken x b next Any (λ t. predicates.deeper d way t (behind t)) (λ t. predicates.deeper d way t (behind t))
unfolding predicates.deeper
deeper_follows x zero way b n =
    taken x b next Any (λ t. Err (fault TooDeep t)) (λ t. Err (fault TooDeep t)) (follows_fault x next Any TooDeep)
deeper_follows x (suc d) way b n =
    let inner = predicates.deeper_with (predicates.negation d) way in
    part_taken x b next Any inner inner n
    (deeper_follows_by x d way (negation_follows_with x (predicates.deeper d Opposite) (predicates.deeper d Group)
    (deeper_follows x d Opposite 33 refl) (deeper_follows x d Group 40 refl)))

negation_follows : (x : Swap) (d : ℕ) → Follows x next next Any (predicates.negation d) (predicates.negation d)
negation_follows x d =
    negation_follows_with x (predicates.deeper d Opposite) (predicates.deeper d Group)
    (deeper_follows x d Opposite 33 refl) (deeper_follows x d Group 40 refl)

conjunction_follows : (x : Swap) (d : ℕ) →
    Follows x next next Any (predicates.conjunction d) (predicates.conjunction d)
conjunction_follows x d = conjunction_follows_by x d (negation_follows x d)

-- a filter's predicate, and the bar behind it, which both texts have
abbrev pub SameBar : {A : Type 0} → A × Bool → A × Bool → Type 0
SameBar y z = y.1 ≡ z.1

filter_turn_follows : (x : Swap) (part : Rest → Outcome PredicateTree) → Follows x next next Any part part →
    (one two : PredicateTree × Bool) →
    FollowsTurn x next SameBar (predicates.filter_turn part one) (predicates.filter_turn part two)
unfolding predicates.filter_turn
filter_turn_follows x part k one two =
    turn_next_taken x 124 SameBar (second one) (second two) (λ s. Done (one.0, false) s) (λ s. Done (two.0, false) s)
    refl
    (turn_taken x 124 SameBar (λ u. goes_on (join one) (part u)) (λ u. goes_on (join two) (part u))
    (λ u. Done (one.0, true) u) (λ u. Done (two.0, true) u) refl
    (follows_goes_on x here SameBar (join one) (join two) part part (λ c d. refl)
    (follows_from x next Any part part k))
    (turn_follows_from x SameBar (λ u. Done (one.0, true) u) (λ u. Done (two.0, true) u)
    (follows_done x SameBar (one.0, true) (two.0, true) refl)))
    (follows_done x SameBar (one.0, false) (two.0, false) refl)
  where
    join : PredicateTree × Bool → PredicateTree → PredicateTree × Bool
    join left right = (Or left.0 right, false)

    second : PredicateTree × Bool → Rest → Turn (PredicateTree × Bool)
    second left u =
        if head u == 124 then goes_on (λ right. (Or left.0 right, false)) (part (behind u)) else Done (left.0, true) u

pub predicate_follows : (x : Swap) (d : ℕ) →
    Follows x next next SameBar (predicates.predicate d) (predicates.predicate d)
unfolding predicates.predicate
predicate_follows x d =
    let turn = predicates.filter_turn (predicates.conjunction d) in
    let on : PredicateTree × Rest → Outcome (PredicateTree × Bool) =
    λ first. repetition turn (first.0, false) first.1 in
    follows_then x next next next SameBar (predicates.conjunction d) (predicates.conjunction d) on on
    (conjunction_follows x d)
    (λ a b. repetition_follows x SameBar turn (filter_turn_behind d) (λ c. refl)
    (λ c e g. filter_turn_follows x (predicates.conjunction d) (conjunction_follows x d) c e) (a, false) (b, false)
    refl)
