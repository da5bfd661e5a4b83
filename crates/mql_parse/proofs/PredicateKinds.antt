-- The kinds of faults in predicates.
use Rattle.std.proofs.Common.{◌≡◌, ℕ, zero, suc, Bool, true, false, ◌==◌, ◌||◌, codes, refl, if◌then◌else◌, Some, None}
use Rattle.std.proofs.Common.{Ok, Err}
use Rattle.mon_value.specs.Answers.{◌>>=◌}
use Rattle.mon_value.specs.declared.values.FieldValue.TheVariants as field
use Rattle.mql_ast.specs.declared.names.Name.{Name}
use Rattle.mql_ast.specs.declared.predicates.Comparison.{Comparison}
use Rattle.mql_ast.specs.declared.predicates.Comparison.TheVariants as comparison
use Rattle.mql_ast.specs.Trees.{PredicateTree, Compare, Like, Not, And, Or}
use Rattle.mql_ast.specs.Tokens.{is_letter, is_digit, Rest, head, behind, skip, word_here}
use Rattle.mql_ast.specs.Quotes.{Whole}
use Rattle.mql_ast.specs.Grammar.{literal}
use Rattle.mql_parse.specs.declared.faults.What.{What}
use Rattle.mql_parse.specs.declared.faults.What.TheVariants as what
use Rattle.mql_parse.specs.Outcomes.{Outcome, unexpected_fault, exact, sign, map_outcome}
use Rattle.mql_parse.specs.Repeats.{Turn, Done, Stuck, goes_on, repetition}
use Rattle.mql_parse.specs.TokenReading as reading
use Rattle.mql_parse.specs.PredicateReading as predicates
use Rattle.mql_parse.specs.PredicateReading.{Compared, WithValue, WithPattern, Deeper, Opposite, Group}
use Rattle.mql_parse.proofs.PredicateSound.{and_turn_behind, or_turn_behind}
use Rattle.mql_parse.proofs.PipeSound.{filter_turn_behind}
use Rattle.mql_parse.proofs.KindFits.{Fits, TurnFits, outside_itself, fits_before, turn_before, bind_fits, map_fits}
use Rattle.mql_parse.proofs.KindFits.{pass_then, if_fits, if_turn, byte_outside, part_outside, behind_fits, skip_fits}
use Rattle.mql_parse.proofs.KindFits.{part_fits, quote_fits, unexpected_fits, unexpected_next, deep_fits, up_to_fits}
use Rattle.mql_parse.proofs.KindFits.{goes_on_fits, repetition_fits}
use Rattle.mql_parse.proofs.TokenKinds.{exact_fits, word_outside, signed_fits}
use Rattle.mql_parse.proofs.QuoteKinds.{text_fits, pattern_fits}

behind_equals_fits : (s : Rest) → Fits None s (predicates.behind_equals s)
behind_equals_fits s =
    if_fits None s (head s == 61) (Ok (WithValue comparison.Equal, behind s)) _
    (λ h. byte_outside (λ b. b == 61) refl refl s h)
    (λ _. if_fits None s (head s == 126) (Ok (WithPattern, behind s)) (Err (unexpected_fault what.Comparison s))
    (λ h. byte_outside (λ b. b == 126) refl refl s h) (λ _. unexpected_fits what.Comparison s))

maybe_equal_fits : (without with : Comparison) (s : Rest) → Fits None s (predicates.maybe_equal without with s)
maybe_equal_fits without with s = if_fits None s (head s == 61) (Ok (WithValue with, behind s))
    (Ok (WithValue without, s)) (λ h. byte_outside (λ b. b == 61) refl refl s h) (λ _. outside_itself s)

comparison_fits : (s : Rest) → Fits None s (predicates.comparison_kind s)
unfolding predicates.comparison_kind
comparison_fits s =
    let t = skip s in
    if_fits None s (head t == 61) (predicates.behind_equals (behind t)) _
    (λ h. part_fits (λ b. b == 61) refl refl s h (predicates.behind_equals (behind t))
    (behind_equals_fits (behind t)))
    (λ _. if_fits None s (head t == 33) _ _
    (λ h. part_fits (λ b. b == 33) refl refl s h _
    (pass_then (behind t) (exact what.Comparison (codes "=") (behind t))
    (λ r. Ok (WithValue comparison.NotEqual, r)) (exact_fits what.Comparison (codes "=") refl (behind t))
    outside_itself))
    (λ _. if_fits None s (head t == 60) (predicates.maybe_equal comparison.Less comparison.AtMost (behind t)) _
    (λ h. part_fits (λ b. b == 60) refl refl s h
    (predicates.maybe_equal comparison.Less comparison.AtMost (behind t))
    (maybe_equal_fits comparison.Less comparison.AtMost (behind t)))
    (λ _. if_fits None s (head t == 62) (predicates.maybe_equal comparison.Greater comparison.AtLeast (behind t))
    (Err (unexpected_fault what.Comparison t))
    (λ h. part_fits (λ b. b == 62) refl refl s h
    (predicates.maybe_equal comparison.Greater comparison.AtLeast (behind t))
    (maybe_equal_fits comparison.Greater comparison.AtLeast (behind t))) (λ _. unexpected_next what.Comparison s))))

value_fits : (s : Rest) → Fits None s (predicates.literal_value s)
unfolding predicates.literal_value
value_fits s =
    let t = skip s in
    let quoted = map_outcome (λ x. field.Text x) (reading.text (behind t)) in
    if_fits None s (head t == 34) quoted _
    (λ h. skip_fits s quoted (quote_fits t quoted h
    (map_fits (Some Whole) (behind t) (λ x. field.Text x) (reading.text (behind t)) (text_fits (behind t)))))
    (λ _. if_fits None s (head t == 116) _ _
    (λ _. skip_fits s _ (pass_then t (exact what.Truth (codes "true") t) (λ r. Ok (field.Bool true, r))
    (exact_fits what.Truth (codes "true") refl t) outside_itself))
    (λ _. if_fits None s (head t == 102) _ _
    (λ _. skip_fits s _ (pass_then t (exact what.Truth (codes "false") t) (λ r. Ok (field.Bool false, r))
    (exact_fits what.Truth (codes "false") refl t) outside_itself))
    (λ _. if_fits None s (head t == 45 || is_digit (head t)) (map_outcome (λ z. field.Int z) (reading.signed_reading s))
    (Err (unexpected_fault what.Text t))
    (λ _. map_fits None s (λ z. field.Int z) (reading.signed_reading s) (signed_fits s))
    (λ _. unexpected_next what.Text s))))

-- what stands in quotes behind a quote
in_quotes : {A : Type 0} (s : Rest) (f : Rest → Outcome A) → ((q : Rest) → Fits (Some Whole) q (f q)) →
    Fits None s (sign 34 what.Text s >>= f)
in_quotes s f k = either (head (skip s) == 34) refl
  where
    either : (t : Bool) → (head (skip s) == 34) ≡ t →
        Fits None s ((if t then Ok (behind (skip s)) else Err (unexpected_fault what.Text (skip s))) >>= f)
    either true h = skip_fits s (f (behind (skip s)))
        (quote_fits (skip s) (f (behind (skip s))) h (k (behind (skip s))))
    either false h = unexpected_next what.Text s

compares_how_fits : (column : Name) (how : Compared) (s : Rest) → Fits None s (predicates.compares_how column (how, s))
compares_how_fits column (WithValue how) s = map_fits None s (λ v. Compare column how (literal s v))
    (predicates.literal_value s) (value_fits s)
compares_how_fits column WithPattern s =
    in_quotes s (λ q. map_outcome (λ ps. Like column (predicates.pattern_of s ps)) (reading.pattern q))
    (λ q. map_fits (Some Whole) q (λ ps. Like column (predicates.pattern_of s ps)) (reading.pattern q)
    (pattern_fits q))

condition_fits : (t : Rest) → Fits None t (predicates.condition t)
unfolding predicates.condition
condition_fits t =
    let word = word_here t in
    let compared = predicates.comparison_kind word.1 >>= predicates.compares_how word.0 in
    fits_before None t word.1 compared (word_outside t)
    (bind_fits None word.1 (predicates.comparison_kind word.1) (predicates.compares_how word.0)
    (comparison_fits word.1) (compares_how_fits word.0))

negation_fits_with : (opposite group : Rest → Rest → Outcome PredicateTree) →
    ((t : Rest) → (head t == 33) ≡ true → Fits None t (opposite t (behind t))) →
    ((t : Rest) → (head t == 40) ≡ true → Fits None t (group t (behind t))) →
    (s : Rest) → Fits None s (predicates.negation_with opposite group s)
unfolding predicates.negation_with
negation_fits_with opposite group f g s =
    let t = skip s in
    if_fits None s (head t == 33) (opposite t (behind t)) _ (λ h. skip_fits s (opposite t (behind t)) (f t h))
    (λ _. if_fits None s (head t == 40) (group t (behind t)) _ (λ h. skip_fits s (group t (behind t)) (g t h))
    (λ _. if_fits None s (is_letter (head t)) (predicates.condition t) (Err (unexpected_fault what.Name t))
    (λ _. skip_fits s (predicates.condition t) (condition_fits t)) (λ _. unexpected_next what.Name s)))

double_fits : (b : ℕ) → (0 == b) ≡ false → (34 == b) ≡ false →
    (w : What) (join : PredicateTree → PredicateTree → PredicateTree) (part : Rest → Outcome PredicateTree) →
    ((s : Rest) → Fits None s (part s)) → (left : PredicateTree) (s : Rest) →
    TurnFits s (predicates.double_turn b w join part left s)
double_fits b none fails w join part k left s =
    let u = behind (skip s) in
    let second = if head u == b then goes_on (join left) (part (behind u)) else Stuck (unexpected_fault w u) in
    if_turn s (head (skip s) == b) second (Done left s)
    (λ h. turn_before s u second (part_outside (λ c. c == b) none fails s h)
    (if_turn u (head u == b) (goes_on (join left) (part (behind u))) (Stuck (unexpected_fault w u))
    (λ g. turn_before u (behind u) (goes_on (join left) (part (behind u))) (byte_outside (λ c. c == b) none fails u g)
    (goes_on_fits (behind u) (join left) (part (behind u)) (k (behind u)))) (λ _. unexpected_fits w u)))
    (λ _. outside_itself s)

and_turn_fits : (part : Rest → Outcome PredicateTree) → ((s : Rest) → Fits None s (part s)) → (left : PredicateTree)
    (s : Rest) → TurnFits s (predicates.and_turn part left s)
unfolding predicates.and_turn
and_turn_fits part k left s = double_fits 38 refl refl what.And And part k left s

or_turn_fits : (part : Rest → Outcome PredicateTree) → ((s : Rest) → Fits None s (part s)) → (left : PredicateTree)
    (s : Rest) → TurnFits s (predicates.or_turn part left s)
unfolding predicates.or_turn
or_turn_fits part k left s = double_fits 124 refl refl what.Or Or part k left s

conjunction_fits_by : (d : ℕ) → ((s : Rest) → Fits None s (predicates.negation d s)) → (s : Rest) →
    Fits None s (predicates.conjunction d s)
unfolding predicates.conjunction_with
conjunction_fits_by d k s = bind_fits None s (predicates.negation d s)
    (λ first. repetition (predicates.and_turn (predicates.negation d)) first.0 first.1) (k s)
    (repetition_fits (predicates.and_turn (predicates.negation d)) (and_turn_behind d)
    (and_turn_fits (predicates.negation d) k))

disjunction_fits_by : (d : ℕ) → ((s : Rest) → Fits None s (predicates.negation d s)) → (s : Rest) →
    Fits None s (predicates.disjunction d s)
unfolding predicates.disjunction_with
disjunction_fits_by d k s = bind_fits None s (predicates.conjunction d s)
    (λ first. repetition (predicates.or_turn (predicates.conjunction d)) first.0 first.1) (conjunction_fits_by d k s)
    (repetition_fits (predicates.or_turn (predicates.conjunction d)) (or_turn_behind d)
    (or_turn_fits (predicates.conjunction d) (conjunction_fits_by d k)))

abbrev opening : Deeper → ℕ
opening Opposite = 33
opening Group = 40

too_deep_fits : (way : Deeper) (t : Rest) → (head t == opening way) ≡ true →
    Fits None t (predicates.deeper zero way t (behind t))
unfolding predicates.deeper
too_deep_fits Opposite t h = deep_fits 33 refl refl t h
too_deep_fits Group t h = deep_fits 40 refl refl t h

deeper_fits_by : (d : ℕ) → ((s : Rest) → Fits None s (predicates.negation d s)) → (way : Deeper) (t : Rest) →
    (head t == opening way) ≡ true → Fits None t (predicates.deeper_with (predicates.negation d) way (behind t))
deeper_fits_by d k Opposite t h =
    behind_fits (λ b. b == 33) refl refl t h (map_outcome Not (predicates.negation d (behind t)))
    (map_fits None (behind t) Not (predicates.negation d (behind t)) (k (behind t)))
deeper_fits_by d k Group t h =
    behind_fits (λ b. b == 40) refl refl t h _
    (up_to_fits 41 refl refl what.CloseParenthesis (behind t) (predicates.disjunction d (behind t))
    (disjunction_fits_by d k (behind t)))

deeper_fits : (d : ℕ) (way : Deeper) (t : Rest) → (head t == opening way) ≡ true →
    Fits None t (predicates.deeper d way t (behind t))
unfolding predicates.deeper
deeper_fits zero way t h = too_deep_fits way t h
deeper_fits (suc d) way t h = deeper_fits_by d
    (negation_fits_with (predicates.deeper d Opposite) (predicates.deeper d Group) (deeper_fits d Opposite)
    (deeper_fits d Group)) way t h

negation_fits : (d : ℕ) (s : Rest) → Fits None s (predicates.negation d s)
negation_fits d = negation_fits_with (predicates.deeper d Opposite) (predicates.deeper d Group) (deeper_fits d Opposite)
    (deeper_fits d Group)

conjunction_fits : (d : ℕ) (s : Rest) → Fits None s (predicates.conjunction d s)
conjunction_fits d = conjunction_fits_by d (negation_fits d)

filter_turn_fits : (part : Rest → Outcome PredicateTree) → ((s : Rest) → Fits None s (part s)) →
    (left : PredicateTree × Bool) (s : Rest) → TurnFits s (predicates.filter_turn part left s)
unfolding predicates.filter_turn
filter_turn_fits part k left s =
    let join : PredicateTree → PredicateTree × Bool = λ right. (Or left.0 right, false) in
    let u = behind (skip s) in
    let second : Turn (PredicateTree × Bool) = if head u == 124 then goes_on join (part (behind u)) else Done
    (left.0, true) u in
    if_turn s (head (skip s) == 124) second (Done (left.0, false) s)
    (λ h. turn_before s u second (part_outside (λ b. b == 124) refl refl s h)
    (if_turn u (head u == 124) (goes_on join (part (behind u))) (Done (left.0, true) u)
    (λ g. turn_before u (behind u) (goes_on join (part (behind u))) (byte_outside (λ b. b == 124) refl refl u g)
    (goes_on_fits (behind u) join (part (behind u)) (k (behind u)))) (λ _. outside_itself u)))
    (λ _. outside_itself s)

pub predicate_fits : (d : ℕ) (s : Rest) → Fits None s (predicates.predicate d s)
unfolding predicates.predicate
predicate_fits d s = bind_fits None s (predicates.conjunction d s)
    (λ first. repetition (predicates.filter_turn (predicates.conjunction d)) (first.0, false) first.1)
    (conjunction_fits d s)
    (λ first r. repetition_fits (predicates.filter_turn (predicates.conjunction d)) (filter_turn_behind d)
    (filter_turn_fits (predicates.conjunction d) (conjunction_fits d)) (first, false) r)
