-- What predicates expect comes first.
use Rattle.std.proofs.Common.{◌≡◌, ℕ, Bool, true, false, ◌==◌, ◌||◌, List, ◌∷◌, codes, refl, ap, if◌then◌else◌, Ok, Err}
use Rattle.mon_value.specs.Answers.{◌>>=◌}
use Rattle.mon_value.specs.declared.values.FieldValue.{FieldValue}
use Rattle.mon_value.specs.declared.values.FieldValue.TheVariants as field
use Rattle.mql_ast.specs.declared.names.Name.{Name}
use Rattle.mql_ast.specs.declared.predicates.Comparison.{Comparison}
use Rattle.mql_ast.specs.declared.predicates.Comparison.TheVariants as comparison
use Rattle.mql_ast.specs.Trees.{PredicateTree, Compare, Like}
use Rattle.mql_ast.specs.Tokens.{is_letter, is_digit, Rest, first_of, head, behind, skip, word_here}
use Rattle.mql_parse.specs.declared.faults.What.TheVariants as what
use Rattle.mql_parse.specs.Outcomes.{Outcome, unexpected_fault, exact, sign, map_outcome}
use Rattle.mql_parse.specs.TokenReading as reading
use Rattle.mql_parse.specs.PredicateReading as predicates
use Rattle.mql_parse.specs.PredicateReading.{Compared, WithValue, WithPattern}
use Rattle.mql_parse.specs.Steadiness.{here, next}
use Rattle.mql_parse.proofs.Steady.{steady_from, steady_ok, steady_map}
use Rattle.mql_parse.proofs.TokenSteady.{text_steady}
use Rattle.mql_parse.proofs.Firsts.{Spot, Begun, Meets, Before, First, FirstOutcome, NoMore, passed_far, first_next}
use Rattle.mql_parse.proofs.Firsts.{first_bind, first_behind_pass, first_sign, meets_then, meets_ok, meets_map}
use Rattle.mql_parse.proofs.Firsts.{meets_of, meets_to, meets_behind_pass, first_if, first_if_or, first_unexpected}
use Rattle.mql_parse.proofs.Firsts.{before_of, before_if, before_skip, before_behind, before_behind_skip}
use Rattle.mql_parse.proofs.Firsts.{before_unexpected, before_map, before_next, before_behind_pass, before_sign}
use Rattle.mql_parse.proofs.FirstBytes.{at_byte, at_bytes, exclamation_begins, quote_begins, minus_or_digit}
use Rattle.mql_parse.proofs.FirstTokens.{all_solid, exact_fails, second_or, meets_unexpected, meets_if_here}
use Rattle.mql_parse.proofs.FirstTokens.{far_behind, meets_exact, keyword_far, meets_word, first_word}
use Rattle.mql_parse.proofs.FirstNumbers.{before_signed, signed_far, map_first}
use Rattle.mql_parse.proofs.FirstQuotes.{meets_text, meets_pattern}

-- comparisons
byte_meets : {A : Type 0} (x : Spot) (a : A) (test : ℕ → Bool) (other : Rest → Outcome A) → test 10 ≡ false →
    test 0 ≡ false → Meets x here here NoMore other →
    Meets x here here NoMore (λ s. if test (head s) then Ok (a, behind s) else other s)
byte_meets x a test other z n k =
    meets_if_here x here NoMore test (λ s. Ok (a, behind s)) other z
    (far_behind x here NoMore test n (λ s. Ok (a, s)) (steady_ok here a))
    (before_behind x here NoMore (λ s. Ok (a, s)) (meets_ok x here NoMore a)) k

behind_equals_meets : (x : Spot) → Meets x here here NoMore predicates.behind_equals
behind_equals_meets x =
    byte_meets x (WithValue comparison.Equal) (λ b. b == 61) _ refl refl
    (byte_meets x WithPattern (λ b. b == 126) (λ s. Err (unexpected_fault what.Comparison s)) refl refl
    (meets_unexpected x here NoMore what.Comparison))

maybe_equal_meets : (x : Spot) (without with : Comparison) →
    Meets x here here NoMore (predicates.maybe_equal without with)
maybe_equal_meets x without with =
    byte_meets x (WithValue with) (λ b. b == 61) (λ s. Ok (WithValue without, s)) refl refl
    (meets_ok x here NoMore (WithValue without))

abbrev not_equal : Rest → Outcome Compared
not_equal s = exact what.Comparison (codes "=") s >>= λ r. Ok (WithValue comparison.NotEqual, r)

not_equal_meets : (x : Spot) → Meets x here here NoMore not_equal
not_equal_meets x = meets_behind_pass x here here here NoMore (exact what.Comparison (codes "="))
    (λ r. Ok (WithValue comparison.NotEqual, r)) (meets_exact x what.Comparison (codes "=") refl)
    (meets_ok x here NoMore (WithValue comparison.NotEqual))

comparison_first : (x : Spot) → First x next here what.Comparison predicates.comparison_kind
unfolding predicates.comparison_kind
comparison_first x =
    first_if x here what.Comparison (λ b. b == 61) (λ s. predicates.behind_equals (behind (skip s))) _
    (λ s e h. passed_far x here what.Comparison (λ b. b == 61) refl predicates.behind_equals
    (behind_equals_meets x).steady s e h)
    (at_byte x what.Comparison what.Comparison 61 refl refl)
    (first_if x here what.Comparison (λ b. b == 33) (λ s. not_equal (behind (skip s))) _
    (λ s e h. passed_far x here what.Comparison (λ b. b == 33) refl not_equal (not_equal_meets x).steady s e h)
    (exclamation_begins x what.Comparison refl)
    (first_if x here what.Comparison (λ b. b == 60)
    (λ s. predicates.maybe_equal comparison.Less comparison.AtMost (behind (skip s))) _
    (λ s e h. passed_far x here what.Comparison (λ b. b == 60) refl
    (predicates.maybe_equal comparison.Less comparison.AtMost)
    (maybe_equal_meets x comparison.Less comparison.AtMost).steady s e h)
    (at_byte x what.Comparison what.Comparison 60 refl refl)
    (first_if x here what.Comparison (λ b. b == 62)
    (λ s. predicates.maybe_equal comparison.Greater comparison.AtLeast (behind (skip s)))
    (λ s. Err (unexpected_fault what.Comparison (skip s)))
    (λ s e h. passed_far x here what.Comparison (λ b. b == 62) refl
    (predicates.maybe_equal comparison.Greater comparison.AtLeast)
    (maybe_equal_meets x comparison.Greater comparison.AtLeast).steady s e h)
    (at_byte x what.Comparison what.Comparison 62 refl refl) (first_unexpected x here what.Comparison))))

comparison_before : (x : Spot) → Before x next here NoMore predicates.comparison_kind
unfolding predicates.comparison_kind
comparison_before x =
    before_if x here NoMore (λ b. b == 61) (λ s. predicates.behind_equals (behind (skip s))) _
    (before_behind_skip x here NoMore predicates.behind_equals (behind_equals_meets x))
    (before_if x here NoMore (λ b. b == 33) (λ s. not_equal (behind (skip s))) _
    (before_behind_skip x here NoMore not_equal (not_equal_meets x))
    (before_if x here NoMore (λ b. b == 60)
    (λ s. predicates.maybe_equal comparison.Less comparison.AtMost (behind (skip s))) _
    (before_behind_skip x here NoMore (predicates.maybe_equal comparison.Less comparison.AtMost)
    (maybe_equal_meets x comparison.Less comparison.AtMost))
    (before_if x here NoMore (λ b. b == 62)
    (λ s. predicates.maybe_equal comparison.Greater comparison.AtLeast (behind (skip s)))
    (λ s. Err (unexpected_fault what.Comparison (skip s)))
    (before_behind_skip x here NoMore (predicates.maybe_equal comparison.Greater comparison.AtLeast)
    (maybe_equal_meets x comparison.Greater comparison.AtLeast))
    (before_skip x here NoMore (λ t. Err (unexpected_fault what.Comparison t))
    (before_unexpected x here NoMore what.Comparison)))))

comparison_meets : (x : Spot) → Meets x next here NoMore predicates.comparison_kind
comparison_meets x = meets_of x next here NoMore what.Comparison predicates.comparison_kind (comparison_first x)
    (comparison_before x)

-- literals
truth_before : (x : Spot) (c : ℕ) (cs : List ℕ) (truth : Bool) → all_solid (c ∷ cs) ≡ true →
    Before x next here NoMore (λ s. exact what.Truth (c ∷ cs) (skip s) >>= λ r. Ok (field.Bool truth, r))
truth_before x c cs truth h =
    let read = λ (t : Rest). exact what.Truth (c ∷ cs) t >>= λ r. Ok (field.Bool truth, r) in
    before_skip x here NoMore read
    (before_of x here here NoMore read
    (meets_behind_pass x here here here NoMore (exact what.Truth (c ∷ cs)) (λ r. Ok (field.Bool truth, r))
    (meets_exact x what.Truth (c ∷ cs) h) (meets_ok x here NoMore (field.Bool truth))))

true_begins : (x : Spot) → (x.byte == 116) ≡ true → Begun x what.Text
true_begins x h = either (first_of x.more == 114) refl
  where
    either : (t : Bool) → (first_of x.more == 114) ≡ t → Begun x what.Text
    either true e = at_byte x what.Text what.Truth 116 (ap (λ t. if t then what.Truth else what.Operation) e) refl h
    either false e =
        at_byte x what.Text what.Operation 116 (ap (λ t. if t then what.Truth else what.Operation) e) refl h

value_first : (x : Spot) → First x next here what.Text predicates.literal_value
unfolding predicates.literal_value
value_first x =
    let yes : Rest → Outcome FieldValue = λ r. Ok (field.Bool true, r) in
    let no : Rest → Outcome FieldValue = λ r. Ok (field.Bool false, r) in
    first_if x here what.Text (λ b. b == 34) (λ s. map_outcome (λ y. field.Text y) (reading.text (behind (skip s)))) _
    (λ s e h. passed_far x here what.Text (λ b. b == 34) refl (λ r. map_outcome (λ y. field.Text y) (reading.text r))
    (steady_map here here (λ y. field.Text y) reading.text text_steady) s e h)
    (quote_begins x what.Text refl)
    (first_if x here what.Text (λ b. b == 116) (λ s. exact what.Truth (codes "true") (skip s) >>= yes) _
    (λ s e h. keyword_far x here what.Text what.Truth 116 (codes "rue") yes refl (steady_ok here (field.Bool true)) s e
    h)
    (true_begins x)
    (first_if_or x here what.Text (λ b. b == 102) (λ s. exact what.Truth (codes "false") (skip s) >>= no) _
    (λ s e h. keyword_far x here what.Text what.Truth 102 (codes "alse") no refl (steady_ok here (field.Bool false)) s
    e h)
    (second_or x what.Text 102 (codes "alse") (λ t. exact what.Truth (codes "false") t >>= no)
    (exact_fails what.Truth 102 (codes "alse") no) (at_bytes x what.Text what.Truth 102 97 refl refl))
    (first_if x here what.Text (λ b. b == 45 || is_digit b)
    (λ s. map_outcome (λ z. field.Int z) (reading.signed_reading s))
    (λ s. Err (unexpected_fault what.Text (skip s)))
    (λ s e h. map_first x here what.Text (λ z. field.Int z) (reading.signed_reading s) (signed_far x what.Text s e h))
    (minus_or_digit x what.Text refl refl) (first_unexpected x here what.Text))))

value_before : (x : Spot) → Before x next here NoMore predicates.literal_value
unfolding predicates.literal_value
value_before x =
    before_if x here NoMore (λ b. b == 34) (λ s. map_outcome (λ y. field.Text y) (reading.text (behind (skip s)))) _
    (before_behind_skip x here NoMore (λ s. map_outcome (λ y. field.Text y) (reading.text s))
    (meets_map x here here NoMore NoMore (λ y. field.Text y) reading.text (λ y h. h) (meets_text x)))
    (before_if x here NoMore (λ b. b == 116) _ _ (truth_before x 116 (codes "rue") true refl)
    (before_if x here NoMore (λ b. b == 102) _ _ (truth_before x 102 (codes "alse") false refl)
    (before_if x here NoMore (λ b. b == 45 || is_digit b)
    (λ s. map_outcome (λ z. field.Int z) (reading.signed_reading s))
    (λ s. Err (unexpected_fault what.Text (skip s)))
    (before_map x next here (λ z. field.Int z) reading.signed_reading (before_signed x))
    (before_skip x here NoMore (λ t. Err (unexpected_fault what.Text t)) (before_unexpected x here NoMore what.Text)))))

abbrev like : Name → ℕ → Rest → Outcome PredicateTree
like column n q = map_outcome (λ ps. Like column (record { at = n; pieces = ps })) (reading.pattern q)

like_meets : (x : Spot) (column : Name) (n : ℕ) → Meets x here here NoMore (like column n)
like_meets x column n = meets_map x here here NoMore NoMore (λ ps. Like column (record { at = n; pieces = ps }))
    reading.pattern (λ y h. h) (meets_pattern x)

compares_how_meets : (x : Spot) (column : Name) (how : Compared) →
    Meets x next here NoMore (λ r. predicates.compares_how column (how, r))
compares_how_meets x column (WithValue how) =
    let read = λ (n : ℕ) (s : Rest). map_outcome (λ v. Compare column how (record { at = n; value = v }))
    (predicates.literal_value s) in
    meets_of x next here NoMore what.Text (λ r. predicates.compares_how column (WithValue how, r))
    (first_next x here what.Text read (λ n. first_bind x next here here what.Text predicates.literal_value _
    (value_first x) (λ v. steady_ok here (Compare column how (record { at = n; value = v })))))
    (before_next x here NoMore read
    (λ n. before_map x next here (λ v. Compare column how (record { at = n; value = v })) predicates.literal_value
    (value_before x)))
compares_how_meets x column WithPattern =
    let read = λ (n : ℕ) (s : Rest). sign 34 what.Text s >>= like column n in
    meets_of x next here NoMore what.Text (λ r. predicates.compares_how column (WithPattern, r))
    (first_next x here what.Text read (λ n. first_behind_pass x next here here what.Text (sign 34 what.Text)
    (like column n) (first_sign x 34 what.Text refl (quote_begins x what.Text refl)) (like_meets x column n).steady))
    (before_next x here NoMore read
    (λ n. before_behind_pass x next here here NoMore (sign 34 what.Text) (like column n) (before_sign x 34 what.Text)
    (like_meets x column n)))

-- a condition
abbrev compared : Name × Rest → Outcome PredicateTree
compared y = predicates.comparison_kind y.1 >>= predicates.compares_how y.0

compared_meets : (x : Spot) (column : Name) → Meets x next here NoMore (λ r. compared (column, r))
compared_meets x column =
    meets_then x next next here NoMore predicates.comparison_kind (predicates.compares_how column)
    (meets_to x next NoMore predicates.comparison_kind (comparison_meets x)) (compares_how_meets x column)

pub condition_meets : (x : Spot) → Meets x here here NoMore predicates.condition
unfolding predicates.condition
condition_meets x = meets_then x here next here NoMore (λ t. Ok (word_here t)) compared
    (meets_to x here NoMore (λ t. Ok (word_here t)) (meets_word x)) (compared_meets x)

pub condition_far : (x : Spot) (s : Rest) → next s ≡ x.at → is_letter (head (skip s)) ≡ true →
    FirstOutcome x here what.Name (predicates.condition (skip s))
unfolding predicates.condition
condition_far x s e h = first_word x here compared what.Name
    (λ a. steady_from here (λ r. compared (a, r)) (compared_meets x a).steady) s e h
