-- A predicate that is read is one of the grammar.
use Rattle.std.proofs.Common.{◌≡◌, ℕ, ℤ, zero, suc, ◌-◌, Bool, true, false, ◌==◌, ◌||◌, List, [], ◌∷◌, codes, refl, ap}
use Rattle.std.proofs.Common.{◌∙◌, cond, if◌then◌else◌, Option, Some, None, option_and_then, Ok, Err, IfSome, arith}
use Rattle.std.specs.Result.{IfOk}
use Rattle.mon_value.specs.declared.values.FieldValue.{FieldValue}
use Rattle.mon_value.specs.declared.values.FieldValue.TheVariants as field
use Rattle.mql_ast.specs.declared.names.Name.{Name}
use Rattle.mql_ast.specs.declared.predicates.Comparison.{Comparison}
use Rattle.mql_ast.specs.declared.predicates.Comparison.TheVariants as comparison
use Rattle.mql_ast.specs.Trees as tree
use Rattle.mql_ast.specs.Trees.{PredicateTree}
use Rattle.mql_ast.specs.Tokens.{is_letter, is_digit, Rest, head, behind, skip, sign_at, keyword_at, past, name_at}
use Rattle.mql_ast.specs.Tokens.{signed_at, word_here}
use Rattle.mql_ast.specs.Quotes as quotes
use Rattle.mql_ast.specs.Quotes.{text_at, pattern_at, Whole, Plain}
use Rattle.mql_ast.specs.Grammar.{comparison_at, and_equal, or_equal, literal_at, Disjunction, one_conjunction, or}
use Rattle.mql_ast.specs.Grammar.{Conjunction, one_negation, and, Negation, not, in_parentheses, compare, like}
use Rattle.mql_parse.specs.declared.faults.ParseKind.TheVariants.{TooDeep}
use Rattle.mql_parse.specs.declared.faults.What.{What}
use Rattle.mql_parse.specs.declared.faults.What.TheVariants as what
use Rattle.mql_parse.specs.Outcomes.{Outcome, fault, sign, exact, map_outcome, up_to_sign, unexpected_fault}
use Rattle.mql_parse.specs.Repeats.{Done, Stuck, goes_on}
use Rattle.mql_parse.specs.TokenReading as reading
use Rattle.mql_parse.specs.PredicateReading as predicates
use Rattle.mql_parse.specs.PredicateReading.{Compared, WithValue, WithPattern, Opposite, Group}
use Rattle.mql_parse.specs.Behind.{Behind}
use Rattle.mql_parse.specs.Soundness.{OfTurn}
use Rattle.mql_parse.proofs.BehindLemmas.{from_behind, behind_from, behind_behind, sign_behind, word_behind}
use Rattle.mql_parse.proofs.BehindLemmas.{name_behind, skip_from, one_from, tested_behind}
use Rattle.mql_parse.proofs.Within.{some_given, signed_within, text_within, pattern_within, some_test}
use Rattle.mql_parse.proofs.Links.{text_from_links, pattern_from_links}
use Rattle.mql_parse.proofs.Sound.{if_sound, bind_sound, linked, sign_sound, exact_sound, signed_sound, sign_here}
use Rattle.mql_parse.proofs.Sound.{changed_sound, repeated_sound, if_turn}
use Rattle.mql_parse.proofs.SumSound.{name_here}
use Rattle.mql_parse.proofs.ByteLemmas.{if_true, if_false}

-- how a condition compares
abbrev ComparesAt : Rest → Compared × Rest → Type 0
ComparesAt s (WithValue how, r) = comparison_at s ≡ Some (how, r)
ComparesAt s (WithPattern, r) = keyword_at (codes "=~") s ≡ Some r

maybe_sound : (s : Rest) (without with : Comparison) (m : Rest) → comparison_at s ≡ or_equal without with m →
    IfOk (predicates.maybe_equal without with m) (ComparesAt s)
maybe_sound s without with m e =
    if_sound (head m == 61) _ _ (ComparesAt s) (λ h. e ∙ if_true (head m == 61) _ _ h)
    (λ h. e ∙ if_false (head m == 61) _ _ h)

abbrev with_rest : Rest → Option (Comparison × Rest)
with_rest r = Some (comparison.NotEqual, r)

pub compared_sound : (s : Rest) → IfOk (predicates.comparison_kind s) (ComparesAt s)
unfolding predicates.comparison_kind
compared_sound s =
    let t = skip s in
    let b = head t in
    let m = behind t in
    if_sound (b == 61) _ _ (ComparesAt s)
    (λ h. if_sound (head m == 61) _ _ (ComparesAt s) (λ g. if_true (b == 61) _ _ h ∙ if_true (head m == 61) _ _ g)
    (λ g. if_sound (head m == 126) _ _ (ComparesAt s) (λ f. if_true (b == 61) _ _ h ∙ if_true (head m == 126) _ _ f)
    (λ f. tt)))
    (λ h. if_sound (b == 33) _ _ (ComparesAt s)
    (λ g. bind_sound (exact what.Comparison (codes "=") m) _ (λ r. past (codes "=") m ≡ Some r) (ComparesAt s)
    (exact_sound what.Comparison (codes "=") m)
    (λ r e. if_false (b == 61) _ _ h ∙ if_true (b == 33) _ _ g ∙ not_equal m r e))
    (λ g. if_sound (b == 60) _ _ (ComparesAt s) (λ f. maybe_sound s comparison.Less comparison.AtMost m
    (if_false (b == 61) _ _ h ∙ if_false (b == 33) _ _ g ∙ if_true (b == 60) _ _ f))
    (λ f. if_sound (b == 62) _ _ (ComparesAt s) (λ e. maybe_sound s comparison.Greater comparison.AtLeast m
    (if_false (b == 61) _ _ h ∙ if_false (b == 33) _ _ g ∙ if_false (b == 60) _ _ f ∙ if_true (b == 62) _ _ e))
    (λ e. tt))))
  where
    not_equal : (m r : Rest) → past (codes "=") m ≡ Some r → and_equal comparison.NotEqual m ≡ Some
        (comparison.NotEqual, r)
    not_equal m r e = either (head m == 61) e
      where
        either : (t : Bool) → cond {A = Option Rest} t (Some (behind m)) None ≡ Some r →
            cond {A = Option (Comparison × Rest)} t (Some (comparison.NotEqual, behind m)) None ≡ Some
            (comparison.NotEqual, r)
        either true e = let same : behind m ≡ r = cc in ap with_rest same
        either false e = absurd (cc)

text_here : (s : Rest) → (head (skip s) == 34) ≡ true → IfOk (reading.text (behind (skip s))) (λ x. text_at s ≡ Some x)
unfolding reading.text
text_here s h = linked (text_at s) (reading.text_from Whole [] (behind (skip s)).at (behind (skip s)).bytes)
    (ap (λ o. option_and_then (λ q. quotes.text_from Whole [] q.at q.bytes) o) (sign_here 34 s h)
    ∙ text_from_links Whole [] (behind (skip s)).at (behind (skip s)).bytes)

pub value_sound : (s : Rest) → IfOk (predicates.literal_value s) (λ x. literal_at s ≡ Some x)
unfolding predicates.literal_value
value_sound s =
    let t = skip s in
    let b = head t in
    let P : FieldValue × Rest → Type 0 = λ x. literal_at s ≡ Some x in
    if_sound (b == 34) _ _ P
    (λ h. changed_sound (λ x. field.Text x) (reading.text (behind t)) (λ x. text_at s ≡ Some x) P (text_here s h)
    (λ x e. if_true (b == 34) _ _ h ∙ ap (option_and_then (λ y. Some (field.Text y.0, y.1))) e))
    (λ h. if_sound (b == 116) _ _ P
    (λ g. bind_sound (exact what.Truth (codes "true") t) _ (λ r. past (codes "true") t ≡ Some r) P
    (exact_sound what.Truth (codes "true") t) (λ r e. if_false (b == 34) _ _ h ∙ if_true (b == 116) _ _ g
    ∙ ap (option_and_then (λ y. Some (field.Bool true, y))) e))
    (λ g. if_sound (b == 102) _ _ P
    (λ f. bind_sound (exact what.Truth (codes "false") t) _ (λ r. past (codes "false") t ≡ Some r) P
    (exact_sound what.Truth (codes "false") t) (λ r e. if_false (b == 34) _ _ h ∙ if_false (b == 116) _ _ g
    ∙ if_true (b == 102) _ _ f ∙ ap (option_and_then (λ y. Some (field.Bool false, y))) e))
    (λ f. if_sound (b == 45 || is_digit b) _ _ P
    (λ d. changed_sound (λ z. field.Int z) (reading.signed_reading s) (λ x. signed_at s ≡ Some x) P (signed_sound s)
    (λ x e. if_false (b == 34) _ _ h ∙ if_false (b == 116) _ _ g ∙ if_false (b == 102) _ _ f
    ∙ if_true (b == 45 || is_digit b) _ _ d ∙ ap (option_and_then (λ y. Some (field.Int y.0, y.1))) e))
    (λ d. tt))))

-- what is left behind a comparison and a value
abbrev Later : {A : Type 0} → Rest → A × Rest → Type 0
Later s x = Behind s x.1

equal_within : (s m : Rest) (without with : Comparison) → Behind s m → IfSome (or_equal without with m) (Later s)
equal_within s m without with f = either (head m == 61)
  where
    either : (t : Bool) → IfSome (cond {A = Option (Comparison × Rest)} t (Some (with, behind m)) (Some (without, m)))
        (Later s)
    either true = behind_from s m (behind m) f (one_from m)
    either false = f

and_equal_within : (s m : Rest) (with : Comparison) → Behind s m → IfSome (and_equal with m) (Later s)
and_equal_within s m with f = either (head m == 61)
  where
    either : (t : Bool) → IfSome (cond {A = Option (Comparison × Rest)} t (Some (with, behind m)) None) (Later s)
    either true = behind_from s m (behind m) f (one_from m)
    either false = tt

comparison_within : (s : Rest) → IfSome (comparison_at s) (Later s)
comparison_within s =
    let t = skip s in
    let b = head t in
    let on : (c : ℕ) → (0 == c) ≡ false → (b == c) ≡ true → Behind s (behind t) =
    λ c z h. from_behind s t (behind t) (skip_from s) (tested_behind (λ x. x == c) z t h) in
    some_test (b == 61) _ _ (Later s) (λ h. and_equal_within s (behind t) comparison.Equal (on 61 refl h))
    (λ _. some_test (b == 33) _ _ (Later s) (λ h. and_equal_within s (behind t) comparison.NotEqual (on 33 refl h))
    (λ _. some_test (b == 60) _ _ (Later s) (λ h. equal_within s (behind t) comparison.Less comparison.AtMost
    (on 60 refl h))
    (λ _. some_test (b == 62) _ None (Later s) (λ h. equal_within s (behind t) comparison.Greater comparison.AtLeast
    (on 62 refl h)) (λ _. tt))))

some_mapped : {A B : Type 0} (f : A → B) (o : Option A) (P : B → Type 0) → ((x : A) → o ≡ Some x → P (f x)) →
    IfSome (option_and_then (λ x. Some (f x)) o) P
some_mapped f None P h = tt
some_mapped f (Some x) P h = h x refl

value_within : (s : Rest) → IfSome (literal_at s) (Later s)
value_within s =
    let b = head (skip s) in
    some_test (b == 34) _ _ (Later s) (λ _. some_mapped (λ (x : List ℕ × Rest). (field.Text x.0, x.1)) (text_at s)
    (Later s) (λ x e. some_given (text_at s) (Later s) x (text_within s) e))
    (λ _. some_test (b == 116) _ _ (Later s) (λ _. some_mapped (λ (r : Rest). (field.Bool true, r))
    (keyword_at (codes "true") s) (Later s) (λ r e. word_behind 116 (codes "rue") refl s r e))
    (λ _. some_test (b == 102) _ _ (Later s) (λ _. some_mapped (λ (r : Rest). (field.Bool false, r))
    (keyword_at (codes "false") s) (Later s) (λ r e. word_behind 102 (codes "alse") refl s r e))
    (λ _. some_test (b == 45 || is_digit b) _ None (Later s)
    (λ _. some_mapped (λ (x : ℤ × Rest). (field.Int x.0, x.1)) (signed_at s) (Later s)
    (λ x e. some_given (signed_at s) (Later s) x (signed_within s) e)) (λ _. tt))))

mutual
  pub disjunction_behind : {d : ℕ} {s r : Rest} {p : PredicateTree} → Disjunction d s r p → Behind s r
  disjunction_behind (one_conjunction c) = conjunction_behind c
  disjunction_behind {s = s} {r = r} (or {m = m} {k = k} l e c) =
      behind_behind s m r (disjunction_behind l) (behind_behind m k r (word_behind 124 (codes "|") refl m k e)
      (conjunction_behind c))

  pub conjunction_behind : {d : ℕ} {s r : Rest} {p : PredicateTree} → Conjunction d s r p → Behind s r
  conjunction_behind (one_negation n) = negation_behind n
  conjunction_behind {s = s} {r = r} (and {m = m} {k = k} l e n) =
      behind_behind s m r (conjunction_behind l) (behind_behind m k r (word_behind 38 (codes "&") refl m k e)
      (negation_behind n))

  pub negation_behind : {d : ℕ} {s r : Rest} {p : PredicateTree} → Negation d s r p → Behind s r
  negation_behind {s = s} {r = r} (not {m = m} e n) =
      behind_behind s m r (sign_behind 33 refl s m e) (negation_behind n)
  negation_behind {s = s} {r = r} (in_parentheses {m = m} {k = k} e p f) =
      behind_behind s m r (sign_behind 40 refl s m e)
      (behind_behind m k r (disjunction_behind p) (sign_behind 41 refl k r f))
  negation_behind {s = s} {r = r} (compare {m = m} {k = k} {n = n} {c = c} {v = v} e f g) =
      behind_behind s m r (name_behind s m n e)
      (behind_behind m k r (some_given (comparison_at m) (Later m) (c, k) (comparison_within m) f)
      (some_given (literal_at k) (Later k) (v, r) (value_within k) g))
  negation_behind {s = s} {r = r} (like {m = m} {k = k} {n = n} {ps = ps} e f g) =
      behind_behind s m r (name_behind s m n e) (behind_behind m k r (word_behind 61 (codes "~") refl m k f)
      (some_given (pattern_at k) (Later k) (ps, r) (pattern_within k) g))

abbrev pub IsNegation : ℕ → Rest → PredicateTree × Rest → Type 0
IsNegation d s x = Negation d s x.1 x.0

abbrev pub IsConjunction : ℕ → Rest → PredicateTree × Rest → Type 0
IsConjunction d s x = Conjunction d s x.1 x.0

abbrev pub IsDisjunction : ℕ → Rest → PredicateTree × Rest → Type 0
IsDisjunction d s x = Disjunction d s x.1 x.0

pattern_here : (k q : Rest) → sign_at 34 k ≡ Some q → IfOk (reading.pattern q) (λ x. pattern_at k ≡ Some x)
unfolding reading.pattern
pattern_here k q e = linked (pattern_at k) (reading.pattern_from Whole Plain [] [] q.at q.bytes)
    (ap (λ o. option_and_then (λ (p : Rest). quotes.pattern_from Whole Plain [] [] p.at p.bytes) o) e
    ∙ pattern_from_links Whole Plain [] [] q.at q.bytes)

condition_sound : (d : ℕ) (s : Rest) → is_letter (head (skip s)) ≡ true → IfOk (predicates.condition (skip s))
    (IsNegation d s)
unfolding predicates.condition
condition_sound d s h =
    let word = word_here (skip s) in
    bind_sound (predicates.comparison_kind word.1) (predicates.compares_how word.0) (ComparesAt word.1)
    (IsNegation d s) (compared_sound word.1) (behind_how word.0 word.1 (name_here s h))
  where
    behind_how : (n : Name) (m : Rest) → name_at s ≡ Some (n, m) → (x : Compared × Rest) → ComparesAt m x →
        IfOk (predicates.compares_how n x) (IsNegation d s)
    behind_how n m e (WithValue how, k) f =
        changed_sound _ (predicates.literal_value k) (λ x. literal_at k ≡ Some x) (IsNegation d s) (value_sound k)
        (λ x g. compare e f g)
    behind_how n m e (WithPattern, k) f =
        bind_sound (sign 34 what.Text k) _ (λ q. sign_at 34 k ≡ Some q) (IsNegation d s) (sign_sound 34 what.Text k)
        (λ q i. changed_sound _ (reading.pattern q) (λ x. pattern_at k ≡ Some x) (IsNegation d s)
        (pattern_here k q i) (λ x g. like e f g))

-- a sign that is written twice
pub doubled_here : (b : ℕ) (s : Rest) → (head (skip s) == b) ≡ true → (head (behind (skip s)) == b) ≡ true →
    keyword_at (b ∷ b ∷ []) s ≡ Some (behind (behind (skip s)))
doubled_here b s h g = if_true (head (skip s) == b) _ _ h ∙ if_true (head (behind (skip s)) == b) _ _ g

doubled_sound : (b : ℕ) → (0 == b) ≡ false → (w : What) (join : PredicateTree → PredicateTree → PredicateTree)
    (part : Rest → Outcome PredicateTree) (ends on : PredicateTree → Rest → Type 0) (l : PredicateTree) (m : Rest) →
    ends l m →
    ((k : Rest) → keyword_at (b ∷ b ∷ []) m ≡ Some k → OfTurn (goes_on (join l) (part k)) ends on) →
    OfTurn (predicates.double_turn b w join part l m) ends on
doubled_sound b z w join part ends on l m done go =
    let t = skip m in
    if_turn (head t == b) _ (Done l m) ends on
    (λ h. if_turn (head (behind t) == b) _ (Stuck (unexpected_fault w (behind t))) ends on
    (λ g. go (behind (behind t)) (doubled_here b m h g)) (λ g. tt))
    (λ h. done)

pub part_goes_on : (f : PredicateTree → PredicateTree) (o : Outcome PredicateTree) (P : PredicateTree × Rest → Type 0)
    (ends on : PredicateTree → Rest → Type 0) → IfOk o P → ((x : PredicateTree × Rest) → P x → on (f x.0) x.1) →
    OfTurn (goes_on f o) ends on
part_goes_on f (Ok x) P ends on h g = g x h
part_goes_on f (Err e) P ends on h g = tt

module _ (d : ℕ) (negation : Rest → Outcome PredicateTree) (negated : (s : Rest) → IfOk (negation s) (IsNegation d s))
  where
    and_turn_sound : (s : Rest) (l : PredicateTree) (m : Rest) → Conjunction d s m l →
        OfTurn (predicates.and_turn negation l m) (λ a r. Conjunction d s r a) (λ a r. Conjunction d s r a × Behind m r)
    unfolding predicates.and_turn
    and_turn_sound s l m c = doubled_sound 38 refl what.And tree.And negation _ _ l m c
        (λ k e. part_goes_on (tree.And l) (negation k) (IsNegation d k) _ _ (negated k)
        (λ x n. (and c e n, behind_behind m k x.1 (word_behind 38 (codes "&") refl m k e) (negation_behind n))))

    conjunction_sound_with : (s : Rest) → IfOk (predicates.conjunction_with negation s) (IsConjunction d s)
    unfolding predicates.conjunction_with
    conjunction_sound_with s = bind_sound (negation s) _ (IsNegation d s) (IsConjunction d s) (negated s)
        (λ first n. repeated_sound (predicates.and_turn negation) (λ a r. Conjunction d s r a)
        (λ a r. Conjunction d s r a) (and_turn_sound s) first.0 first.1 (one_negation n))

    or_turn_sound : (s : Rest) (l : PredicateTree) (m : Rest) → Disjunction d s m l →
        OfTurn (predicates.or_turn (predicates.conjunction_with negation) l m) (λ a r. Disjunction d s r a)
        (λ a r. Disjunction d s r a × Behind m r)
    unfolding predicates.or_turn
    or_turn_sound s l m c = doubled_sound 124 refl what.Or tree.Or (predicates.conjunction_with negation) _ _ l m c
        (λ k e. part_goes_on (tree.Or l) (predicates.conjunction_with negation k) (IsConjunction d k) _ _
        (conjunction_sound_with k)
        (λ x n. (or c e n, behind_behind m k x.1 (word_behind 124 (codes "|") refl m k e) (conjunction_behind n))))

    disjunction_sound_with : (s : Rest) → IfOk (predicates.disjunction_with negation s) (IsDisjunction d s)
    unfolding predicates.disjunction_with
    disjunction_sound_with s =
        bind_sound (predicates.conjunction_with negation s) _ (IsConjunction d s) (IsDisjunction d s)
        (conjunction_sound_with s)
        (λ first n. repeated_sound (predicates.or_turn (predicates.conjunction_with negation))
        (λ a r. Disjunction d s r a) (λ a r. Disjunction d s r a) (or_turn_sound s) first.0 first.1
        (one_conjunction n))

module _ (d : ℕ) (opposite group : Rest → Rest → Outcome PredicateTree)
    (opposed : (s m : Rest) → sign_at 33 s ≡ Some m → IfOk (opposite (skip s) m) (IsNegation d s))
    (grouped : (s m : Rest) → sign_at 40 s ≡ Some m → IfOk (group (skip s) m) (IsNegation d s)) where
  negation_sound_with : (s : Rest) → IfOk (predicates.negation_with opposite group s) (IsNegation d s)
  unfolding predicates.negation_with
  negation_sound_with s =
      let b = head (skip s) in
      if_sound (b == 33) _ _ (IsNegation d s) (λ h. opposed s (behind (skip s)) (sign_here 33 s h))
      (λ _. if_sound (b == 40) _ _ (IsNegation d s) (λ h. grouped s (behind (skip s)) (sign_here 40 s h))
      (λ _. if_sound (is_letter b) _ _ (IsNegation d s) (λ h. condition_sound d s h) (λ _. tt)))

abbrev sign_of : predicates.Deeper → ℕ
sign_of Opposite = 33
sign_of Group = 40

deeper_sound : (d : ℕ) (way : predicates.Deeper) (s m : Rest) → sign_at (sign_of way) s ≡ Some m →
    IfOk (predicates.deeper d way (skip s) m) (IsNegation d s)
unfolding predicates.deeper
deeper_sound zero way s m e = tt
deeper_sound (suc d) way s m e =
    by_way way e (negation_sound_with d (predicates.deeper d Opposite) (predicates.deeper d Group)
    (deeper_sound d Opposite) (deeper_sound d Group))
  where
    by_way : (way : predicates.Deeper) → sign_at (sign_of way) s ≡ Some m →
        ((r : Rest) → IfOk (predicates.negation d r) (IsNegation d r)) →
        IfOk (predicates.deeper_with (predicates.negation d) way m) (IsNegation (suc d) s)
    by_way Opposite e h =
        changed_sound tree.Not (predicates.negation d m) (IsNegation d m) (IsNegation (suc d) s) (h m) (λ x n. not e n)
    by_way Group e h =
        bind_sound (predicates.disjunction_with (predicates.negation d) m) _ (IsDisjunction d m)
        (IsNegation (suc d) s) (disjunction_sound_with d (predicates.negation d) h m)
        (λ x p. bind_sound (sign 41 what.CloseParenthesis x.1) _ (λ r. sign_at 41 x.1 ≡ Some r) (IsNegation (suc d) s)
        (sign_sound 41 what.CloseParenthesis x.1) (λ r f. in_parentheses e p f))

pub negation_sound : (d : ℕ) (s : Rest) → IfOk (predicates.negation d s) (IsNegation d s)
negation_sound d =
    negation_sound_with d (predicates.deeper d Opposite) (predicates.deeper d Group) (deeper_sound d Opposite)
    (deeper_sound d Group)

pub conjunction_sound : (d : ℕ) (s : Rest) → IfOk (predicates.conjunction d s) (IsConjunction d s)
conjunction_sound d = conjunction_sound_with d (predicates.negation d) (negation_sound d)

-- each turn that goes on leaves less
pub and_turn_behind : (d : ℕ) (l : PredicateTree) (m : Rest) →
    OfTurn (predicates.and_turn (predicates.negation d) l m) (λ a r. Unit {0}) (λ a r. Behind m r)
unfolding predicates.and_turn
and_turn_behind d l m = doubled_sound 38 refl what.And tree.And (predicates.negation d) _ _ l m tt
    (λ k e. part_goes_on (tree.And l) (predicates.negation d k) (IsNegation d k) _ _ (negation_sound d k)
    (λ x n. behind_behind m k x.1 (word_behind 38 (codes "&") refl m k e) (negation_behind n)))

pub or_turn_behind : (d : ℕ) (l : PredicateTree) (m : Rest) →
    OfTurn (predicates.or_turn (predicates.conjunction d) l m) (λ a r. Unit {0}) (λ a r. Behind m r)
unfolding predicates.or_turn
or_turn_behind d l m = doubled_sound 124 refl what.Or tree.Or (predicates.conjunction d) _ _ l m tt
    (λ k e. part_goes_on (tree.Or l) (predicates.conjunction d k) (IsConjunction d k) _ _ (conjunction_sound d k)
    (λ x n. behind_behind m k x.1 (word_behind 124 (codes "|") refl m k e) (conjunction_behind n)))

-- a level deeper
pub opposite_deeper : (d : ℕ) (here s : Rest) → (d ≡ 0 → ⊥) → predicates.deeper d Opposite here s ≡ map_outcome
    tree.Not (predicates.negation (d - 1) s)
unfolding predicates.deeper
opposite_deeper zero here s h = absurd (h refl)
opposite_deeper (suc d) here s h = ap (λ n. map_outcome tree.Not (predicates.negation n s)) (omega arith)

pub group_deeper : (d : ℕ) (here s : Rest) → (d ≡ 0 → ⊥) →
    predicates.deeper d Group here s ≡ up_to_sign 41 what.CloseParenthesis (predicates.disjunction (d - 1) s)
unfolding predicates.deeper
group_deeper zero here s h = absurd (h refl)
group_deeper (suc d) here s h = ap (λ n. up_to_sign 41 what.CloseParenthesis (predicates.disjunction n s)) (omega arith)

pub too_deep : (d : ℕ) (way : predicates.Deeper) (here s : Rest) → d ≡ 0 → predicates.deeper d way here s ≡ Err
    (fault TooDeep here)
unfolding predicates.deeper
too_deep zero way here s h = refl
too_deep (suc d) way here s h = absurd (omega (arith, h))
