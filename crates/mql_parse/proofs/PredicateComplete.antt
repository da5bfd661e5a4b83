-- A predicate of the grammar is read as its tree.
use Rattle.std.proofs.Common.{◌≡◌, ℕ, suc, Bool, true, false, ◌==◌, ◌||◌, List, [], ◌∷◌, codes, refl, ap, ◌∙◌}
use Rattle.std.proofs.Common.{if◌then◌else◌, Option, Some, None, option_and_then, Result, Ok, Err}
use Rattle.std.specs.Result.{result_ok}
use Rattle.mon_value.specs.Answers.{◌>>=◌}
use Rattle.mon_value.specs.declared.values.FieldValue.{FieldValue}
use Rattle.mon_value.specs.declared.values.FieldValue.TheVariants as field
use Rattle.mql_ast.specs.declared.names.Name.{Name}
use Rattle.mql_ast.specs.declared.predicates.Comparison.{Comparison}
use Rattle.mql_ast.specs.declared.predicates.Comparison.TheVariants as comparison
use Rattle.mql_ast.specs.Trees as tree
use Rattle.mql_ast.specs.Trees.{PredicateTree}
use Rattle.mql_ast.specs.Tokens.{is_letter, is_digit, Rest, head, behind, skip, sign_at, keyword_at, name_at}
use Rattle.mql_ast.specs.Quotes as quotes
use Rattle.mql_ast.specs.Quotes.{pattern_at, Whole, Plain}
use Rattle.mql_ast.specs.Grammar.{comparison_at, and_equal, or_equal, literal_at, literal, Disjunction}
use Rattle.mql_ast.specs.Grammar.{one_conjunction}
use Rattle.mql_ast.specs.Grammar.{or, Conjunction, one_negation, and, Negation, not, in_parentheses, compare, like}
use Rattle.mql_parse.specs.declared.faults.ParseFault.{ParseFault}
use Rattle.mql_parse.specs.declared.faults.What.{What}
use Rattle.mql_parse.specs.declared.faults.What.TheVariants as what
use Rattle.mql_parse.specs.Outcomes.{Outcome, sign, exact, map_outcome, up_to_sign, unexpected_fault}
use Rattle.mql_parse.specs.Repeats.{Done, Again, goes_on, repetition}
use Rattle.mql_parse.specs.TokenReading as reading
use Rattle.mql_parse.specs.PredicateReading as predicates
use Rattle.mql_parse.specs.PredicateReading.{Compared, WithValue, WithPattern, Opposite, Group}
use Rattle.mql_parse.specs.Behind.{Behind}
use Rattle.mql_parse.proofs.BehindLemmas.{behind_behind, word_behind, sign_taken}
use Rattle.mql_parse.proofs.Links.{past_links, signed_links, text_from_links, pattern_from_links}
use Rattle.mql_parse.proofs.Sound.{sign_here, repeated_again}
use Rattle.mql_parse.proofs.PredicateSound.{negation_behind, conjunction_behind}
use Rattle.mql_parse.proofs.Complete.{read_of, bound, mapped, up_to_read, sign_read, ends_here, other_byte}
use Rattle.mql_parse.proofs.Complete.{not_that_byte, other_sign, first_past, and_then_given}
use Rattle.mql_parse.proofs.SumComplete.{name_taken}
use Rattle.mql_parse.proofs.ByteLemmas.{chosen, if_true, if_false}

-- where the grammar chooses, the reading chooses so
either_read : {A B : Type 0} (t : Bool) (o p : Option A) (r q : B) (x : A) (y : B) → (t ≡ true → o ≡ Some x → r ≡ y) →
    (t ≡ false → p ≡ Some x → q ≡ y) → (if t then o else p) ≡ Some x → (if t then r else q) ≡ y
either_read true o p r q x y f g e = f refl e
either_read false o p r q x y f g e = g refl e

-- a comparison with a value
compared_with : (x y : Comparison × Rest) → Some x ≡ Some y
    → predicates.value_comparison x ≡ predicates.value_comparison y
compared_with x y e = let same : x ≡ y = cc in ap predicates.value_comparison same

and_equal_read : (with how : Comparison) (m r : Rest) (other : Outcome Compared) → and_equal with m ≡ Some (how, r) →
    (if head m == 61 then Ok (WithValue with, behind m) else other) ≡ Ok (WithValue how, r)
and_equal_read with how m r other e =
    let t = chosen (head m == 61) (with, behind m) (how, r) e in
    if_true (head m == 61) (Ok (WithValue with, behind m)) other t.0 ∙ ap predicates.value_comparison t.1

abbrev unequal : Rest → Outcome Compared
unequal k = Ok (WithValue comparison.NotEqual, k)

not_equal_read : (how : Comparison) (m r : Rest) → and_equal comparison.NotEqual m ≡ Some (how, r) →
    (exact what.Comparison (codes "=") m >>= unequal) ≡ Ok (WithValue how, r)
not_equal_read how m r e =
    let t = chosen (head m == 61) (comparison.NotEqual, behind m) (how, r) e in
    bound (exact what.Comparison (codes "=") m) unequal (behind m) _ (if_true (head m == 61) _ _ t.0)
    (ap predicates.value_comparison t.1)

or_equal_read : (without with how : Comparison) (m r : Rest) → or_equal without with m ≡ Some (how, r) →
    predicates.maybe_equal without with m ≡ Ok (WithValue how, r)
or_equal_read without with how m r e =
    either_read (head m == 61) (Some (with, behind m)) (Some (without, m)) (Ok (WithValue with, behind m))
    (Ok (WithValue without, m)) (how, r) _
    (λ _ f. compared_with (with, behind m) (how, r) f) (λ _ f. compared_with (without, m) (how, r) f) e

comparison_read : (s r : Rest) (how : Comparison) → comparison_at s ≡ Some (how, r) →
    predicates.comparison_kind s ≡ Ok (WithValue how, r)
unfolding predicates.comparison_kind
comparison_read s r how e =
    let b = head (skip s) in
    let m = behind (skip s) in
    either_read (b == 61) _ _ _ _ (how, r) _ (λ _ f. and_equal_read comparison.Equal how m r _ f)
    (λ _ f. either_read (b == 33) _ _ _ _ (how, r) _ (λ _ g. not_equal_read how m r g)
    (λ _ g. either_read (b == 60) _ _ _ _ (how, r) _ (λ _ h. or_equal_read comparison.Less comparison.AtMost how m r h)
    (λ _ h. either_read (b == 62) _ None _ _ (how, r) _
    (λ _ i. or_equal_read comparison.Greater comparison.AtLeast how m r i) (λ _ i. absurd (cc)) h) g) f) e

-- a comparison with a pattern
abbrev as_pattern : Rest → Outcome Compared
as_pattern k = Ok (WithPattern, k)

likeness_read : (s r : Rest) → keyword_at (codes "=~") s ≡ Some r → predicates.comparison_kind s ≡ Ok (WithPattern, r)
unfolding predicates.comparison_kind
likeness_read s r e =
    let m = behind (skip s) in
    let b = first_past 61 (codes "~") (skip s) r e in
    let c = first_past 126 [] m r b.1 in
    if_true (head (skip s) == 61) _ _ b.0 ∙ if_false (head m == 61) _ _ (other_byte 61 126 (head m) refl c.0)
    ∙ if_true (head m == 126) _ _ c.0 ∙ with_pattern (behind m) r c.1
  where
    with_pattern : (k r : Rest) → Some k ≡ Some r → as_pattern k ≡ as_pattern r
    with_pattern k r f = let same : k ≡ r = cc in ap as_pattern same

-- a value
either_links : {A : Type 0} (t : Bool) (o p : Option A) (r q : Result A ParseFault) → (t ≡ true → o ≡ result_ok r) →
    (t ≡ false → p ≡ result_ok q) → (if t then o else p) ≡ result_ok (if t then r else q)
either_links true o p r q f g = f refl
either_links false o p r q f g = g refl

changed_links : {A B : Type 0} (f : A → B) (o : Option A) (r : Result A ParseFault) → o ≡ result_ok r →
    option_and_then (λ x. Some (f x)) o ≡ result_ok (r >>= λ x. Ok (f x))
changed_links f o (Ok x) e = ap (option_and_then (λ x. Some (f x))) e
changed_links f o (Err g) e = ap (option_and_then (λ x. Some (f x))) e

text_links : (s : Rest) → (head (skip s) == 34) ≡ true → quotes.text_at s ≡ result_ok (reading.text (behind (skip s)))
unfolding reading.text
text_links s h = ap (λ o. option_and_then (λ q. quotes.text_from Whole [] q.at q.bytes) o) (sign_here 34 s h)
    ∙ text_from_links Whole [] (behind (skip s)).at (behind (skip s)).bytes

value_links : (s : Rest) → literal_at s ≡ result_ok (predicates.literal_value s)
unfolding predicates.literal_value
value_links s =
    let b = head (skip s) in
    either_links (b == 34) _ _ _ _ (λ h. changed_links (λ x. (field.Text x.0, x.1)) (quotes.text_at s)
    (reading.text (behind (skip s))) (text_links s h))
    (λ _. either_links (b == 116) _ _ _ _ (λ _. changed_links (λ r. (field.Bool true, r)) (keyword_at (codes "true") s)
    (exact what.Truth (codes "true") (skip s)) (past_links what.Truth (codes "true") (skip s)))
    (λ _. either_links (b == 102) _ _ _ _
    (λ _. changed_links (λ r. (field.Bool false, r)) (keyword_at (codes "false") s)
    (exact what.Truth (codes "false") (skip s)) (past_links what.Truth (codes "false") (skip s)))
    (λ _. either_links (b == 45 || is_digit b) _ None _ (Err (unexpected_fault what.Text (skip s)))
    (λ _. changed_links (λ x. (field.Int x.0, x.1)) _ (reading.signed_reading s) (signed_links s)) (λ _. refl))))

value_read : (s r : Rest) (v : FieldValue) → literal_at s ≡ Some (v, r) → predicates.literal_value s ≡ Ok (v, r)
value_read s r v e = read_of (literal_at s) (predicates.literal_value s) (v, r) (value_links s) e

pattern_read : (s r : Rest) (ps : List (List ℕ)) → pattern_at s ≡ Some (ps, r) →
    (q : Rest) × ((sign_at 34 s ≡ Some q) × (reading.pattern q ≡ Ok (ps, r)))
unfolding reading.pattern
pattern_read s r ps e =
    let t = and_then_given (sign_at 34 s) _ (ps, r) e in (
      t.0,
      (
        t.1.0,
        read_of _ (reading.pattern_from Whole Plain [] [] t.0.at t.0.bytes) (ps, r)
            (pattern_from_links Whole Plain [] [] t.0.at t.0.bytes) t.1.1,
      ),
    )

-- conditions
named_condition : (opposite group : Rest → Rest → Outcome PredicateTree) (s m : Rest) (n : Name) →
    name_at s ≡ Some (n, m) →
    predicates.negation_with opposite group s ≡ (predicates.comparison_kind m >>= predicates.compares_how n)
unfolding predicates.negation_with predicates.condition
named_condition opposite group s m n e =
    let t = name_taken s m n e in
    let b = head (skip s) in
    if_false (b == 33) _ _ (not_that_byte is_letter 33 refl b t.0)
    ∙ if_false (b == 40) _ _ (not_that_byte is_letter 40 refl b t.0)
    ∙ if_true (is_letter b) _ _ t.0
    ∙ ap (λ x. predicates.comparison_kind x.1 >>= predicates.compares_how x.0) t.1

compare_read : (d : ℕ) (s m k r : Rest) (n : Name) (how : Comparison) (v : FieldValue) → name_at s ≡ Some (n, m) →
    comparison_at m ≡ Some (how, k) → literal_at k ≡ Some (v, r) →
    predicates.negation d s ≡ Ok (tree.Compare n how (literal k v), r)
compare_read d s m k r n how v e f g =
    named_condition (predicates.deeper d Opposite) (predicates.deeper d Group) s m n e
    ∙ bound (predicates.comparison_kind m) (predicates.compares_how n) (WithValue how, k) _ (comparison_read m k how f)
    (mapped (λ x. tree.Compare n how (literal k x)) (predicates.literal_value k) v r (value_read k r v g))

like_read : (d : ℕ) (s m k r : Rest) (n : Name) (ps : List (List ℕ)) → name_at s ≡ Some (n, m) →
    keyword_at (codes "=~") m ≡ Some k → pattern_at k ≡ Some (ps, r) →
    predicates.negation d s ≡ Ok (tree.Like n (predicates.pattern_of k ps), r)
like_read d s m k r n ps e f g =
    let t = pattern_read k r ps g in
    named_condition (predicates.deeper d Opposite) (predicates.deeper d Group) s m n e
    ∙ bound (predicates.comparison_kind m) (predicates.compares_how n) (WithPattern, k) _ (likeness_read m k f)
    (bound (sign 34 what.Text k) _ t.0 _ (sign_read 34 what.Text k t.0 t.1.0)
    (mapped (λ x. tree.Like n (predicates.pattern_of k x)) (reading.pattern t.0) ps r t.1.1))

-- a level deeper
opposite_here : (d : ℕ) (s m : Rest) → sign_at 33 s ≡ Some m → predicates.negation (suc d) s ≡ map_outcome tree.Not
    (predicates.negation d m)
unfolding predicates.negation_with predicates.deeper
opposite_here d s m e = let t = sign_taken 33 s m e in
    if_true (head (skip s) == 33) _ _ t.0 ∙ ap (λ n. map_outcome tree.Not (predicates.negation d n)) t.1

group_here : (d : ℕ) (s m : Rest) → sign_at 40 s ≡ Some m →
    predicates.negation (suc d) s ≡ up_to_sign 41 what.CloseParenthesis (predicates.disjunction d m)
unfolding predicates.negation_with predicates.deeper
group_here d s m e =
    let t = sign_taken 40 s m e in
    if_false (head (skip s) == 33) _ _ (other_sign 33 40 refl s m e) ∙ if_true (head (skip s) == 40) _ _ t.0
    ∙ ap (λ n. up_to_sign 41 what.CloseParenthesis (predicates.disjunction d n)) t.1

not_read : (d : ℕ) (s m r : Rest) (p : PredicateTree) → sign_at 33 s ≡ Some m → predicates.negation d m ≡ Ok (p, r) →
    predicates.negation (suc d) s ≡ Ok (tree.Not p, r)
not_read d s m r p e h = opposite_here d s m e ∙ mapped tree.Not (predicates.negation d m) p r h

-- a sign that is written twice
pub doubled : (b : ℕ) (s r : Rest) → keyword_at (b ∷ b ∷ []) s ≡ Some r →
    ((head (skip s) == b) ≡ true) × (((head (behind (skip s)) == b) ≡ true) × (behind (behind (skip s)) ≡ r))
doubled b s r e =
    let c = first_past b (b ∷ []) (skip s) r e in
    let f = first_past b [] (behind (skip s)) r c.1 in
    (c.0, (f.0, same (behind (behind (skip s))) r f.1))
  where
    same : (x y : Rest) → Some x ≡ Some y → x ≡ y
    same x y h = cc

double_next : (b : ℕ) (w : What) (join : PredicateTree → PredicateTree → PredicateTree)
    (part : Rest → Outcome PredicateTree) (l p : PredicateTree) (m k r : Rest) →
    keyword_at (b ∷ b ∷ []) m ≡ Some k → part k ≡ Ok (p, r) → predicates.double_turn b w join part l m
    ≡ Again (join l p) r
double_next b w join part l p m k r e h =
    let t = doubled b m k e in
    if_true (head (skip m) == b) _ _ t.0 ∙ if_true (head (behind (skip m)) == b) _ _ t.1.0
    ∙ ap (λ o. goes_on (join l) o) (ap part t.1.1 ∙ h)

and_next : (part : Rest → Outcome PredicateTree) (l p : PredicateTree) (m k r : Rest) →
    keyword_at (codes "&&") m ≡ Some k → part k ≡ Ok (p, r) → predicates.and_turn part l m ≡ Again (tree.And l p) r
unfolding predicates.and_turn
and_next part l p m k r e h = double_next 38 what.And tree.And part l p m k r e h

or_next : (part : Rest → Outcome PredicateTree) (l p : PredicateTree) (m k r : Rest) →
    keyword_at (codes "||") m ≡ Some k → part k ≡ Ok (p, r) → predicates.or_turn part l m ≡ Again (tree.Or l p) r
unfolding predicates.or_turn
or_next part l p m k r e h = double_next 124 what.Or tree.Or part l p m k r e h

and_last : (part : Rest → Outcome PredicateTree) (l : PredicateTree) (m : Rest) → (head (skip m) == 38) ≡ false →
    predicates.and_turn part l m ≡ Done l m
unfolding predicates.and_turn
and_last part l m h = if_false (head (skip m) == 38) _ _ h

or_last : (part : Rest → Outcome PredicateTree) (l : PredicateTree) (m : Rest) → (head (skip m) == 124) ≡ false →
    predicates.or_turn part l m ≡ Done l m
unfolding predicates.or_turn
or_last part l m h = if_false (head (skip m) == 124) _ _ h

-- the reading of conditions goes on from those so far
abbrev AndGoesOn : ℕ → Rest → Rest → PredicateTree → Type 0
AndGoesOn d s r p = predicates.conjunction d s ≡ repetition (predicates.and_turn (predicates.negation d)) p r

abbrev OrGoesOn : ℕ → Rest → Rest → PredicateTree → Type 0
OrGoesOn d s r p = predicates.disjunction d s ≡ repetition (predicates.or_turn (predicates.conjunction d)) p r

pub ends_conjunction : (d : ℕ) (s r : Rest) (p : PredicateTree) → AndGoesOn d s r p → (head (skip r) == 38) ≡ false →
    predicates.conjunction d s ≡ Ok (p, r)
ends_conjunction d s r p e h =
    e ∙ ends_here (predicates.and_turn (predicates.negation d)) p p r r (and_last (predicates.negation d) p r h)

first_negation : (d : ℕ) (s r : Rest) (p : PredicateTree) → predicates.negation d s ≡ Ok (p, r) → AndGoesOn d s r p
unfolding predicates.conjunction_with
first_negation d s r p e = bound (predicates.negation d s) _ (p, r) _ e refl

next_negation : (d : ℕ) (s m k r : Rest) (l p : PredicateTree) → AndGoesOn d s m l → keyword_at (codes "&&") m
    ≡ Some k →
    predicates.negation d k ≡ Ok (p, r) → Behind k r → AndGoesOn d s r (tree.And l p)
next_negation d s m k r l p g e h f =
    g ∙ repeated_again (predicates.and_turn (predicates.negation d)) l (tree.And l p) m r
    (and_next (predicates.negation d) l p m k r e h) (behind_behind m k r (word_behind 38 (codes "&") refl m k e) f)

first_conjunction : (d : ℕ) (s r : Rest) (p : PredicateTree) → predicates.conjunction d s ≡ Ok (p, r) → OrGoesOn d s r p
unfolding predicates.disjunction_with
first_conjunction d s r p e = bound (predicates.conjunction d s) _ (p, r) _ e refl

next_conjunction : (d : ℕ) (s m k r : Rest) (l p : PredicateTree) → OrGoesOn d s m l →
    keyword_at (codes "||") m ≡ Some k → predicates.conjunction d k ≡ Ok (p, r) → Behind k r
    → OrGoesOn d s r (tree.Or l p)
next_conjunction d s m k r l p g e h f =
    g ∙ repeated_again (predicates.or_turn (predicates.conjunction d)) l (tree.Or l p) m r
    (or_next (predicates.conjunction d) l p m k r e h)
    (behind_behind m k r (word_behind 124 (codes "|") refl m k e) f)

group_read : (d : ℕ) (s m k r : Rest) (p : PredicateTree) → sign_at 40 s ≡ Some m → OrGoesOn d m k p →
    sign_at 41 k ≡ Some r → predicates.negation (suc d) s ≡ Ok (p, r)
group_read d s m k r p e g h =
    group_here d s m e
    ∙ up_to_read 41 what.CloseParenthesis (predicates.disjunction d m) p k r
    (g ∙ ends_here (predicates.or_turn (predicates.conjunction d)) p p k k
    (or_last (predicates.conjunction d) p k (other_sign 124 41 refl k r h))) h

-- `||` stands here, and so no `&&`
no_and : (m k : Rest) → keyword_at (codes "||") m ≡ Some k → (head (skip m) == 38) ≡ false
no_and m k e = other_byte 38 124 (head (skip m)) refl (doubled 124 m k e).0

mutual
  disjunction_goes_on : {d : ℕ} {s r : Rest} {p : PredicateTree} → Disjunction d s r p →
      (head (skip r) == 38) ≡ false → OrGoesOn d s r p
  disjunction_goes_on {d = d} {s = s} {r = r} {p = p} (one_conjunction c) h =
      first_conjunction d s r p (ends_conjunction d s r p (conjunction_goes_on c) h)
  disjunction_goes_on {d = d} {s = s} {r = r} (or {m = m} {k = k} {l = l} {p = p} g e c) h =
      next_conjunction d s m k r l p (disjunction_goes_on g (no_and m k e)) e
      (ends_conjunction d k r p (conjunction_goes_on c) h) (conjunction_behind c)

  conjunction_goes_on : {d : ℕ} {s r : Rest} {p : PredicateTree} → Conjunction d s r p → AndGoesOn d s r p
  conjunction_goes_on {d = d} {s = s} {r = r} {p = p} (one_negation n) = first_negation d s r p (negation_read n)
  conjunction_goes_on {d = d} {s = s} {r = r} (and {m = m} {k = k} {l = l} {p = p} g e n) =
      next_negation d s m k r l p (conjunction_goes_on g) e (negation_read n) (negation_behind n)

  negation_read : {d : ℕ} {s r : Rest} {p : PredicateTree} → Negation d s r p → predicates.negation d s ≡ Ok (p, r)
  negation_read {s = s} {r = r} (not {d = d} {m = m} {p = p} e n) = not_read d s m r p e (negation_read n)
  negation_read {s = s} {r = r} (in_parentheses {d = d} {m = m} {k = k} {p = p} e g f) =
      group_read d s m k r p e (disjunction_goes_on g (other_sign 38 41 refl k r f)) f
  negation_read {d = d} {s = s} {r = r} (compare {m = m} {k = k} {n = n} {c = c} {v = v} e f g) =
      compare_read d s m k r n c v e f g
  negation_read {d = d} {s = s} {r = r} (like {m = m} {k = k} {n = n} {ps = ps} e f g) = like_read d s m k r n ps e f g

-- a conjunction of the grammar is read as its tree, where no `&&` follows
pub conjunction_read : {d : ℕ} {s r : Rest} {p : PredicateTree} → Conjunction d s r p →
    (head (skip r) == 38) ≡ false → predicates.conjunction d s ≡ Ok (p, r)
conjunction_read {d = d} {s = s} {r = r} {p = p} c h = ends_conjunction d s r p (conjunction_goes_on c) h

-- what a filter asks is read on from its conditions so far
abbrev pub FilterGoesOn : ℕ → Rest → Rest → PredicateTree → Type 0
FilterGoesOn d s r p =
    predicates.predicate d s ≡ repetition (predicates.filter_turn (predicates.conjunction d)) (p, false) r

first_asked : (d : ℕ) (s r : Rest) (p : PredicateTree) → predicates.conjunction d s ≡ Ok (p, r) → FilterGoesOn d s r p
unfolding predicates.predicate
first_asked d s r p e = bound (predicates.conjunction d s) _ (p, r) _ e refl

filter_next : (part : Rest → Outcome PredicateTree) (l p : PredicateTree) (m k r : Rest) →
    keyword_at (codes "||") m ≡ Some k → part k ≡ Ok (p, r) → predicates.filter_turn part (l, false) m ≡ Again
    (tree.Or l p, false) r
unfolding predicates.filter_turn
filter_next part l p m k r e h =
    let t = doubled 124 m k e in
    if_true (head (skip m) == 124) _ _ t.0 ∙ if_true (head (behind (skip m)) == 124) _ _ t.1.0
    ∙ ap (λ o. goes_on (λ right. (tree.Or l right, false)) o) (ap part t.1.1 ∙ h)

pub filter_goes_on : {d : ℕ} {s r : Rest} {p : PredicateTree} → Disjunction d s r p → (head (skip r) == 38) ≡ false →
    FilterGoesOn d s r p
filter_goes_on {d = d} {s = s} {r = r} {p = p} (one_conjunction c) h = first_asked d s r p (conjunction_read c h)
filter_goes_on {d = d} {s = s} {r = r} (or {m = m} {k = k} {l = l} {p = p} g e c) h =
    filter_goes_on g (no_and m k e)
    ∙ repeated_again (predicates.filter_turn (predicates.conjunction d)) (l, false) (tree.Or l p, false) m r
    (filter_next (predicates.conjunction d) l p m k r e (conjunction_read c h))
    (behind_behind m k r (word_behind 124 (codes "|") refl m k e) (conjunction_behind c))

-- a filter whose predicate has come to its end
filter_stops : (part : Rest → Outcome PredicateTree) (p : PredicateTree) (r : Rest) → (head (skip r) == 124) ≡ false →
    predicates.filter_turn part (p, false) r ≡ Done (p, false) r
unfolding predicates.filter_turn
filter_stops part p r h = if_false (head (skip r) == 124) _ _ h

filter_barred : (part : Rest → Outcome PredicateTree) (p : PredicateTree) (r : Rest) → (head (skip r) == 124) ≡ true →
    (head (behind (skip r)) == 124) ≡ false →
    predicates.filter_turn part (p, false) r ≡ Done (p, true) (behind (skip r))
unfolding predicates.filter_turn
filter_barred part p r h g = if_true (head (skip r) == 124) _ _ h ∙ if_false (head (behind (skip r)) == 124) _ _ g

pub filter_ends : {d : ℕ} {s r : Rest} {p : PredicateTree} → Disjunction d s r p → (head (skip r) == 38) ≡ false →
    (head (skip r) == 124) ≡ false → predicates.predicate d s ≡ Ok ((p, false), r)
filter_ends {d = d} {r = r} {p = p} g h e =
    filter_goes_on g h ∙ ends_here (predicates.filter_turn (predicates.conjunction d)) (p, false) (p, false) r r
    (filter_stops (predicates.conjunction d) p r e)

pub filter_ends_barred : {d : ℕ} {s r : Rest} {p : PredicateTree} → Disjunction d s r p →
    (head (skip r) == 38) ≡ false → (head (skip r) == 124) ≡ true → (head (behind (skip r)) == 124) ≡ false →
    predicates.predicate d s ≡ Ok ((p, true), behind (skip r))
filter_ends_barred {d = d} {r = r} {p = p} g h e f =
    filter_goes_on g h ∙ ends_here (predicates.filter_turn (predicates.conjunction d)) (p, false) (p, true) r
    (behind (skip r)) (filter_barred (predicates.conjunction d) p r e f)
