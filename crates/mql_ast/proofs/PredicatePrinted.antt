-- Predicates that some text spells are spelled by what they are printed as.
use Rattle.std.proofs.Common.{◌≡◌, ℕ, zero, suc, ℤ, ◌+◌, ◌<◌, ◌≤◌, Bool, true, false, ◌==◌, ◌||◌, List, [], ◌∷◌, ◌++◌}
use Rattle.std.proofs.Common.{codes, refl, sym, ap, ◌∙◌, subst, arith, if◌then◌else◌, Option, Some, None}
use Rattle.std.proofs.Common.{option_and_then, append_assoc}
use Rattle.std.proofs.lemmas.Bool.Decides.{nat_tests}
use Rattle.mon_value.specs.declared.values.FieldValue.{FieldValue}
use Rattle.mon_value.specs.declared.values.FieldValue.TheVariants as field
use Rattle.mql_ast.specs.declared.names.Name.{Name}
use Rattle.mql_ast.specs.declared.predicates.Comparison.{Comparison}
use Rattle.mql_ast.specs.declared.predicates.Comparison.TheVariants as comparison
use Rattle.mql_ast.specs.declared.predicates.Literal.{Literal}
use Rattle.mql_ast.specs.Tokens.{is_blank, is_digit, Rest, head, skip, past, keyword_at, signed_at}
use Rattle.mql_ast.specs.Quotes.{text_at}
use Rattle.mql_ast.specs.Trees as tree
use Rattle.mql_ast.specs.Trees.{PredicateTree}
use Rattle.mql_ast.specs.Places.{predicate_content}
use Rattle.mql_ast.specs.Printed.{predicate_text, comparison_text, value_text, quotation, pattern_signs}
use Rattle.mql_ast.specs.Grammar.{comparison_at, literal_at, literal, Disjunction, one_conjunction, or, Conjunction}
use Rattle.mql_ast.specs.Grammar.{one_negation, and, Negation, not, in_parentheses, compare, like}
use Rattle.mql_ast.proofs.TokensPrinted.{if_true, if_false, both, followed, Ends, From, regrouped, here}
use Rattle.mql_ast.proofs.TokensPrinted.{behind_blank, rest_behind, no_blank, sign_printed, no_digit, IsName}
use Rattle.mql_ast.proofs.TokensPrinted.{name_lawful, name_printed}
use Rattle.mql_ast.proofs.NumbersPrinted.{InRange, signed_lawful, signed_printed, number_begins}
use Rattle.mql_ast.proofs.QuotesPrinted.{IsText, text_lawful, text_printed}
use Rattle.mql_ast.proofs.PatternsPrinted.{IsPattern, pattern_lawful, pattern_printed}
use Rattle.mon_value.proofs.PlainLemmas.{same_item}

-- the predicate is spelled here by this production, but for its places, and this is left
pub record PredicateSpelled (production : ℕ → Rest → Rest → PredicateTree → Type 0) (d : ℕ) (s : Rest)
    (p : PredicateTree) (rest : List ℕ) : Type 0 where
  pub at : ℕ
  pub placed : PredicateTree
  pub same : predicate_content placed ≡ predicate_content p
  pub spelled : production d s (record { at = at; bytes = rest }) placed

-- wherever these bytes stand
abbrev pub PrintedAs : (ℕ → Rest → Rest → PredicateTree → Type 0) → ℕ → PredicateTree → List ℕ → Type 0
PrintedAs production d p text = (s : Rest) (rest : List ℕ) → Ends rest → From s (text ++ rest) → PredicateSpelled
    production d s p rest

-- from how many levels on a predicate prints as each production
pub record PredicateLevels (a b c : ℕ) (p : PredicateTree) : Type 0 where
  pub disjunction : (k : ℕ) → a ≤ k → PrintedAs Disjunction k p (predicate_text 0 p)
  pub conjunction : (k : ℕ) → b ≤ k → PrintedAs Conjunction k p (predicate_text 1 p)
  pub negation : (k : ℕ) → c ≤ k → PrintedAs Negation k p (predicate_text 2 p)

-- what holds a level deeper
pub from_below : (d : ℕ) (P : ℕ → Type 0) → ((k : ℕ) → d ≤ k → P (suc k)) → (k : ℕ) → d < k → P k
from_below d P f zero h = absurd (omega arith)
from_below d P f (suc k) h = f k (omega arith)

as_conjunction : (d : ℕ) (p : PredicateTree) (text : List ℕ) → PrintedAs Negation d p text → PrintedAs Conjunction d p
    text
as_conjunction d p text f s rest ends from = let x = f s rest ends from in
    record { at = x.at; placed = x.placed; same = x.same; spelled = one_negation x.spelled }

as_disjunction : (d : ℕ) (p : PredicateTree) (text : List ℕ) → PrintedAs Conjunction d p text → PrintedAs Disjunction d
    p text
as_disjunction d p text f s rest ends from = let x = f s rest ends from in
    record { at = x.at; placed = x.placed; same = x.same; spelled = one_conjunction x.spelled }

parenthesized : (d : ℕ) (p : PredicateTree) (text : List ℕ) → PrintedAs Disjunction d p text → PrintedAs Negation
    (suc d) p (40 ∷ (text ++ 41 ∷ []))
parenthesized d p text f s rest ends from =
    let from' = regrouped from (ap (λ t. 40 ∷ t) (append_assoc text (41 ∷ []) rest)) in
    let bytes = text ++ (41 ∷ rest) in
    let x = f (record { at = from'.at + 1; bytes = bytes }) (41 ∷ rest) refl (here (from'.at + 1) bytes) in
    record {
      at = x.at + 1;
      placed = x.placed;
      same = x.same;
      spelled = in_parentheses (sign_printed 40 refl refl s bytes from') x.spelled
          (sign_printed 41 refl refl (record { at = x.at; bytes = 41 ∷ rest }) rest (here x.at (41 ∷ rest)));
    }

not_printed : (d : ℕ) (p : PredicateTree) (text : List ℕ) → PrintedAs Negation d p text → PrintedAs Negation (suc d)
    (tree.Not p) (33 ∷ text)
not_printed d p text f s rest ends from =
    let bytes = text ++ rest in
    let x = f (record { at = from.at + 1; bytes = bytes }) rest ends (here (from.at + 1) bytes) in
    record {
      at = x.at;
      placed = tree.Not x.placed;
      same = ap tree.Not x.same;
      spelled =
          not (sign_printed 33 refl refl s bytes from) x.spelled;
    }

ampersands : (at : ℕ) (bytes : List ℕ) → keyword_at (codes "&&") (record { at = at; bytes = 32 ∷ 38 ∷ 38 ∷ bytes })
    ≡ Some (record { at = at + 1 + 1 + 1; bytes = bytes })
unfolding skip
ampersands at bytes = refl

bars : (at : ℕ) (bytes : List ℕ) → keyword_at (codes "||") (record { at = at; bytes = 32 ∷ 124 ∷ 124 ∷ bytes })
    ≡ Some (record { at = at + 1 + 1 + 1; bytes = bytes })
unfolding skip
bars at bytes = refl

and_printed : (d : ℕ) (l p : PredicateTree) (a b : List ℕ) → PrintedAs Conjunction d l a → PrintedAs Negation d p b
    → PrintedAs Conjunction d (tree.And l p) (a ++ (codes " && " ++ b))
and_printed d l p a b f g s rest ends from =
    let behind = b ++ rest in
    let x = f s (32 ∷ 38 ∷ 38 ∷ 32 ∷ behind) refl (regrouped from (append_assoc a (codes " && " ++ b) rest)) in
    let i = x.at + 1 + 1 + 1 in
    let y = g (record { at = i; bytes = 32 ∷ behind }) rest ends (behind_blank i behind) in
    record {
      at = y.at;
      placed = tree.And x.placed y.placed;
      same = both tree.And x.same y.same;
      spelled =
          and x.spelled (ampersands x.at (32 ∷ behind)) y.spelled;
    }

or_printed : (d : ℕ) (l p : PredicateTree) (a b : List ℕ) → PrintedAs Disjunction d l a → PrintedAs Conjunction d p b
    → PrintedAs Disjunction d (tree.Or l p) (a ++ (codes " || " ++ b))
or_printed d l p a b f g s rest ends from =
    let behind = b ++ rest in
    let x = f s (32 ∷ 124 ∷ 124 ∷ 32 ∷ behind) refl (regrouped from (append_assoc a (codes " || " ++ b) rest)) in
    let i = x.at + 1 + 1 + 1 in
    let y = g (record { at = i; bytes = 32 ∷ behind }) rest ends (behind_blank i behind) in
    record {
      at = y.at;
      placed = tree.Or x.placed y.placed;
      same = both tree.Or x.same y.same;
      spelled =
          or x.spelled (bars x.at (32 ∷ behind)) y.spelled;
    }

-- a comparison that is printed here is read
comparison_printed : (how : Comparison) (at : ℕ) (bytes : List ℕ) →
    comparison_at (record { at = at; bytes = 32 ∷ (comparison_text how ++ (32 ∷ bytes)) })
    ≡ Some (how, rest_behind (at + 1) (comparison_text how) (32 ∷ bytes))
unfolding skip
comparison_printed comparison.Equal at bytes = refl
comparison_printed comparison.NotEqual at bytes = refl
comparison_printed comparison.Less at bytes = refl
comparison_printed comparison.AtMost at bytes = refl
comparison_printed comparison.Greater at bytes = refl
comparison_printed comparison.AtLeast at bytes = refl

likeness_printed : (at : ℕ) (bytes : List ℕ)
    → keyword_at (codes "=~") (record { at = at; bytes = 32 ∷ 61 ∷ 126 ∷ bytes })
    ≡ Some (record { at = at + 1 + 1 + 1; bytes = bytes })
unfolding skip
likeness_printed at bytes = refl

-- a value that can be written
data IsWritten : FieldValue → Type 0 where
  written_number : {z : ℤ} → InRange z → IsWritten (field.Int z)
  written_truth : {b : Bool} → IsWritten (field.Bool b)
  written_text : {bytes : List ℕ} → IsText bytes → IsWritten (field.Text bytes)

abbrev pub text_value : List ℕ × Rest → Option (FieldValue × Rest)
text_value x = Some (field.Text x.0, x.1)

abbrev pub truth_value : Bool → Rest → Option (FieldValue × Rest)
truth_value b r = Some (field.Bool b, r)

abbrev pub number_value : ℤ × Rest → Option (FieldValue × Rest)
number_value x = Some (field.Int x.0, x.1)

value_step : (a b c d : Bool) (s r : Rest) (v : FieldValue) →
    (if a then option_and_then text_value (text_at s) else
    (if b then option_and_then (truth_value true) (keyword_at (codes "true") s) else
    (if c then option_and_then (truth_value false) (keyword_at (codes "false") s) else
    (if d then option_and_then number_value (signed_at s) else None)))) ≡ Some (v, r) → IsWritten v
value_step true b c d s r v h =
    let x = followed (text_at s) text_value (v, r) h in
    subst IsWritten (ap (λ p. p.0) (same_item (field.Text x.0.0, x.0.1) (v, r) x.2))
    (written_text (text_lawful s x.0.1 x.0.0 x.1))
value_step false true c d s r v h =
    let x = followed (keyword_at (codes "true") s) (truth_value true) (v, r) h in
    subst IsWritten (ap (λ p. p.0) (same_item (field.Bool true, x.0) (v, r) x.2)) written_truth
value_step false false true d s r v h =
    let x = followed (keyword_at (codes "false") s) (truth_value false) (v, r) h in
    subst IsWritten (ap (λ p. p.0) (same_item (field.Bool false, x.0) (v, r) x.2)) written_truth
value_step false false false true s r v h =
    let x = followed (signed_at s) number_value (v, r) h in
    subst IsWritten (ap (λ p. p.0) (same_item (field.Int x.0.0, x.0.1) (v, r) x.2))
    (written_number (signed_lawful s x.0.1 x.0.0 x.1))
value_step false false false false s r v h = absurd (cc)

value_lawful : (s r : Rest) (v : FieldValue) → literal_at s ≡ Some (v, r) → IsWritten v
value_lawful s r v h = let b = head (skip s) in value_step (b == 34) (b == 116) (b == 102) (b == 45 || is_digit b) s r
    v h

-- a value of which the first byte was seen
abbrev value_by : ℕ → Rest → Option (FieldValue × Rest)
value_by b s =
    if b == 34 then option_and_then text_value (text_at s) else
    (if b == 116 then option_and_then (truth_value true) (keyword_at (codes "true") s) else
    (if b == 102 then option_and_then (truth_value false) (keyword_at (codes "false") s) else
    (if b == 45 || is_digit b then option_and_then number_value (signed_at s) else None)))

number_no_blank : (b : ℕ) → (b == 45 || is_digit b) ≡ true → is_blank b ≡ false
number_no_blank b h = grind (arith, nat_tests)

no_quote : (b : ℕ) → (b == 45 || is_digit b) ≡ true → ((b == 34) ≡ false) × ((b == 116) ≡ false) × ((b == 102) ≡ false)
no_quote b h = (grind (arith, nat_tests), grind (arith, nat_tests), grind (arith, nat_tests))

true_here : (at : ℕ) (rest : List ℕ) → past (codes "true") (skip (record { at = at; bytes = codes "true" ++ rest }))
    ≡ Some (rest_behind at (codes "true") rest)
unfolding skip
true_here at rest = refl

false_here : (at : ℕ) (rest : List ℕ) → past (codes "false") (skip (record { at = at; bytes = codes "false" ++ rest }))
    ≡ Some (rest_behind at (codes "false") rest)
unfolding skip
false_here at rest = refl

-- a value that is printed here is read
value_printed : (v : FieldValue) → IsWritten v → (s : Rest) (rest : List ℕ) → Ends rest
    → (f : From s (value_text v ++ rest)) → literal_at s ≡ Some (v, rest_behind f.at (value_text v) rest)
value_printed (field.Text bytes) (written_text t) s rest ends f =
    ap (λ b. value_by b s) (ap head (f.is ∙ no_blank f.at 34 _ refl))
    ∙ ap (λ o. option_and_then text_value o) (text_printed bytes t s rest f)
value_printed (field.Bool true) written_truth s rest ends f =
    ap (λ b. value_by b s) (ap head (f.is ∙ no_blank f.at 116 _ refl))
    ∙ ap (λ o. option_and_then (truth_value true) o) (ap (past (codes "true")) f.is ∙ true_here f.at rest)
value_printed (field.Bool false) written_truth s rest ends f =
    ap (λ b. value_by b s) (ap head (f.is ∙ no_blank f.at 102 _ refl))
    ∙ ap (λ o. option_and_then (truth_value false) o) (ap (past (codes "false")) f.is ∙ false_here f.at rest)
value_printed (field.Int z) (written_number range) s rest ends f =
    let n = number_begins z range in
    let tests = no_quote n.first n.begins in
    let g = regrouped f (ap (λ t. t ++ rest) n.is) in
    ap (λ b. value_by b s)
    (ap head (g.is ∙ no_blank f.at n.first (n.others ++ rest) (number_no_blank n.first n.begins)))
    ∙ if_false (n.first == 34) _ _ tests.0 ∙ if_false (n.first == 116) _ _ tests.1 ∙ if_false (n.first == 102)
    _ _ tests.2 ∙ if_true (n.first == 45 || is_digit n.first) _ _ n.begins
    ∙ ap (λ o. option_and_then number_value o) (signed_printed z range s rest (no_digit rest ends) f)

compare_printed : (d : ℕ) (n : Name) (how : Comparison) (v : Literal) → IsName n.text → IsWritten v.value
    → PrintedAs Negation d (tree.Compare n how v) (predicate_text 2 (tree.Compare n how v))
compare_printed d n how v name written s rest ends f =
    let behind_sign = 32 ∷ (value_text v.value ++ rest) in
    let behind_name = 32 ∷ (comparison_text how ++ behind_sign) in
    let text = append_assoc n.text (codes " " ++ (comparison_text how ++ (codes " " ++ value_text v.value))) rest
    ∙ ap (λ t. n.text ++ (32 ∷ t)) (append_assoc (comparison_text how) (codes " " ++ value_text v.value) rest) in
    let m = rest_behind f.at n.text behind_name in
    let k = rest_behind (m.at + 1) (comparison_text how) behind_sign in
    let g = behind_blank k.at (value_text v.value ++ rest) in
    record {
      at = (rest_behind g.at (value_text v.value) rest).at;
      placed = tree.Compare (record { at = f.at; text = n.text }) how (literal k v.value);
      same = refl;
      spelled = compare (name_printed n.text name s behind_name refl (regrouped f text))
          (comparison_printed how m.at (value_text v.value ++ rest)) (value_printed v.value written k rest ends g);
    }

like_printed : (d at : ℕ) (n : Name) (pieces : List (List ℕ)) → IsName n.text → IsPattern pieces →
    PrintedAs Negation d (tree.Like n (record { at = at; pieces = pieces }))
    (n.text ++ (codes " =~ " ++ quotation (pattern_signs pieces)))
like_printed d at n pieces name pattern s rest ends f =
    let text = quotation (pattern_signs pieces) in
    let behind_name = codes " =~ " ++ (text ++ rest) in
    let m = rest_behind f.at n.text behind_name in
    let k : Rest = record { at = m.at + 1 + 1 + 1; bytes = 32 ∷ (text ++ rest) } in
    let g = behind_blank k.at (text ++ rest) in
    record {
      at = (rest_behind g.at text rest).at;
      placed = tree.Like (record { at = f.at; text = n.text }) (record { at = (skip k).at; pieces = pieces });
      same = refl;
      spelled = like (name_printed n.text name s behind_name refl
          (regrouped f (append_assoc n.text (codes " =~ " ++ text) rest))) (likeness_printed m.at k.bytes)
          (pattern_printed pieces pattern k rest g);
    }

-- a predicate that needs no parentheses anywhere
alone : (d : ℕ) (p : PredicateTree) (text : List ℕ) → predicate_text 0 p ≡ text → predicate_text 1 p ≡ text
    → predicate_text 2 p ≡ text → ((k : ℕ) → d ≤ k → PrintedAs Negation k p text) → PredicateLevels d d d p
alone d p text a b c f = record {
  disjunction = λ k h. subst (PrintedAs Disjunction k p) (sym a)
      (as_disjunction k p text (as_conjunction k p text (f k h)));
  conjunction = λ k h. subst (PrintedAs Conjunction k p) (sym b) (as_conjunction k p text (f k h));
  negation = λ k h. subst (PrintedAs Negation k p) (sym c) (f k h);
}

mutual
  pub disjunction_levels : {d : ℕ} {s r : Rest} {p : PredicateTree} → Disjunction d s r p → PredicateLevels d (suc d)
      (suc d) p
  disjunction_levels (one_conjunction c) = let x = conjunction_levels c in
      record { disjunction = x.disjunction; conjunction = λ k h. x.conjunction k (omega arith); negation = x.negation }
  disjunction_levels {d = d} (or {l = l} {p = p} L w R) =
      let a = disjunction_levels L in
      let b = conjunction_levels R in
      let q = tree.Or l p in
      let text = predicate_text 0 q in
      let whole = λ (k : ℕ) (h : d ≤ k). or_printed k l p (predicate_text 0 l) (predicate_text 1 p) (a.disjunction k h)
      (b.conjunction k h) in
      let inner = from_below d (λ k. PrintedAs Negation k q (40 ∷ (text ++ 41 ∷ [])))
      (λ k h. parenthesized k q text (whole k h)) in
      record {
        disjunction = whole;
        conjunction = λ k h. as_conjunction k q (40 ∷ (text ++ 41 ∷ [])) (inner k h);
        negation = inner;
      }

  pub conjunction_levels : {d : ℕ} {s r : Rest} {p : PredicateTree} → Conjunction d s r p → PredicateLevels d d (suc d)
      p
  conjunction_levels (one_negation n) = let x = negation_levels n in
      record { disjunction = x.disjunction; conjunction = x.conjunction; negation = λ k h. x.negation k (omega arith) }
  conjunction_levels {d = d} (and {l = l} {p = p} L w R) =
      let a = conjunction_levels L in
      let b = negation_levels R in
      let q = tree.And l p in
      let text = predicate_text 1 q in
      let whole = λ (k : ℕ) (h : d ≤ k). and_printed k l p (predicate_text 1 l) (predicate_text 2 p)
      (a.conjunction k h) (b.negation k h) in
      let choice = λ (k : ℕ) (h : d ≤ k). as_disjunction k q text (whole k h) in
      record {
        disjunction = choice;
        conjunction = whole;
        negation =
            from_below d (λ k. PrintedAs Negation k q (40 ∷ (text ++ 41 ∷ [])))
            (λ k h. parenthesized k q text (choice k h));
      }

  pub negation_levels : {d : ℕ} {s r : Rest} {p : PredicateTree} → Negation d s r p → PredicateLevels d d d p
  negation_levels (not {d = d} {p = p} g N) =
      let x = negation_levels N in
      let text = 33 ∷ predicate_text 2 p in
      alone (suc d) (tree.Not p) text refl refl refl (from_below d (λ k. PrintedAs Negation k (tree.Not p) text)
      (λ k h. not_printed k p (predicate_text 2 p) (x.negation k h)))
  negation_levels (in_parentheses g D h) = let x = disjunction_levels D in
      record { disjunction = λ k i. x.disjunction k (omega arith); conjunction = x.conjunction; negation = x.negation }
  negation_levels {d = d} {s = s} (compare {m = m} {k = k} {r = r} {n = n} {c = c} {v = v} h g i) =
      let q = tree.Compare n c (literal k v) in
      alone d q (predicate_text 2 q) refl refl refl (λ j e. compare_printed j n c (literal k v) (name_lawful s m n h)
      (value_lawful k r v i))
  negation_levels {d = d} {s = s} (like {m = m} {k = k} {r = r} {n = n} {ps = ps} h g i) =
      let q = tree.Like n (record { at = (skip k).at; pieces = ps }) in
      alone d q (predicate_text 2 q) refl refl refl (λ j e. like_printed j (skip k).at n ps (name_lawful s m n h)
      (pattern_lawful k r ps i))
