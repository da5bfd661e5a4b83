-- A sum or a predicate is printed with no more parentheses than any text of it has.
use Rattle.std.proofs.Common.{◌≡◌, ℕ, ◌+◌, ◌≤◌, Bool, true, false, ◌==◌, ◌||◌, List, [], ◌∷◌, ◌++◌, map, codes, refl}
use Rattle.std.proofs.Common.{ap, subst, ◌∙◌, arith, if◌then◌else◌, Option, Some, None, option_and_then}
use Rattle.std.specs.Fmt.{decimal}
use Rattle.std.specs.Str.{is_utf8}
use Rattle.mon_value.specs.Values.{text_in}
use Rattle.mon_value.specs.declared.values.FieldValue.{FieldValue}
use Rattle.mon_value.specs.declared.values.FieldValue.TheVariants as field
use Rattle.mql_ast.specs.declared.predicates.Comparison.{Comparison}
use Rattle.mql_ast.specs.declared.predicates.Comparison.TheVariants as comparison
use Rattle.mql_ast.specs.Tokens.{is_digit, Rest, head, behind, skip, sign_at, keyword_at, signed_at}
use Rattle.mql_ast.specs.Trees as tree
use Rattle.mql_ast.specs.Trees.{SumTree, PredicateTree}
use Rattle.mql_ast.specs.Printed as printed
use Rattle.mql_ast.specs.Printed.{sign_text, escaped_text, is_text_mark, is_pattern_mark, quotation, pattern_signs}
use Rattle.mql_ast.specs.Printed.{value_text}
use Rattle.mql_ast.specs.Printed.{comparison_text, predicate_text, sum_text, share_text}
use Rattle.mql_ast.specs.Quotes.{Open, Whole, TextStep, TextEnd, TextPass, TextKeep, TextBad, text_step}
use Rattle.mql_ast.specs.Quotes.{after_text_step, text_from, text_at, Sign, Plain, PatternStep, PatternEnd, PatternCut}
use Rattle.mql_ast.specs.Quotes.{PatternPass, PatternKeep, PatternUnfit, PatternBad, pattern_step, after_pattern_step}
use Rattle.mql_ast.specs.Quotes.{pattern_from, pattern_at}
use Rattle.mql_ast.specs.Grammar.{or_equal, and_equal, comparison_at, literal_at, Sum, one_term, plus, minus, Term}
use Rattle.mql_ast.specs.Grammar.{column, number, percentile, sum_in_parentheses, Disjunction, one_conjunction, or}
use Rattle.mql_ast.specs.Grammar.{Conjunction, one_negation, and, Negation, not, in_parentheses, compare, like}
use Rattle.mql_ast.specs.Parentheses.{parentheses}
use Rattle.mql_ast.proofs.TokensPrinted.{chosen, followed, name_lawful}
use Rattle.mql_ast.proofs.NumbersPrinted.{positive_lawful, signed_lawful}
use Rattle.mql_ast.proofs.QuotesPrinted.{with_rest}
use Rattle.mql_ast.proofs.PredicatePrinted.{text_value, truth_value, number_value}
use Rattle.mql_ast.proofs.PatternsPrinted.{with_end, piece_read}
use Rattle.mql_ast.proofs.TokensFewest.{left, parentheses_append, no_parentheses, other_byte, open_byte, byte_less}
use Rattle.mql_ast.proofs.TokensFewest.{last_byte, skip_left, behind_left, sign_left, open_left, word_left, name_none}
use Rattle.mql_ast.proofs.TokensFewest.{name_left, positive_left, signed_left, decimal_none, signed_none}
use Rattle.mon_value.proofs.PlainLemmas.{same_item}

-- what either outcome of a test gives
if_given : {A : Type 0} (t : Bool) (x y : Option A) (z : A) (P : Type 0) → (x ≡ Some z → P) → (y ≡ Some z → P)
    → (if t then x else y) ≡ Some z → P
if_given true x y z P f g h = f h
if_given false x y z P f g h = g h

-- parentheses around a text
pub around : (text : List ℕ) → parentheses (40 ∷ (text ++ 41 ∷ [])) ≡ 1 + parentheses text
around text = omega (
  arith,
  open_byte (text ++ 41 ∷ []),
  parentheses_append text (41 ∷ []),
  other_byte 41 [] refl,
  no_parentheses,
)

-- an escape is no parenthesis
sign_same : (b : ℕ) (t : Bool) → parentheses (if t then 92 ∷ b ∷ [] else b ∷ []) ≡ parentheses (b ∷ [])
sign_same b true = other_byte 92 (b ∷ []) refl
sign_same b false = refl

escaped_same : (marks : ℕ → Bool) (bytes : List ℕ) → parentheses (escaped_text marks bytes) ≡ parentheses bytes
escaped_same marks [] = refl
escaped_same marks (b ∷ bs) =
    omega (
      arith,
      parentheses_append (sign_text marks b) (escaped_text marks bs),
      sign_same b (marks b),
      escaped_same marks bs,
      parentheses_append (b ∷ []) bs,
    )

quoted_same : (bytes : List ℕ) → parentheses (quotation bytes) ≡ parentheses bytes
quoted_same bytes =
    let signs = escaped_text is_text_mark bytes in
    omega (
      arith,
      other_byte 34 (signs ++ 34 ∷ []) refl,
      parentheses_append signs (34 ∷ []),
      other_byte 34 [] refl,
      no_parentheses,
      escaped_same is_text_mark bytes,
    )

text_ends : (content text : List ℕ) (rest r : Rest) (b : ℕ) → option_and_then (with_rest rest) (text_in content)
    ≡ Some (text, r) → parentheses text + left r ≤ parentheses content + parentheses (b ∷ rest.bytes)
text_ends content text rest r b h =
    let x = followed (text_in content) (with_rest rest) (text, r) h in
    let c = chosen (is_utf8 content) content x.0 x.1 in
    let pair = same_item (x.0, rest) (text, r) x.2 in
    let same : content ≡ text = c.1 ∙ ap (λ p. p.0) pair in
    subst (λ t. parentheses t + left r ≤ parentheses content + parentheses (b ∷ rest.bytes)) same
    (subst (λ q. parentheses content + left q ≤ parentheses content + parentheses (b ∷ rest.bytes))
    (ap (λ p. p.1) pair) (omega (arith, byte_less b rest.bytes)))

text_on : (step : TextStep) (b : ℕ) (rest r : Rest) (content text : List ℕ) (go : Open → List ℕ
    → Option (List ℕ × Rest)) →
    ((next : Open) (more : List ℕ) → go next more ≡ Some (text, r) → parentheses text + left r ≤ parentheses more
    + left rest) →
    after_text_step step b rest content go ≡ Some (text, r) → parentheses text + left r ≤ parentheses content
    + parentheses (b ∷ rest.bytes)
text_on TextEnd b rest r content text go f h = text_ends content text rest r b h
text_on (TextPass next) b rest r content text go f h = omega (arith, f next content h, byte_less b rest.bytes)
text_on (TextKeep next) b rest r content text go f h =
    omega (arith, f next (content ++ b ∷ []) h, last_byte b content rest.bytes)
text_on TextBad b rest r content text go f h = absurd (cc)

text_from_left : (u : Open) (content : List ℕ) (at : ℕ) (bs text : List ℕ) (r : Rest) → text_from u content at bs
    ≡ Some (text, r) → parentheses text + left r ≤ parentheses content + parentheses bs
text_from_left u content at [] text r h = absurd (cc)
text_from_left u content at (b ∷ bs) text r h =
    text_on (text_step u b) b (record { at = at + 1; bytes = bs }) r content text (λ next more. text_from next more
    (at + 1) bs) (λ next more e. text_from_left next more (at + 1) bs text r e) h

text_left : (s r : Rest) (text : List ℕ) → text_at s ≡ Some (text, r) → parentheses (quotation text) + left r ≤ left s
text_left s r text h =
    let x = followed (sign_at 34 s) (λ quote. text_from Whole [] quote.at quote.bytes) (text, r) h in
    omega (
      arith,
      text_from_left Whole [] x.0.at x.0.bytes text r x.2,
      sign_left 34 s x.0 x.1,
      quoted_same text,
      no_parentheses,
    )

-- the parentheses of all pieces of a pattern
abbrev total : List (List ℕ) → ℕ
total [] = 0
total (p ∷ ps) = parentheses p + total ps

total_push : (ps : List (List ℕ)) (p : List ℕ) → total (ps ++ p ∷ []) ≡ total ps + parentheses p
total_push [] p = omega arith
total_push (q ∷ qs) p = omega (arith, total_push qs p)

pattern_ends : (pieces all : List (List ℕ)) (content : List ℕ) (rest r : Rest) (b : ℕ)
    → with_end rest (pieces ++ content ∷ []) ≡ Some (all, r) → total all + left r ≤ total pieces + parentheses content
    + parentheses (b ∷ rest.bytes)
pattern_ends pieces all content rest r b h =
    let pair = same_item (pieces ++ content ∷ [], rest) (all, r) h in
    let low : total (pieces ++ content ∷ []) + left rest ≤ total pieces + parentheses content
    + parentheses (b ∷ rest.bytes) = omega (arith, total_push pieces content, byte_less b rest.bytes) in
    subst (λ p. total p.0 + left p.1 ≤ total pieces + parentheses content + parentheses (b ∷ rest.bytes)) pair low

pattern_on : (step : PatternStep) (b : ℕ) (rest r : Rest) (pieces : List (List ℕ)) (content : List ℕ)
    (all : List (List ℕ)) (go : Open → Sign → List (List ℕ) → List ℕ → Option (List (List ℕ) × Rest)) →
    ((next : Open) (mark : Sign) (ps : List (List ℕ)) (more : List ℕ) → go next mark ps more ≡ Some (all, r)
    → total all + left r ≤ total ps + parentheses more + left rest) →
    after_pattern_step step b rest pieces content go ≡ Some (all, r) → total all + left r ≤ total pieces
    + parentheses content + parentheses (b ∷ rest.bytes)
pattern_on PatternEnd b rest r pieces content all go f h = pattern_ends pieces all content rest r b
    (piece_read content pieces (with_end rest) (all, r) h).1
pattern_on PatternCut b rest r pieces content all go f h =
    let x = f Whole Plain (pieces ++ content ∷ []) [] (piece_read content pieces (λ ps. go Whole Plain ps []) (all, r)
    h).1 in
    omega (arith, x, total_push pieces content, no_parentheses, byte_less b rest.bytes)
pattern_on (PatternPass next mark) b rest r pieces content all go f h =
    omega (arith, f next mark pieces content h, byte_less b rest.bytes)
pattern_on (PatternKeep next mark) b rest r pieces content all go f h =
    omega (arith, f next mark pieces (content ++ b ∷ []) h, last_byte b content rest.bytes)
pattern_on PatternUnfit b rest r pieces content all go f h = absurd (cc)
pattern_on PatternBad b rest r pieces content all go f h = absurd (cc)

pattern_from_left : (u : Open) (m : Sign) (pieces : List (List ℕ)) (content : List ℕ) (at : ℕ) (bs : List ℕ)
    (all : List (List ℕ)) (r : Rest) → pattern_from u m pieces content at bs ≡ Some (all, r) → total all + left r
    ≤ total pieces + parentheses content + parentheses bs
pattern_from_left u m pieces content at [] all r h = absurd (cc)
pattern_from_left u m pieces content at (b ∷ bs) all r h =
    pattern_on (pattern_step u m b) b (record { at = at + 1; bytes = bs }) r pieces content all (λ next sign ps more.
    pattern_from next sign ps more (at + 1) bs)
    (λ next sign ps more e. pattern_from_left next sign ps more (at + 1) bs all r e) h

behind_same : (ps : List (List ℕ))
    → parentheses (printed.each_behind (codes ".*") (map (escaped_text is_pattern_mark) ps))
    ≡ total ps
behind_same [] = no_parentheses
behind_same (p ∷ ps) =
    let signs = escaped_text is_pattern_mark p in
    let more = printed.each_behind (codes ".*") (map (escaped_text is_pattern_mark) ps) in
    omega (
      arith,
      other_byte 46 (42 ∷ (signs ++ more)) refl,
      other_byte 42 (signs ++ more) refl,
      parentheses_append signs more,
      escaped_same is_pattern_mark p,
      behind_same ps,
    )

signs_same : (ps : List (List ℕ)) → parentheses (pattern_signs ps) ≡ total ps
signs_same [] = no_parentheses
signs_same (p ∷ ps) =
    omega (
      arith,
      parentheses_append (escaped_text is_pattern_mark p)
          (printed.each_behind (codes ".*") (map (escaped_text is_pattern_mark) ps)),
      escaped_same is_pattern_mark p,
      behind_same ps,
    )

pattern_left : (s r : Rest) (pieces : List (List ℕ)) → pattern_at s ≡ Some (pieces, r)
    → parentheses (quotation (pattern_signs pieces)) + left r ≤ left s
pattern_left s r pieces h =
    let x = followed (sign_at 34 s) (λ quote. pattern_from Whole Plain [] [] quote.at quote.bytes) (pieces, r) h in
    omega (
      arith,
      pattern_from_left Whole Plain [] [] x.0.at x.0.bytes pieces r x.2,
      sign_left 34 s x.0 x.1,
      quoted_same (pattern_signs pieces),
      signs_same pieces,
      no_parentheses,
    )

true_none : parentheses (codes "true") ≡ 0
unfolding parentheses
true_none = refl

false_none : parentheses (codes "false") ≡ 0
unfolding parentheses
false_none = refl

abbrev ValueLeft : Rest → FieldValue × Rest → Type 0
ValueLeft s x = parentheses (value_text x.0) + left x.1 ≤ left s

value_left : (s : Rest) (x : FieldValue × Rest) → literal_at s ≡ Some x → ValueLeft s x
value_left s x =
    let b = head (skip s) in
    if_given (b == 34) (option_and_then text_value (text_at s)) _ x (ValueLeft s x)
    (λ h. let t = followed (text_at s) text_value x h in subst (ValueLeft s) (same_item (field.Text t.0.0, t.0.1) x t.2)
    (text_left s t.0.1 t.0.0 t.1))
    (if_given (b == 116) (option_and_then (truth_value true) (keyword_at (codes "true") s)) _ x (ValueLeft s x)
    (λ h. let t = followed (keyword_at (codes "true") s) (truth_value true) x h in
    subst (ValueLeft s) (same_item (field.Bool true, t.0) x t.2)
    (omega (arith, true_none, word_left (codes "true") s t.0 t.1)))
    (if_given (b == 102) (option_and_then (truth_value false) (keyword_at (codes "false") s)) _ x (ValueLeft s x)
    (λ h. let t = followed (keyword_at (codes "false") s) (truth_value false) x h in
    subst (ValueLeft s) (same_item (field.Bool false, t.0) x t.2)
    (omega (arith, false_none, word_left (codes "false") s t.0 t.1)))
    (if_given (b == 45 || is_digit b) (option_and_then number_value (signed_at s)) None x (ValueLeft s x)
    (λ h. let t = followed (signed_at s) number_value x h in subst (ValueLeft s) (same_item (field.Int t.0.0, t.0.1) x t.2)
    (omega (arith, signed_none t.0.0 (signed_lawful s t.0.1 t.0.0 t.1), signed_left s t.0.1 t.0.0 t.1)))
    (λ h. absurd (cc)))))

abbrev ComparisonLeft : Rest → Comparison × Rest → Type 0
ComparisonLeft s x = left x.1 ≤ left s

and_equal_left : (c : Comparison) (s q : Rest) (x : Comparison × Rest) → left q ≤ left s → and_equal c q ≡ Some x
    → ComparisonLeft s x
and_equal_left c s q x low = if_given (head q == 61) (Some (c, behind q)) None x (ComparisonLeft s x)
    (λ h. subst (ComparisonLeft s) (same_item (c, behind q) x h) (omega (arith, low, behind_left q))) (λ h. absurd (cc))

or_equal_left : (b c : Comparison) (s q : Rest) (x : Comparison × Rest) → left q ≤ left s → or_equal b c q ≡ Some x
    → ComparisonLeft s x
or_equal_left b c s q x low =
    if_given (head q == 61) (Some (c, behind q)) (Some (b, q)) x (ComparisonLeft s x)
    (λ h. subst (ComparisonLeft s) (same_item (c, behind q) x h) (omega (arith, low, behind_left q)))
    (λ h. subst (ComparisonLeft s) (same_item (b, q) x h) low)

comparison_left : (s : Rest) (x : Comparison × Rest) → comparison_at s ≡ Some x → ComparisonLeft s x
comparison_left s x =
    let t = skip s in
    let low : left (behind t) ≤ left s = omega (arith, behind_left t, skip_left s) in
    if_given (head t == 61) (and_equal comparison.Equal (behind t)) _ x (ComparisonLeft s x)
    (and_equal_left comparison.Equal s (behind t) x low)
    (if_given (head t == 33) (and_equal comparison.NotEqual (behind t)) _ x (ComparisonLeft s x)
    (and_equal_left comparison.NotEqual s (behind t) x low)
    (if_given (head t == 60) (or_equal comparison.Less comparison.AtMost (behind t)) _ x (ComparisonLeft s x)
    (or_equal_left comparison.Less comparison.AtMost s (behind t) x low)
    (if_given (head t == 62) (or_equal comparison.Greater comparison.AtLeast (behind t)) None x (ComparisonLeft s x)
    (or_equal_left comparison.Greater comparison.AtLeast s (behind t) x low) (λ h. absurd (cc)))))

comparison_none : (how : Comparison) → parentheses (comparison_text how) ≡ 0
unfolding parentheses
comparison_none comparison.Equal = refl
comparison_none comparison.NotEqual = refl
comparison_none comparison.Less = refl
comparison_none comparison.AtMost = refl
comparison_none comparison.Greater = refl
comparison_none comparison.AtLeast = refl

-- what stands between two operands
abbrev pub IsBare : List ℕ → Type 0
IsBare bytes = parentheses bytes ≡ 0

plus_bare : IsBare (codes " + ")
unfolding parentheses
plus_bare = refl

minus_bare : IsBare (codes " - ")
unfolding parentheses
minus_bare = refl

and_bare : IsBare (codes " && ")
unfolding parentheses
and_bare = refl

or_bare : IsBare (codes " || ")
unfolding parentheses
or_bare = refl

like_bare : IsBare (codes " =~ ")
unfolding parentheses
like_bare = refl

comma_bare : IsBare (codes ", ")
unfolding parentheses
comma_bare = refl

percentile_bare : parentheses (codes "percentile(") ≡ 1
unfolding parentheses
percentile_bare = refl

-- two texts with a bare one between them
pub between : (a b c : List ℕ) → parentheses b ≡ 0 → parentheses (a ++ (b ++ c)) ≡ parentheses a + parentheses c
between a b c h = omega (arith, parentheses_append a (b ++ c), parentheses_append b c, h)

-- an operand has one pair of parentheses more at most
operand_more : (e : SumTree) → parentheses (sum_text true e) ≤ parentheses (sum_text false e) + 1
operand_more (tree.Column n) = omega arith
operand_more (tree.Number at z) = omega arith
operand_more (tree.Plus l e) = omega (arith, around (sum_text false l ++ (codes " + " ++ sum_text true e)))
operand_more (tree.Minus l e) = omega (arith, around (sum_text false l ++ (codes " - " ++ sum_text true e)))
operand_more (tree.Percentile at n p) = omega arith

operand_less : (e : SumTree) → parentheses (sum_text false e) ≤ parentheses (sum_text true e)
operand_less (tree.Column n) = omega arith
operand_less (tree.Number at z) = omega arith
operand_less (tree.Plus l e) = omega (arith, around (sum_text false l ++ (codes " + " ++ sum_text true e)))
operand_less (tree.Minus l e) = omega (arith, around (sum_text false l ++ (codes " - " ++ sum_text true e)))
operand_less (tree.Percentile at n p) = omega arith

percentile_text : (n : List ℕ) (p : ℕ) → parentheses n ≡ 0 → p ≤ 100 → parentheses (codes "percentile("
    ++ (n ++ share_text p)) ≡ 1
percentile_text n p h low =
    omega (
      arith,
      parentheses_append (codes "percentile(") (n ++ share_text p),
      percentile_bare,
      between n (codes ", ") (decimal p ++ 41 ∷ []) comma_bare,
      h,
      parentheses_append (decimal p) (41 ∷ []),
      decimal_none p (omega (arith, low)),
      other_byte 41 [] refl,
      no_parentheses,
    )

mutual
  pub sum_left : {d : ℕ} {s r : Rest} {e : SumTree} → Sum d s r e → parentheses (sum_text false e) + left r ≤ left s
  sum_left (one_term {e = e} t) = omega (arith, term_left t, operand_less e)
  sum_left (plus {m = m} {k = k} {l = l} {e = e} S g T) =
      omega (
        arith,
        sum_left S,
        sign_left 43 m k g,
        term_left T,
        between (sum_text false l) (codes " + ")
            (sum_text true e) plus_bare,
      )
  sum_left (minus {m = m} {k = k} {l = l} {e = e} S g T) =
      omega (
        arith,
        sum_left S,
        sign_left 45 m k g,
        term_left T,
        between (sum_text false l) (codes " - ")
            (sum_text true e) minus_bare,
      )

  pub term_left : {d : ℕ} {s r : Rest} {e : SumTree} → Term d s r e → parentheses (sum_text true e) + left r ≤ left s
  term_left {s = s} {r = r} (column {n = n} e) = name_left s r n e
  term_left {s = s} {r = r} (number {z = z} e) =
      omega (arith, signed_none z (signed_lawful s r z e), signed_left s r z e)
  term_left {s = s} {r = r} (percentile {a = a} {b = b} {c = c} {e = e} {f = f} {w = w} {n = n} {p = p} h1 h2 h3 h4 h5
      h6 h7) =
      omega (
        arith,
        percentile_text n.text p (name_none n.text (name_lawful b c n h4))
            (positive_lawful 100 (omega arith) e f p h6).1,
        name_left s a w h1,
        open_left a b h3,
        name_left b c n h4,
        sign_left 44 c e h5,
        positive_left 100 e f p h6,
        sign_left 41 f r h7,
      )
  term_left {s = s} {r = r} (sum_in_parentheses {m = m} {k = k} {e = e} h S g) =
      omega (arith, operand_more e, open_left s m h, sum_left S, sign_left 41 k r g)

-- how the texts of one predicate differ
record TextsDiffer (p : PredicateTree) : Type 0 where
  pub conjunction : parentheses (predicate_text 0 p) ≤ parentheses (predicate_text 1 p)
  pub negation : parentheses (predicate_text 1 p) ≤ parentheses (predicate_text 2 p)
  pub grouped : parentheses (predicate_text 2 p) ≤ parentheses (predicate_text 0 p) + 1

texts_differ : (p : PredicateTree) → TextsDiffer p
texts_differ (tree.Compare n how v) = record {
  conjunction = omega arith;
  negation = omega arith;
  grouped =
      omega arith;
}
texts_differ (tree.Like n pattern) = record { conjunction = omega arith; negation = omega arith; grouped = omega arith }
texts_differ (tree.Not p) = record { conjunction = omega arith; negation = omega arith; grouped = omega arith }
texts_differ (tree.And l p) =
    let e = around (predicate_text 1 l ++ (codes " && " ++ predicate_text 2 p)) in
    record { conjunction = omega arith; negation = omega (arith, e); grouped = omega (arith, e) }
texts_differ (tree.Or l p) =
    let e = around (predicate_text 0 l ++ (codes " || " ++ predicate_text 1 p)) in
    record { conjunction = omega (arith, e); negation = omega arith; grouped = omega (arith, e) }

space_bare : IsBare (codes " ")
unfolding parentheses
space_bare = refl

condition_text : (n how v : List ℕ) → parentheses how ≡ 0 → parentheses (n ++ (codes " " ++ (how ++ (codes " " ++ v))))
    ≡ parentheses n + parentheses v
condition_text n how v h = omega (
  arith,
  between n (codes " ") (how ++ (codes " " ++ v)) space_bare,
  between how (codes " ") v space_bare,
  h,
)

mutual
  pub disjunction_left : {d : ℕ} {s r : Rest} {p : PredicateTree} → Disjunction d s r p
      → parentheses (predicate_text 0 p) + left r ≤ left s
  disjunction_left (one_conjunction {p = p} C) = let x = texts_differ p in
      omega (arith, x.conjunction, conjunction_left C)
  disjunction_left (or {m = m} {k = k} {l = l} {p = p} L w R) =
      omega (
        arith,
        disjunction_left L,
        word_left (codes "||") m k w,
        conjunction_left R,
        between (predicate_text 0 l)
            (codes " || ") (predicate_text 1 p) or_bare,
      )

  pub conjunction_left : {d : ℕ} {s r : Rest} {p : PredicateTree} → Conjunction d s r p
      → parentheses (predicate_text 1 p) + left r ≤ left s
  conjunction_left (one_negation {p = p} N) = let x = texts_differ p in omega (arith, x.negation, negation_left N)
  conjunction_left (and {m = m} {k = k} {l = l} {p = p} L w R) =
      omega (
        arith,
        conjunction_left L,
        word_left (codes "&&") m k w,
        negation_left R,
        between (predicate_text 1 l)
            (codes " && ") (predicate_text 2 p) and_bare,
      )

  pub negation_left : {d : ℕ} {s r : Rest} {p : PredicateTree} → Negation d s r p → parentheses (predicate_text 2 p)
      + left r ≤ left s
  negation_left {s = s} (not {m = m} {p = p} g N) =
      omega (arith, sign_left 33 s m g, negation_left N, other_byte 33 (predicate_text 2 p) refl)
  negation_left {s = s} {r = r} (in_parentheses {m = m} {k = k} {p = p} h D g) = let x = texts_differ p in
      omega (arith, x.grouped, open_left s m h, disjunction_left D, sign_left 41 k r g)
  negation_left {s = s} {r = r} (compare {m = m} {k = k} {n = n} {c = c} {v = v} h g i) =
      omega (
        arith,
        name_left s m n h,
        comparison_left m (c, k) g,
        value_left k (v, r) i,
        condition_text n.text (comparison_text c) (value_text v) (comparison_none c),
      )
  negation_left {s = s} {r = r} (like {m = m} {k = k} {n = n} {ps = ps} h g i) =
      omega (
        arith,
        name_left s m n h,
        word_left (codes "=~") m k g,
        pattern_left k r ps i,
        between n.text (codes " =~ ") (quotation (pattern_signs ps)) like_bare,
      )
