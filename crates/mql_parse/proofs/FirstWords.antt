-- Which word a token is of, by its first two bytes, and what each word allows beside it.
use Rattle.std.proofs.Common.{◌≡◌, ◌⊎◌, inl, inr, ℕ, ◌≤◌, Bool, true, false, ◌==◌, ◌||◌, ◌&&◌, not, nat_le, List, []}
use Rattle.std.proofs.Common.{◌∷◌, ◌++◌, codes, refl, sym, ap, ◌∙◌, subst, arith, if◌then◌else◌, Option, Some, None}
use Rattle.std.proofs.Common.{option_and_then}
use Rattle.std.proofs.lemmas.Bool.{false≢true}
use Rattle.std.proofs.lemmas.Bool.Decides.{nat_tests}
use Rattle.mql_ast.specs.declared.predicates.Comparison.{Comparison}
use Rattle.mql_ast.specs.declared.pipes.How.TheVariants as how
use Rattle.mql_ast.specs.Tokens.{is_blank, is_digit, Rest, first_of, head, behind, skip, sign_at, keyword_at, metric_at}
use Rattle.mql_ast.specs.Tokens.{metric_behind, positive_at, number_at, duration_at, longest, with_unit}
use Rattle.mql_ast.specs.Quotes.{Whole, Plain, text_from, pattern_from}
use Rattle.mql_ast.specs.Grammar.{start, comparison_at, how_word}
use Rattle.mql_parse.specs.declared.faults.What.{What}
use Rattle.mql_parse.specs.declared.faults.What.TheVariants as what
use Rattle.mql_parse.specs.WordOrder.{rank, stands_alone, allows}
use Rattle.mql_parse.specs.FaultTokens.{IsReadWhole, IsOneOf, IsBare, aligner_words, fold_words, operation_words}
use Rattle.mql_parse.proofs.RestLemmas.{skip_off}
use Rattle.mon_value.proofs.PlainLemmas.{equal_numbers, nothing_is}
use Rattle.mql_parse.proofs.ValueEndings.{some_before}
use Rattle.mql_parse.proofs.ByteLemmas.{and_first}

-- the word that letters begin
abbrev lettered : ℕ → ℕ → What
lettered b c =
    if b == 102 then (if c == 101 then what.Fetch else (if c == 97 then what.Truth else what.Operation)) else
    (if b == 116 then (if c == 114 then what.Truth else what.Operation) else
    (if b == 97 then (if c == 103 then what.Aggregate else what.Operation) else
    (if b == 100 || b == 110 then what.Aligner else
    (if b == 99 || b == 115 || b == 109 then what.Aggregate else
    (if b == 106 || b == 117 then what.How else what.Operation)))))

-- the word that a sign begins
abbrev signed : ℕ → ℕ → What
signed b c =
    if b == 123 then what.OpenBrace else (if b == 125 then what.CloseBrace else
    (if b == 91 then what.OpenBracket else (if b == 93 then what.CloseBracket else
    (if b == 40 then what.OpenParenthesis else (if b == 41 then what.CloseParenthesis else
    (if b == 58 then (if c == 58 then what.Colons else what.Colon) else (if b == 44 then what.Comma else
    (if b == 59 then what.Semicolon else (if b == 124 then what.Bar else (if b == 38 then what.And else
    (if b == 43 then what.Plus else (if b == 45 then what.Minus else lettered b c))))))))))))

-- the first of the words that these two bytes begin
abbrev pub told : ℕ → ℕ → What
told b c =
    if is_digit b then what.Number else (if b == 95 then what.Name else (if b == 47 then what.Metric else
    (if b == 34 then what.Text else
    (if b == 61 || b == 33 || b == 60 || b == 62 then what.Comparison else signed b c))))

-- the words that others stand behind, which begin so too: a number of a duration, `!=` of `!`, `::` of `:`, `|` of `||`
abbrev pub loose : What → Bool
loose w = rank w == 4 || rank w == 7 || rank w == 18 || rank w == 22

abbrev pub Starts : What → ℕ → ℕ → Type 0
Starts v b c = (v ≡ told b c) ⊎ ((loose (told b c) ≡ true) × (rank (told b c) ≤ rank v))

-- a token, with what stands behind it
abbrev pub StartsOn : What → List ℕ → List ℕ → Type 0
StartsOn v more [] = ⊥
StartsOn v more (b ∷ rest) = (is_blank b ≡ false) × Starts v b (first_of (rest ++ more))

byte_starts : (v : What) (b k c : ℕ) → (b == k) ≡ true → Starts v k c → Starts v b c
byte_starts v b k c e h = subst (λ n. Starts v n c) (sym (equal_numbers b k e)) h

pub digit_told : (b c : ℕ) → is_digit b ≡ true → told b c ≡ what.Number
digit_told b c h = ap (λ t. if t then what.Number else (if b == 95 then what.Name else
    (if b == 47 then what.Metric else (if b == 34 then what.Text else
    (if b == 61 || b == 33 || b == 60 || b == 62 then what.Comparison else signed b c))))) h

digit_starts : (v : What) (b c : ℕ) → rank what.Number ≤ rank v → is_digit b ≡ true → Starts v b c
digit_starts v b c l h = let e = digit_told b c h in
    inr (ap loose e, subst (λ n. n ≤ rank v) (sym (ap rank e)) l)

-- what is read behind no blank
solid : (b : ℕ) (rest : List ℕ) → is_blank b ≡ false → skip (start (b ∷ rest)) ≡ start (b ∷ rest)
solid b rest h = skip_off (start (b ∷ rest)) h

pub some_by : {A : Type 0} (t : Bool) (o : Option A) (x : A) → (if t then o else None) ≡ Some x → t ≡ true
some_by true o x h = refl
some_by false o x h = absurd (nothing_is x h)

positive_digit : (most b : ℕ) (rest : List ℕ) (x : ℕ × Rest) → is_blank b ≡ false →
    positive_at most (start (b ∷ rest)) ≡ Some x → is_digit b ≡ true
positive_digit most b rest x h f =
    let s = solid b rest h in
    and_first (is_digit b) (not (b == 48))
    (ap (λ t. is_digit (head t) && not (head t == 48)) (sym s) ∙ some_by _ _ x f)

number_digit : (most b : ℕ) (rest : List ℕ) (x : ℕ × Rest) → is_blank b ≡ false →
    number_at most (start (b ∷ rest)) ≡ Some x → is_digit b ≡ true
number_digit most b rest x h f =
    by_zero (head (skip (start (b ∷ rest))) == 48) (ap (λ t. head t == 48) (sym (solid b rest h))) f
  where
    by_zero : (t : Bool) → (b == 48) ≡ t → (if t then Some (0, behind (skip (start (b ∷ rest)))) else
        positive_at most (start (b ∷ rest))) ≡ Some x → is_digit b ≡ true
    by_zero true e g = ap is_digit (equal_numbers b 48 e)
    by_zero false e g = positive_digit most b rest x h g

number_starts : (most : ℕ) (t more : List ℕ) → IsReadWhole (number_at most) t → StartsOn what.Number more t
unfolding skip
number_starts most [] more h = absurd (nothing_is _ h.1.1)
number_starts most (b ∷ rest) more h =
    (h.0, digit_starts what.Number b _ (omega arith) (number_digit most b rest _ h.0 h.1.1))

unit_starts : (t more : List ℕ) → IsReadWhole duration_at t → StartsOn what.Unit more t
unfolding skip
unit_starts [] more h = absurd (nothing_is _ h.1.1)
unit_starts (b ∷ rest) more h =
    let read = some_before (positive_at longest (start (b ∷ rest))) with_unit _ h.1.1 in
    (h.0, digit_starts what.Unit b _ (omega arith) (positive_digit longest b rest read.0 h.0 read.1))

metric_starts : (t more : List ℕ) → IsReadWhole metric_at t → StartsOn what.Metric more t
unfolding skip
metric_starts [] more h = absurd (nothing_is _ h.1.1)
metric_starts (b ∷ rest) more h =
    let read = some_before (keyword_at (codes "/") (start (b ∷ rest))) (metric_behind (skip (start (b ∷ rest))).at)
    _ h.1.1 in (
      h.0,
      byte_starts what.Metric b 47 _ (ap (λ t. head t == 47) (sym (solid b rest h.0)) ∙ some_by _ _ read.0 read.1)
          (inl refl),
    )

abbrev quoted : {A : Type 0} → (Rest → Option A) → Rest → Option A
quoted f s = option_and_then f (sign_at 34 s)

quote_starts : {A : Type 0} (f : Rest → Option A) (x : A) (t more : List ℕ) → is_blank (first_of t) ≡ false →
    quoted f (start t) ≡ Some x → StartsOn what.Text more t
unfolding skip
quote_starts f x [] more h e = absurd (nothing_is x e)
quote_starts f x (b ∷ rest) more h e =
    let read = some_before (sign_at 34 (start (b ∷ rest))) f x e in (
      h,
      byte_starts what.Text b 34 _ (ap (λ t. head t == 34) (sym (solid b rest h)) ∙ some_by _ _ read.0 read.1)
          (inl refl),
    )

comparison_by : (b : ℕ) (o p q r : Option (Comparison × Rest)) (x : Comparison × Rest) (c : ℕ) →
    (if b == 61 then o else (if b == 33 then p else (if b == 60 then q else (if b == 62 then r else None)))) ≡ Some x →
    Starts what.Comparison b c
comparison_by b o p q r x c e = first (b == 61) refl e
  where
    fourth : (t : Bool) → (b == 62) ≡ t → (if t then r else None) ≡ Some x → Starts what.Comparison b c
    fourth true e f = byte_starts what.Comparison b 62 c e (inl refl)
    fourth false e f = absurd (nothing_is x f)

    third : (t : Bool) → (b == 60) ≡ t → (if t then q else (if b == 62 then r else None)) ≡ Some x →
        Starts what.Comparison b c
    third true e f = byte_starts what.Comparison b 60 c e (inl refl)
    third false e f = fourth (b == 62) refl f

    second : (t : Bool) → (b == 33) ≡ t → (if t then p else (if b == 60 then q else (if b == 62 then r else None))) ≡
        Some x → Starts what.Comparison b c
    second true e f = byte_starts what.Comparison b 33 c e (inl refl)
    second false e f = third (b == 60) refl f

    first : (t : Bool) → (b == 61) ≡ t →
        (if t then o else (if b == 33 then p else (if b == 60 then q else (if b == 62 then r else None)))) ≡ Some x →
        Starts what.Comparison b c
    first true e f = byte_starts what.Comparison b 61 c e (inl refl)
    first false e f = second (b == 33) refl f

comparison_starts : (t more : List ℕ) → IsReadWhole comparison_at t → StartsOn what.Comparison more t
unfolding skip
comparison_starts [] more h = absurd (nothing_is _ h.1.1)
comparison_starts (b ∷ rest) more h =
    let t = skip (start (b ∷ rest)) in (
      h.0,
      subst (λ n. Starts what.Comparison n (first_of (rest ++ more))) (ap head (solid b rest h.0))
          (comparison_by (head t) _ _ _ _ _ (first_of (rest ++ more)) h.1.1),
    )

colon_starts : (c : ℕ) → Starts what.Colon 58 c
colon_starts c = either (c == 58)
  where
    either : (t : Bool) → (what.Colon ≡ (if t then what.Colons else what.Colon)) ⊎
        ((loose (if t then what.Colons else what.Colon) ≡ true) ×
        (rank (if t then what.Colons else what.Colon) ≤ rank what.Colon))
    either true = inr (refl, omega arith)
    either false = inl refl

-- one of these words, each of which begins so
abbrev EachStarts : What → List ℕ → List (List ℕ) → Type 0
EachStarts v more [] = Unit {0}
EachStarts v more (word ∷ words) = StartsOn v more word × EachStarts v more words

one_starts : (v : What) (more : List ℕ) (words : List (List ℕ)) (t : List ℕ) → EachStarts v more words →
    IsOneOf words t → StartsOn v more t
one_starts v more [] t k h = absurd h
one_starts v more (word ∷ words) t k (inl h) = subst (StartsOn v more) (sym h) k.0
one_starts v more (word ∷ words) t k (inr h) = one_starts v more words t k.1 h

-- a token begins as its word does
pub bare_starts : (v : What) (t more : List ℕ) → IsBare v t → StartsOn v more t
bare_starts what.Fetch t more h = subst (StartsOn what.Fetch more) (sym h) (refl, inl refl)
bare_starts what.Name t more h = subst (StartsOn what.Name more) (sym h) (refl, inl refl)
bare_starts what.Metric t more h = metric_starts t more h
bare_starts what.Text t more (inl h) = quote_starts (λ q. text_from Whole [] q.at q.bytes) _ t more h.0 h.1.1
bare_starts what.Text t more (inr h) =
    quote_starts (λ q. pattern_from Whole Plain [] [] q.at q.bytes) _ t more h.0 h.1.1
bare_starts what.Number t more h = number_starts h.0 t more h.1
bare_starts what.Unit t more h = unit_starts t more h
bare_starts what.Truth t more h =
    one_starts what.Truth more (codes "true" ∷ codes "false" ∷ []) t ((refl, inl refl), ((refl, inl refl), tt)) h
bare_starts what.Comparison t more (inl h) = comparison_starts t more h
bare_starts what.Comparison t more (inr h) = subst (StartsOn what.Comparison more) (sym h) (refl, inl refl)
bare_starts what.Aligner t more h = one_starts what.Aligner more aligner_words t
    ((refl, inl refl), ((refl, inl refl), tt)) h
bare_starts what.Aggregate t more h = one_starts what.Aggregate more fold_words t (
  (refl, inl refl),
  (
    (refl, inl refl),
    ((refl, inl refl), ((refl, inl refl), ((refl, inl refl), ((refl, inl refl), ((refl, inl refl), tt))))),
  ),
) h
bare_starts what.Operation t more h = one_starts what.Operation more operation_words t (
  (refl, inl refl),
  (
    (refl, inl refl),
    ((refl, inl refl), ((refl, inl refl), ((refl, inl refl), ((refl, inl refl), ((refl, inl refl), tt))))),
  ),
) h
bare_starts what.How t more h =
    one_starts what.How more (how_word how.Join ∷ how_word how.Union ∷ []) t ((refl, inl refl), ((refl, inl refl), tt))
    h
bare_starts what.OpenBrace t more h = subst (StartsOn what.OpenBrace more) (sym h) (refl, inl refl)
bare_starts what.CloseBrace t more h = subst (StartsOn what.CloseBrace more) (sym h) (refl, inl refl)
bare_starts what.OpenBracket t more h = subst (StartsOn what.OpenBracket more) (sym h) (refl, inl refl)
bare_starts what.CloseBracket t more h = subst (StartsOn what.CloseBracket more) (sym h) (refl, inl refl)
bare_starts what.OpenParenthesis t more h = subst (StartsOn what.OpenParenthesis more) (sym h) (refl, inl refl)
bare_starts what.CloseParenthesis t more h = subst (StartsOn what.CloseParenthesis more) (sym h) (refl, inl refl)
bare_starts what.Colons t more h = subst (StartsOn what.Colons more) (sym h) (refl, inl refl)
bare_starts what.Colon t more h = subst (StartsOn what.Colon more) (sym h) (refl, colon_starts (first_of more))
bare_starts what.Comma t more h = subst (StartsOn what.Comma more) (sym h) (refl, inl refl)
bare_starts what.Semicolon t more h = subst (StartsOn what.Semicolon more) (sym h) (refl, inl refl)
bare_starts what.Bar t more h = subst (StartsOn what.Bar more) (sym h) (refl, inl refl)
bare_starts what.Or t more h = subst (StartsOn what.Or more) (sym h) (refl, inr (refl, omega arith))
bare_starts what.And t more h = subst (StartsOn what.And more) (sym h) (refl, inl refl)
bare_starts what.Not t more h = subst (StartsOn what.Not more) (sym h) (refl, inr (refl, omega arith))
bare_starts what.Plus t more h = subst (StartsOn what.Plus more) (sym h) (refl, inl refl)
bare_starts what.Minus t more h = subst (StartsOn what.Minus more) (sym h) (refl, inl refl)

-- what a word allows beside it, where a name is not told from `fetch`
abbrev pub allowed : What → What → Bool
allowed w v = rank w == 1 || allows w v

abbrev allowed_by : Bool → ℕ → ℕ → Bool
allowed_by alone n m = n == 1 || (if alone then m == n || (n == 0 && m == 12) else nat_le n m)

-- where the one begins as the other may
abbrev pub admits : What → What → Bool
admits w v = allowed w v && (not (loose v) || not (stands_alone w))

loose_allowed : (loose alone : Bool) (n m k : ℕ) → (allowed_by alone n m && (not loose || not alone)) ≡ true →
    loose ≡ true → m ≤ k → allowed_by alone n k ≡ true
loose_allowed true true n m k h l e = grind (arith, nat_tests)
loose_allowed true false n m k h l e = grind (arith, nat_tests)
loose_allowed false alone n m k h l e = absurd (false≢true l)

pub allowed_of : (w u v : What) (b c : ℕ) → Starts v b c → told b c ≡ u → admits w u ≡ true → allowed w v ≡ true
allowed_of w u v b c (inl h) e k =
    subst (λ x. allowed w x ≡ true) (sym (h ∙ e)) (and_first (allowed w u) (not (loose u) || not (stands_alone w)) k)
allowed_of w u v b c (inr h) e k =
    loose_allowed (loose u) (stands_alone w) (rank w) (rank u) (rank v) k (ap loose (sym e) ∙ h.0)
    (subst (λ x. rank x ≤ rank v) e h.1)

-- what the one allows, the other does
abbrev pub leads : What → What → Bool
leads v w = rank w == 1 || (not (rank v == 1) && (nat_le (rank w) (rank v) && not (stands_alone w)))

leads_allowed : (a b : Bool) (n m k : ℕ) → (m == 1 || (not (n == 1) && (nat_le m n && not b))) ≡ true →
    allowed_by a n k ≡ true → allowed_by b m k ≡ true
leads_allowed true true n m k h e = grind (arith, nat_tests)
leads_allowed true false n m k h e = grind (arith, nat_tests)
leads_allowed false true n m k h e = grind (arith, nat_tests)
leads_allowed false false n m k h e = grind (arith, nat_tests)

pub allowed_later : (v w u : What) → leads v w ≡ true → allowed v u ≡ true → allowed w u ≡ true
allowed_later v w u h e = leads_allowed (stands_alone v) (stands_alone w) (rank v) (rank w) (rank u) h e
