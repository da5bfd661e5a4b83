-- Fronts of a token that are no tokens themselves.
use Rattle.std.proofs.Common.{◌≡◌, inl, inr, ℕ, Bool, true, false, ◌||◌, ◌&&◌, not, List, [], ◌∷◌, ◌++◌, codes, refl}
use Rattle.std.proofs.Common.{sym, ap, ◌∙◌, arith, Option, Some, None, nat_eq}
use Rattle.std.specs.Cmp.Lexicographic.{pointwise}
use Rattle.std.proofs.lemmas.Bool.{false≢true}
use Rattle.std.proofs.lemmas.Bool.Decides.{nat_tests}
use Rattle.mql_ast.specs.declared.pipes.How.TheVariants as how
use Rattle.mql_ast.specs.Tokens.{Rest, is_none_left, skip}
use Rattle.mql_ast.specs.Grammar.{how_word}
use Rattle.mql_parse.specs.declared.faults.What.{What}
use Rattle.mql_parse.specs.declared.faults.What.TheVariants as what
use Rattle.mql_parse.specs.FaultTokens.{IsOneOf, aligner_words, fold_words, operation_words, IsBare}
use Rattle.mql_parse.proofs.ByteLemmas.{not_false, or_second}

-- whether all was read
abbrev pub whole : {A : Type 0} → Option (A × Rest) → Bool
whole None = false
whole (Some x) = is_none_left x.1.bytes

abbrev same_bytes : List ℕ → List ℕ → Bool
same_bytes xs ys = pointwise nat_eq xs ys

same_itself : (xs : List ℕ) → same_bytes xs xs ≡ true
same_itself [] = refl
same_itself (x ∷ xs) = let same : nat_eq x x ≡ true = grind (arith, nat_tests) in
    ap (λ t. t && same_bytes xs xs) same ∙ same_itself xs

-- whether these bytes are one of the words
abbrev is_one_of : List (List ℕ) → List ℕ → Bool
is_one_of [] t = false
is_one_of (word ∷ words) t = same_bytes t word || is_one_of words t

one_found : (words : List (List ℕ)) (t : List ℕ) → IsOneOf words t → is_one_of words t ≡ true
one_found [] t h = absurd h
one_found (word ∷ words) t (inl h) =
    ap (λ b. b || is_one_of words t) (ap (λ u. same_bytes u word) h ∙ same_itself word)
one_found (word ∷ words) t (inr h) = or_second (same_bytes t word) _ (one_found words t h)

-- no front is a token, from what was begun on to the whole
abbrev pub Fronts : What → List ℕ → List ℕ → Type 0
Fronts w begun [] = Unit {0}
Fronts w begun (c ∷ cs) = (IsBare w begun → ⊥) × Fronts w (begun ++ c ∷ []) cs

-- a word of this kind
pub record WordOf (w : What) (c : ℕ) (cs : List ℕ) : Type 0 where
  pub other : w ≡ what.Text → ⊥
  pub bare : IsBare w (c ∷ cs)
  pub fronts : Fronts w (c ∷ []) cs

abbrev fronts_open : List (List ℕ) → List ℕ → List ℕ → Bool
fronts_open words begun [] = true
fronts_open words begun (c ∷ cs) = not (is_one_of words begun) && fronts_open words (begun ++ c ∷ []) cs

-- where tokens of the kind are words
module _ (w : What) (words : List (List ℕ)) (one_of : (t : List ℕ) → IsBare w t → IsOneOf words t) where
  fronts_of : (begun cs : List ℕ) → fronts_open words begun cs ≡ true → Fronts w begun cs
  fronts_of begun [] h = tt
  fronts_of begun (c ∷ cs) h =
      let k = not_false (is_one_of words begun) (fronts_open words (begun ++ c ∷ []) cs) h in
      ((λ t. false≢true (sym k.0 ∙ one_found words begun (one_of begun t))), fronts_of (begun ++ c ∷ []) cs k.1)

  word_of : (c : ℕ) (cs : List ℕ) → (w ≡ what.Text → ⊥) → IsBare w (c ∷ cs) → fronts_open words (c ∷ []) cs ≡ true →
      WordOf w c cs
  word_of c cs o k h = record { other = o; bare = k; fronts = fronts_of (c ∷ []) cs h }

-- the words
pub fetch_word : WordOf what.Fetch 102 (codes "etch")
fetch_word = word_of what.Fetch (codes "fetch" ∷ []) (λ t h. inl h) 102 (codes "etch") (λ e. cc) refl refl

pub colons_word : WordOf what.Colons 58 (58 ∷ [])
colons_word = word_of what.Colons (codes "::" ∷ []) (λ t h. inl h) 58 (58 ∷ []) (λ e. cc) refl refl

pub and_word : WordOf what.And 38 (38 ∷ [])
and_word = word_of what.And (codes "&&" ∷ []) (λ t h. inl h) 38 (38 ∷ []) (λ e. cc) refl refl

pub or_word : WordOf what.Or 124 (124 ∷ [])
or_word = word_of what.Or (codes "||" ∷ []) (λ t h. inl h) 124 (124 ∷ []) (λ e. cc) refl refl

pub filter_word : WordOf what.Operation 102 (codes "ilter")
filter_word = word_of what.Operation operation_words (λ t h. h) 102 (codes "ilter") (λ e. cc) (inl refl) refl

pub align_word : WordOf what.Operation 97 (codes "lign")
align_word = word_of what.Operation operation_words (λ t h. h) 97 (codes "lign") (λ e. cc) (inr (inl refl)) refl

pub group_by_word : WordOf what.Operation 103 (codes "roup_by")
group_by_word = word_of what.Operation operation_words (λ t h. h) 103 (codes "roup_by") (λ e. cc)
    (inr (inr (inl refl))) refl

pub value_word : WordOf what.Operation 118 (codes "alue")
value_word = word_of what.Operation operation_words (λ t h. h) 118 (codes "alue") (λ e. cc)
    (inr (inr (inr (inl refl)))) refl

pub top_word : WordOf what.Operation 116 (codes "op")
top_word = word_of what.Operation operation_words (λ t h. h) 116 (codes "op") (λ e. cc)
    (inr (inr (inr (inr (inl refl))))) refl

pub every_word : WordOf what.Operation 101 (codes "very")
every_word = word_of what.Operation operation_words (λ t h. h) 101 (codes "very") (λ e. cc)
    (inr (inr (inr (inr (inr (inl refl)))))) refl

pub within_word : WordOf what.Operation 119 (codes "ithin")
within_word = word_of what.Operation operation_words (λ t h. h) 119 (codes "ithin") (λ e. cc)
    (inr (inr (inr (inr (inr (inr (inl refl))))))) refl

pub delta_word : WordOf what.Aligner 100 (codes "elta")
delta_word = word_of what.Aligner aligner_words (λ t h. h) 100 (codes "elta") (λ e. cc) (inl refl) refl

pub next_older_word : WordOf what.Aligner 110 (codes "ext_older")
next_older_word = word_of what.Aligner aligner_words (λ t h. h) 110 (codes "ext_older") (λ e. cc) (inr (inl refl)) refl

abbrev truth_words : List (List ℕ)
truth_words = codes "true" ∷ codes "false" ∷ []

pub true_word : WordOf what.Truth 116 (codes "rue")
true_word = word_of what.Truth truth_words (λ t h. h) 116 (codes "rue") (λ e. cc) (inl refl) refl

pub false_word : WordOf what.Truth 102 (codes "alse")
false_word = word_of what.Truth truth_words (λ t h. h) 102 (codes "alse") (λ e. cc) (inr (inl refl)) refl

abbrev how_words : List (List ℕ)
how_words = how_word how.Join ∷ how_word how.Union ∷ []

pub join_word : WordOf what.How 106 (codes "oin")
join_word = word_of what.How how_words (λ t h. h) 106 (codes "oin") (λ e. cc) (inl refl) refl

pub union_word : WordOf what.How 117 (codes "nion")
union_word = word_of what.How how_words (λ t h. h) 117 (codes "nion") (λ e. cc) (inr (inl refl)) refl

pub count_word : WordOf what.Aggregate 99 (codes "ount")
count_word = word_of what.Aggregate fold_words (λ t h. h) 99 (codes "ount") (λ e. cc) (inl refl) refl

pub sum_word : WordOf what.Aggregate 115 (codes "um")
sum_word = word_of what.Aggregate fold_words (λ t h. h) 115 (codes "um") (λ e. cc) (inr (inl refl)) refl

pub min_word : WordOf what.Aggregate 109 (codes "in")
min_word = word_of what.Aggregate fold_words (λ t h. h) 109 (codes "in") (λ e. cc) (inr (inr (inl refl))) refl

pub max_word : WordOf what.Aggregate 109 (codes "ax")
max_word = word_of what.Aggregate fold_words (λ t h. h) 109 (codes "ax") (λ e. cc) (inr (inr (inr (inl refl)))) refl

pub mean_word : WordOf what.Aggregate 109 (codes "ean")
mean_word = word_of what.Aggregate fold_words (λ t h. h) 109 (codes "ean") (λ e. cc) (inr (inr (inr (inr (inl refl)))))
    refl

pub merge_word : WordOf what.Aggregate 109 (codes "erge")
merge_word = word_of what.Aggregate fold_words (λ t h. h) 109 (codes "erge") (λ e. cc)
    (inr (inr (inr (inr (inr (inl refl)))))) refl

pub aggregate_word : WordOf what.Aggregate 97 (codes "ggregate")
aggregate_word = word_of what.Aggregate fold_words (λ t h. h) 97 (codes "ggregate") (λ e. cc)
    (inr (inr (inr (inr (inr (inr (inl refl))))))) refl

-- one sign of a comparison that needs a second
pub one_equals : IsBare what.Comparison (61 ∷ []) → ⊥
unfolding skip
one_equals (inl h) = false≢true (ap whole h.1.1)
one_equals (inr h) = cc

pub one_exclamation : IsBare what.Comparison (33 ∷ []) → ⊥
unfolding skip
one_exclamation (inl h) = false≢true (ap whole h.1.1)
one_exclamation (inr h) = cc
