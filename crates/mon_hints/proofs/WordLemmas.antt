-- The children that have a bucket.
use Rattle.std.proofs.Common.{◌≡◌, ℕ, zero, suc, ◌<◌, ◌≤◌, Bool, true, false, cond, ◌==◌, ◌&&◌, ◌||◌, List, [], ◌∷◌}
use Rattle.std.proofs.Common.{length, get_or, refl, sym, ap, ◌∙◌, ◌⊎◌, inl, inr, arith, AllPairs}
use Rattle.std.specs.Prelude.{bit_or}
use Rattle.std.proofs.lemmas.Bool.{cases_lt, eq-eqb, ne_eqb}
use Rattle.std.proofs.lemmas.Nat.Bits.{bit_at-zero}
use Rattle.mon_hints.specs.Formulas.{is_among}
use Rattle.mon_hints.specs.Hints.{IsMask, buckets_of_child, has_bit}
use Rattle.mon_hints.proofs.MaskLemmas.{AnyLeft, any_end, any_step}
use Rattle.mon_value.proofs.PlainLemmas.{and_true, or_false, and_false}

-- a bucket is that of a first word with the bit, or among those of the others
pub first_or_rest : (b : Bool) (bucket first : ℕ) (rest : List ℕ) →
    is_among bucket (cond b (first ∷ rest) rest) ≡ ((b && (bucket == first)) || is_among bucket rest)
first_or_rest true bucket first rest = refl
first_or_rest false bucket first rest = refl

-- another first bucket plays no part
first_differs : (bucket first word : ℕ) (named words : List ℕ) (child : ℕ) → (bucket ≡ first → ⊥) →
    is_among bucket (buckets_of_child (first ∷ named) (word ∷ words) child) ≡ is_among bucket
    (buckets_of_child named words child)
first_differs bucket first word named words child differ =
    first_or_rest (has_bit word child) bucket first (buckets_of_child named words child)
    ∙ ap (λ same. (has_bit word child && same) || is_among bucket (buckets_of_child named words child))
    (ne_eqb bucket first differ)
    ∙ ap (λ some. some || is_among bucket (buckets_of_child named words child)) (and_false (has_bit word child))

pub absent : (bucket : ℕ) (named words : List ℕ) (child : ℕ) →
    ((k : ℕ) → k < length named → get_or named k 0 ≡ bucket → ⊥) → is_among bucket (buckets_of_child named words child)
    ≡ false
absent bucket [] words child never = refl
absent bucket (first ∷ named) [] child never = refl
absent bucket (first ∷ named) (word ∷ words) child never =
    first_differs bucket first word named words child (λ e. never 0 (omega arith) (sym e))
    ∙ absent bucket named words child (λ k h e. never (suc k) (omega arith) e)

pub present : (bucket : ℕ) (named words : List ℕ) (child place : ℕ) → AllPairs (λ x y. x < y) named → place
    < length named →
    get_or named place 0 ≡ bucket → is_among bucket (buckets_of_child named words child)
    ≡ has_bit (get_or words place 0) child
present bucket [] words child place rises h e = absurd (omega arith)
present bucket (first ∷ named) [] child place rises h e = sym (ap (λ bit. bit == 1) (bit_at-zero child))
present bucket (first ∷ named) (word ∷ words) child zero rises h e =
    let others = absent bucket named words child (λ k low same.
    let up : first < get_or named k 0 = rises 0 (suc k) 0 (omega arith) (omega arith) in omega (arith, up, same, e)) in
    first_or_rest (has_bit word child) bucket first (buckets_of_child named words child)
    ∙ ap (λ same. (has_bit word child && same) || is_among bucket (buckets_of_child named words child))
    (eq-eqb bucket first (sym e))
    ∙ ap (λ some. some || is_among bucket (buckets_of_child named words child)) (and_true (has_bit word child))
    ∙ ap (λ more. has_bit word child || more) others ∙ or_false (has_bit word child)
present bucket (first ∷ named) (word ∷ words) child (suc place) rises h e =
    let up : first < get_or named place 0 = rises 0 (suc place) 0 (omega arith) (omega arith) in
    first_differs bucket first word named words child (λ same. omega (arith, up, same, e))
    ∙ present bucket named words child place (λ i j d low high. rises (suc i) (suc j) d (omega arith) (omega arith))
    (omega arith) e

-- numbers that rise don't fall
pub rising_weakly : (numbers : List ℕ) → AllPairs (λ x y. x < y) numbers → (i j : ℕ) → i ≤ j → j < length numbers →
    get_or numbers i 0 ≤ get_or numbers j 0
rising_weakly numbers rises i j low high = elim (cases_lt i j) [
  | inl below ↦ let up : get_or numbers i 0 < get_or numbers j 0 = rises i j 0 below high in omega (arith, up)
  | inr same ↦ let e : i ≡ j = omega arith in rw e (omega arith)
]

-- ---- gathered from all

pub more_gathered : (bucket mask name word : ℕ) (named words others rest : List ℕ) (any : ℕ → Bool) → named
    ≡ name ∷ others →
    words ≡ word ∷ rest → name ≡ bucket → AnyLeft mask (λ child. is_among bucket (buckets_of_child named words child))
    any →
    AnyLeft (bit_or mask word) (λ child. is_among bucket (buckets_of_child others rest child)) any
more_gathered bucket mask name word named words others rest any e f here left =
    any_step mask word (has_bit word) (λ child. is_among bucket (buckets_of_child others rest child)) any
    (λ child h. ap (λ more. has_bit mask child || more)
    (sym (ap (λ all. is_among bucket (buckets_of_child all words child)) e
    ∙ ap (λ all. is_among bucket (buckets_of_child (name ∷ others) all child)) f
    ∙ first_or_rest (has_bit word child) bucket name (buckets_of_child others rest child)
    ∙ ap (λ same. (has_bit word child && same) || is_among bucket (buckets_of_child others rest child))
    (eq-eqb bucket name (sym here))
    ∙ ap (λ some. some || is_among bucket (buckets_of_child others rest child)) (and_true (has_bit word child))))
    ∙ left child h)
    (λ child h. refl)

none_paired : (named words : List ℕ) (child : ℕ) → (named ≡ []) ⊎ (words ≡ []) → buckets_of_child named words child ≡ []
none_paired [] words child e = refl
none_paired (name ∷ named) [] child e = refl
none_paired (name ∷ named) (word ∷ words) child e = elim e [ inl h ↦ absurd cc | inr h ↦ absurd cc ]

pub all_gathered : (bucket mask : ℕ) (named words : List ℕ) (any : ℕ → Bool) → (named ≡ []) ⊎ (words ≡ []) →
    AnyLeft mask (λ child. is_among bucket (buckets_of_child named words child)) any → IsMask mask any
all_gathered bucket mask named words any ended left =
    any_end mask any (λ child h. ap (λ some. has_bit mask child || is_among bucket some)
    (sym (none_paired named words child ended)) ∙ left child h)
