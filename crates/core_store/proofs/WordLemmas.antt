-- Setting a bit in a table of words.
use Rattle.std.proofs.Common.{◌≡◌, ℕ, ◌+◌, ◌*◌, ◌<◌, ◌≤◌, ◌==◌, ◌||◌, ◌&&◌, true, false, nat_eq, get_or, set}
use Rattle.std.proofs.Common.{sym, ap, ◌∙◌, inl, inr, arith}
use Rattle.std.specs.Prelude.{bit_or}
use Rattle.std.specs.Int.{w64}
use Rattle.std.proofs.lemmas.Bool.{cases_eq, cases_lt, eq-eqb, ne_eqb, false_from_ne_true, and_parts, eqb-true}
use Rattle.std.proofs.lemmas.List.{get_or-set_same, get_or-set_other}
use Rattle.std.proofs.Math.Nat.{add-mul, mul-le-mul_right}
use Rattle.std.proofs.lemmas.Nat.Bits.{bit_at_set_same, bit_at_set_other}
use Rattle.mon_hints.specs.Places.{place_number, same_place}
use Rattle.mon_hints.specs.Hints.{has_bit}
use Rattle.core_store.specs.HintWords.{HasWord, HintTable, RaisesOne, child_bit, index_of, with_child_bit}
use Rattle.core_store.specs.HintWords.{with_raised, hint_word_at}
use Rattle.mon_hints.specs.declared.places.Place.{Place}

-- ---- places of words

below : (a b n x y : ℕ) → a < b → x < n → a * n + x ≡ b * n + y → ⊥
below a b n x y less small e =
    let most : (a + 1) * n ≤ b * n = mul-le-mul_right n (omega (arith, less)) in
    let next : (a + 1) * n ≡ a * n + 1 * n = add-mul a 1 n in
    absurd (omega (arith, most, next, small, e))

same_table : (a b n x y : ℕ) → x < n → y < n → a * n + x ≡ b * n + y → a ≡ b
same_table a b n x y first second e = elim (cases_lt a b) [
  | inl less ↦ absurd (below a b n x y less first e)
  | inr most ↦ elim (cases_lt b a) [
    | inl less ↦ absurd (below b a n y x less second (sym e))
    | inr least ↦ omega (arith, most, least)
  ]
]

same_bucket : (a b n x y : ℕ) → a ≡ b → a * n + x ≡ b * n + y → x ≡ y
same_bucket a b n x y same e =
    let tables : a * n ≡ b * n = ap (λ t. t * n) same in
    omega (arith, tables, e)

-- ---- bits

module _ (hints : HintTable) (place : Place) (child bucket : ℕ) (small : child < 64)
    (there : HasWord hints place bucket)
    (other : Place) (b c : ℕ) (within : b < hints.buckets) where
  abbrev new : ℕ
  new = bit_or (hint_word_at hints place bucket) (child_bit child)

  abbrev Wanted : Type 0
  Wanted = has_bit (hint_word_at (with_child_bit hints place child bucket) other b) c
      ≡ with_raised hints place child bucket other b
      c

  -- another word
  elsewhere : (index_of hints other b ≡ index_of hints place bucket → ⊥) → Wanted
  elsewhere differ =
      let apart : (same_place other place && nat_eq b bucket) ≡ false
      = false_from_ne_true (same_place other place && nat_eq b bucket) (λ e.
      let parts = and_parts (same_place other place) (nat_eq b bucket) e in
      differ (ap (λ t. t * hints.buckets + b) (eqb-true (place_number other) (place_number place) parts.0)
      ∙ ap (λ x. place_number place * hints.buckets + x) (eqb-true b bucket parts.1))) in
      ap (λ read. has_bit read c)
      (get_or-set_other hints.words (index_of hints place bucket) (index_of hints other b) new 0 differ)
      ∙ sym (ap (λ found. (found && nat_eq c child) || has_bit (hint_word_at hints other b) c) apart)

  module _ (same : index_of hints other b ≡ index_of hints place bucket) where
    tables : place_number other ≡ place_number place
    tables = same_table (place_number other) (place_number place) hints.buckets b bucket within there.bucket_there same

    buckets : b ≡ bucket
    buckets = same_bucket (place_number other) (place_number place) hints.buckets b bucket tables same

    this_word : (same_place other place && nat_eq b bucket) ≡ true
    this_word =
        ap (λ found. found && nat_eq b bucket) (eq-eqb (place_number other) (place_number place) tables)
        ∙ eq-eqb b bucket buckets

    read_back : get_or (set hints.words (index_of hints place bucket) new) (index_of hints other b) 0 ≡ new
    read_back =
        ap (λ i. get_or (set hints.words (index_of hints place bucket) new) i 0) same
        ∙ get_or-set_same hints.words (index_of hints place bucket) new 0 there.word_there

    -- another bit of the word
    beside : (c ≡ child → ⊥) → Wanted
    beside differ =
        ap (λ read. has_bit read c) read_back
        ∙ ap (λ bit. bit == 1) (bit_at_set_other w64 (hint_word_at hints place bucket) child small c differ)
        ∙ ap (λ i. has_bit (get_or hints.words i 0) c) (sym same)
        ∙ sym (ap (λ found. (found && nat_eq c child) || has_bit (hint_word_at hints other b) c) this_word
        ∙ ap (λ found. found || has_bit (hint_word_at hints other b) c) (ne_eqb c child differ))

    -- the bit
    here : c ≡ child → Wanted
    here e =
        ap (λ read. has_bit read c) read_back
        ∙ ap (λ k. has_bit new k) e
        ∙ ap (λ bit. bit == 1) (bit_at_set_same w64 (hint_word_at hints place bucket) child small)
        ∙ sym (ap (λ found. (found && nat_eq c child) || has_bit (hint_word_at hints other b) c) this_word
        ∙ ap (λ found. found || has_bit (hint_word_at hints other b) c) (eq-eqb c child e))

  raised_so : Wanted
  raised_so = elim (cases_eq (index_of hints other b) (index_of hints place bucket)) [
    | inr differ ↦ elsewhere differ
    | inl same ↦ elim (cases_eq c child) [
      | inl e ↦ here same e
      | inr differ ↦ beside same differ
    ]
  ]

pub one_raised : (hints : HintTable) (place : Place) (child bucket : ℕ) → child < 64 → HasWord hints place bucket
    → RaisesOne hints place child bucket
one_raised hints place child bucket small there other b c within =
    raised_so hints place child bucket small there other b c within
