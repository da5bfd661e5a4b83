-- Which buckets a set has, and how one is added.
use Rattle.std.proofs.Common.{◌≡◌, ℕ, zero, ◌+◌, ◌*◌, ◌/◌, ◌%◌, ◌^◌, ◌<◌, Bool, false, ◌==◌, ◌||◌, List, [], ◌∷◌}
use Rattle.std.proofs.Common.{length, get_or, set, replicate, refl, sym, ap, ◌∙◌, inl, inr, arith, lit<}
use Rattle.std.specs.Prelude.{bit_or}
use Rattle.std.specs.Int.{w64}
use Rattle.std.proofs.lemmas.Bool.{cases_eq, cases_lt, eq-eqb, ne_eqb, or_left}
use Rattle.std.proofs.lemmas.List.{get_or-set_same, get_or-set_other, get_or-replicate, get_or_past}
use Rattle.std.proofs.lemmas.Nat.{div-add-mod', div_below, mod_below}
use Rattle.std.proofs.lemmas.Nat.Bits.{bit_at_set_same, bit_at_set_other, bit_at-zero}
use Rattle.mon_hints.proofs.TruthLemmas.{or_exchanged}
use Rattle.mon_value.proofs.PlainLemmas.{or_false}
use Rattle.mon_hints.specs.BucketSets.{is_set, no_bucket, with_bucket, with_buckets}
use Rattle.mon_hints.specs.Formulas.{is_among}
use Rattle.mon_hints.specs.Hints.{has_bit}

-- ---- which buckets a set has

pub with_buckets_has : (set : ℕ → Bool) (buckets : List ℕ) (bucket : ℕ) →
    with_buckets set buckets bucket ≡ (is_among bucket buckets || set bucket)
with_buckets_has set [] bucket = refl
with_buckets_has set (first ∷ buckets) bucket =
    with_buckets_has (with_bucket set first) buckets bucket ∙ or_exchanged (is_among bucket buckets) (bucket == first)
    (set bucket)

pub set_of_buckets : (buckets : List ℕ) → with_buckets no_bucket buckets ≡ (λ bucket. is_among bucket buckets)
set_of_buckets buckets =
    λ i bucket. (with_buckets_has no_bucket buckets bucket ∙ or_false (is_among bucket buckets)) i

-- ---- a bit for each

none_set : (words : List ℕ) (bucket : ℕ) → get_or words (bucket / 64) 0 ≡ 0 → is_set words bucket ≡ false
none_set words bucket e = ap (λ word. has_bit word (bucket % 64)) e ∙ ap (λ bit. bit == 1) (bit_at-zero (bucket % 64))

abbrev pub zeros : List ℕ
zeros = replicate 64 0

zeros_read : (place : ℕ) → get_or zeros place 0 ≡ zero
zeros_read place = elim (cases_lt place 64) [
  | inl within ↦ get_or-replicate 64 place 0 0 within
  | inr past ↦ get_or_past zeros place 0 past
]

pub none_inserted : is_set zeros ≡ no_bucket
none_inserted = λ i bucket. none_set zeros bucket (zeros_read (bucket / 64)) i

pub word_within : (bucket : ℕ) (words : List ℕ) → length words ≡ 64 → bucket < 4096 → bucket / 64 < length words
word_within bucket words long h = let low = div_below bucket 64 64 (lit< tt) h in omega (arith, low, long)

-- the place of a bucket's word, and that of its bit in it, tell the bucket
told_apart : (bucket other : ℕ) → bucket / 64 ≡ other / 64 → bucket % 64 ≡ other % 64 → bucket ≡ other
told_apart bucket other words bits =
    sym (div-add-mod' bucket 64) ∙ ap (λ n. n * 64 + bucket % 64) words ∙ ap (λ n. other / 64 * 64 + n) bits
    ∙ div-add-mod' other 64

-- one bit of a word is written
module _ (words : List ℕ) (bucket other : ℕ) (within : bucket / 64 < length words) where
  abbrev word : ℕ
  word = get_or words (bucket / 64) 0

  abbrev new : ℕ
  new = bit_or word (1 * 2 ^ (bucket % 64) % 2 ^ 64)

  -- in another word
  elsewhere : (other / 64 ≡ bucket / 64 → ⊥) →
      is_set (set words (bucket / 64) new) other ≡ with_bucket (is_set words) bucket other
  elsewhere differ =
      ap (λ read. has_bit read (other % 64)) (get_or-set_other words (bucket / 64) (other / 64) new 0 differ)
      ∙ sym (ap (λ same. same || is_set words other) (ne_eqb other bucket (λ e. differ (ap (λ n. n / 64) e))))

  read_back : other / 64 ≡ bucket / 64 → get_or (set words (bucket / 64) new) (other / 64) 0 ≡ new
  read_back same =
      ap (λ place. get_or (set words (bucket / 64) new) place 0) same ∙ get_or-set_same words (bucket / 64) new 0 within

  -- in the same word another bit
  beside : other / 64 ≡ bucket / 64 → (other % 64 ≡ bucket % 64 → ⊥) →
      is_set (set words (bucket / 64) new) other ≡ with_bucket (is_set words) bucket other
  beside same differ =
      ap (λ read. has_bit read (other % 64)) (read_back same)
      ∙ ap (λ bit. bit == 1) (bit_at_set_other w64 word (bucket % 64) (mod_below bucket 64 (lit< tt)) (other % 64)
      differ)
      ∙ ap (λ place. has_bit (get_or words place 0) (other % 64)) (sym same)
      ∙ sym (ap (λ found. found || is_set words other) (ne_eqb other bucket (λ e. differ (ap (λ n. n % 64) e))))

  -- the bit itself
  here : other / 64 ≡ bucket / 64 → other % 64 ≡ bucket % 64 →
      is_set (set words (bucket / 64) new) other ≡ with_bucket (is_set words) bucket other
  here same bits =
      ap (λ read. has_bit read (other % 64)) (read_back same)
      ∙ ap (λ place. has_bit new place) bits
      ∙ ap (λ bit. bit == 1) (bit_at_set_same w64 word (bucket % 64) (mod_below bucket 64 (lit< tt)))
      ∙ sym (or_left (other == bucket) (is_set words other) (eq-eqb other bucket (told_apart other bucket same bits)))

  written : is_set (set words (bucket / 64) new) other ≡ with_bucket (is_set words) bucket other
  written = elim (cases_eq (other / 64) (bucket / 64)) [
    | inr differ ↦ elsewhere differ
    | inl same ↦ elim (cases_eq (other % 64) (bucket % 64)) [
      | inl bits ↦ here same bits
      | inr differ ↦ beside same differ
    ]
  ]

pub inserted : (words : List ℕ) (bucket : ℕ) → bucket / 64 < length words →
    is_set (set words (bucket / 64) (bit_or (get_or words (bucket / 64) 0) (1 * 2 ^ (bucket % 64) % 2 ^ 64)))
    ≡ with_bucket (is_set words) bucket
inserted words bucket within = λ i other. written words bucket other within i
