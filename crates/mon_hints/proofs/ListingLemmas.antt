-- Listings: of a set whose least buckets come one after another, and of numbers that are sorted.
use Rattle.std.proofs.Common.{◌≡◌, ℕ, zero, suc, ◌+◌, ◌-◌, ◌<◌, Bool, true, false, cond, ◌==◌, ◌&&◌, ◌||◌, List, []}
use Rattle.std.proofs.Common.{◌∷◌, ◌++◌, length, get_or, IsPermutation, refl, sym, ap, ◌∙◌, subst, inl, inr, arith}
use Rattle.std.specs.Prelude.{nat_eq, nat_lt}
use Rattle.std.specs.List.Sorted.{IsSorted, IsStrictlyIncreasing}
use Rattle.std.specs.List.{dedup, dedup_from}
use Rattle.std.specs.Ordering.{nat_cmp}
use Rattle.std.proofs.lemmas.Bool.{cases_eq, cases_lt, and_parts, eq-eqb, eqb-true, ne_eqb, le-ltb, lt-ltb, ltb-true}
use Rattle.std.proofs.lemmas.Bool.{or_left, or_right}
use Rattle.std.proofs.lemmas.List.{get_or_append_left, get_or-append_right, length-append}
use Rattle.std.proofs.lemmas.List.Folds.{list_any-append}
use Rattle.std.proofs.lemmas.List.Sorted.{list_any-IsPermutation}
use Rattle.std.proofs.lemmas.Map.Keys.{IsStrictlyIncreasing-dedup}
use Rattle.mon_hints.proofs.TruthLemmas.{or_once}
use Rattle.mon_value.proofs.PlainLemmas.{or_false, and_false}
use Rattle.mon_hints.specs.BucketSets.{HasNone, IsNext}
use Rattle.mon_hints.specs.Formulas.{IsListing, is_among}

-- ---- one more

pub place_among : (numbers : List ℕ) (k d : ℕ) → k < length numbers → is_among (get_or numbers k d) numbers ≡ true
place_among [] k d h = absurd (omega arith)
place_among (n ∷ numbers) zero d h = or_left (n == n) (is_among n numbers) (eq-eqb n n refl)
place_among (n ∷ numbers) (suc k) d h =
    or_right (get_or numbers k d == n) (is_among (get_or numbers k d) numbers) (place_among numbers k d (omega arith))

rising_push : (numbers : List ℕ) (next : ℕ) → IsStrictlyIncreasing numbers →
    ((n : ℕ) → is_among n numbers ≡ true → n < next) → IsStrictlyIncreasing (numbers ++ next ∷ [])
rising_push numbers next rising below k h =
    let long = length-append numbers (next ∷ []) in
    elim (cases_lt (k + 1) (length numbers)) [
      | inl within ↦
          let now = get_or_append_left numbers (next ∷ []) 0 k (omega arith) in
          let later = get_or_append_left numbers (next ∷ []) 0 (k + 1) within in
          omega (arith, now, later, rising k within)
      | inr last ↦
          let at : k + 1 ≡ length numbers = omega (arith, long, h, last) in
          let now = get_or_append_left numbers (next ∷ []) 0 k (omega arith) in
          let later : get_or (numbers ++ next ∷ []) (k + 1) 0 ≡ next =
          get_or-append_right numbers (next ∷ []) (k + 1) (k + 1) 0 (sym at) (omega arith)
          ∙ ap (λ i. get_or (next ∷ []) i 0) (let e : (k + 1) - (k + 1) ≡ 0 = omega arith in e) in
          omega (arith, now, later, below (get_or numbers k 0) (place_among numbers k 0 (omega arith)))
    ]

-- the buckets of a set that are below a number
pub record ListsBelow (set : ℕ → Bool) (listed : List ℕ) (from : ℕ) : Type 0 where
  pub rising : IsStrictlyIncreasing listed
  pub same : (bucket : ℕ) → is_among bucket listed ≡ (nat_lt bucket from && set bucket)

same_pushed : (set : ℕ → Bool) (listed : List ℕ) (from next : ℕ) → ListsBelow set listed from → IsNext set from next →
    (bucket : ℕ) → is_among bucket (listed ++ next ∷ []) ≡ (nat_lt bucket (next + 1) && set bucket)
same_pushed set listed from next lists least bucket =
    list_any-append (λ other. bucket == other) listed (next ∷ []) ∙ ap (λ some. some || ((bucket == next) || false))
    (lists.same bucket)
    ∙ elim (cases_lt bucket from) [
      | inl before ↦
          ap (λ below. (below && set bucket) || ((bucket == next) || false)) (lt-ltb bucket from before)
          ∙ ap (λ same. set bucket || (same || false))
          (ne_eqb bucket next (λ e. omega (arith, e, before, least.reached)))
          ∙ or_false (set bucket)
          ∙ sym (ap (λ below. below && set bucket) (lt-ltb bucket (next + 1) (omega (arith, before, least.reached))))
      | inr behind ↦
          ap (λ below. (below && set bucket) || ((bucket == next) || false)) (le-ltb bucket from behind)
          ∙ elim (cases_eq bucket next) [
            | inl here ↦
                ap (λ same. same || false) (eq-eqb bucket next here)
                ∙ sym (ap (λ below. below && set bucket) (lt-ltb bucket (next + 1) (omega arith))
                ∙ ap set here ∙ least.among)
            | inr differ ↦
                ap (λ same. same || false) (ne_eqb bucket next differ)
                ∙ sym (elim (cases_lt bucket next) [
                  | inl between ↦ ap (λ some. nat_lt bucket (next + 1) && some) (least.least bucket behind between)
                      ∙ and_false (nat_lt bucket (next + 1))
                  | inr past ↦ ap (λ below. below && set bucket)
                      (le-ltb bucket (next + 1) (omega (arith, past, differ)))
                ])
          ]
    ]

pub pushed_below : (set : ℕ → Bool) (listed : List ℕ) (from next : ℕ) → ListsBelow set listed from → IsNext set from
    next →
    ListsBelow set (listed ++ next ∷ []) (next + 1)
pushed_below set listed from next lists least = record {
  rising = rising_push listed next lists.rising (λ n h.
      let below = ltb-true n from (and_parts (nat_lt n from) (set n) (sym (lists.same n) ∙ h)).0 in
      omega (arith, below, least.reached));
  same = same_pushed set listed from next lists least;
}

pub all_listed : (set : ℕ → Bool) (listed : List ℕ) (from : ℕ) → ListsBelow set listed from → HasNone set from →
    (bucket : ℕ) → is_among bucket listed ≡ set bucket
all_listed set listed from lists none bucket = lists.same bucket ∙ elim (cases_lt bucket from) [
  | inl below ↦ ap (λ low. low && set bucket) (lt-ltb bucket from below)
  | inr behind ↦ ap (λ some. nat_lt bucket from && some) (none bucket behind) ∙ and_false (nat_lt bucket from)
      ∙ sym (none bucket behind)
]

-- ---- sorted, each once

same_once : (n first next : ℕ) (b : Bool) (numbers : List ℕ) → (next == first) ≡ b →
    ((last : ℕ) → is_among n (dedup_from nat_eq last numbers) ≡ is_among n (last ∷ numbers)) →
    is_among n (cond b (dedup_from nat_eq first numbers) (first ∷ dedup_from nat_eq next numbers))
    ≡ is_among n (first ∷ next ∷ numbers)
same_once n first next true numbers e h =
    h first ∙ sym (ap (λ other. (n == first) || ((n == other) || is_among n numbers)) (eqb-true next first e)
    ∙ or_once (n == first) (is_among n numbers))
same_once n first next false numbers e h = ap (λ some. (n == first) || some) (h next)

among_from : (n first : ℕ) (numbers : List ℕ) → is_among n (dedup_from nat_eq first numbers)
    ≡ is_among n (first ∷ numbers)
among_from n first [] = refl
among_from n first (next ∷ numbers) = same_once n first next (next == first) numbers refl
    (λ last. among_from n last numbers)

among_dedup : (n : ℕ) (numbers : List ℕ) → is_among n (dedup nat_eq numbers) ≡ is_among n numbers
among_dedup n [] = refl
among_dedup n (first ∷ numbers) = among_from n first numbers

pub sorted_listing : (numbers sorted listed : List ℕ) → IsPermutation numbers sorted → IsSorted nat_cmp sorted →
    listed ≡ dedup nat_eq sorted → IsListing numbers listed
sorted_listing numbers sorted listed permutation rises e = record {
  rising = subst IsStrictlyIncreasing (sym e) (IsStrictlyIncreasing-dedup sorted rises);
  same = λ n. ap (is_among n) e ∙ among_dedup n sorted
      ∙ sym (list_any-IsPermutation (λ other. n == other) numbers sorted permutation);
}
