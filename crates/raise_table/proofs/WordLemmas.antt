-- Words of a place and a bucket, their bits, and the leaves of zones.
use Rattle.std.proofs.Common.{◌≡◌, ℕ, zero, suc, ◌+◌, ◌*◌, ◌/◌, ◌%◌, ◌^◌, ◌<◌, ◌≤◌, ◌≢◌, ◌⊎◌, inl, inr, List, [], ◌∷◌}
use Rattle.std.proofs.Common.{length, get_or, set, refl, sym, ap, ◌∙◌, subst, arith, max}
use Rattle.std.specs.Prelude.{bit_or}
use Rattle.std.specs.Int.{bit_at}
use Rattle.std.specs.List.{All, Contains}
use Rattle.std.proofs.lemmas.List.{get_or-set_same, get_or-set_other}
use Rattle.std.proofs.lemmas.List.Elements.{Contains-append_cases, Contains-push_cases}
use Rattle.std.proofs.lemmas.Nat.{div-add-mod'}
use Rattle.std.proofs.lemmas.Nat.Bits.{bit_at_or, bit_at-lt, bit_at-pow_same, bit_at-pow_other}
use Rattle.std.proofs.Math.Pow.{pow-lt}
use mathlib.Core.Logic.{dite}
use native.Mathlib.Decide.{ℕ_discrete}
use Rattle.mon_hints.specs.declared.places.Place.{Place}
use Rattle.mon_hints.specs.declared.places.Place.TheVariants as at
use Rattle.raise_table.specs.declared.places.ZoneLeaf.{ZoneLeaf}
use Rattle.raise_table.specs.Places.{IsPlaceAmong, bit_of, word_count, bucket_of_word, leaves_from, leaves_in}
use Rattle.raise_table.specs.Places.{leaves_of_zone}
use Rattle.mon_hints.specs.Places.{place_number}
use Rattle.raise_table.specs.Places.{place_numbered, place_of_word, word_at, word_number, zone_leaf}
use Rattle.raise_table.specs.declared.views.Raised.{Raised}
use Rattle.raise_table.specs.Seats.{MayRaise}
use Rattle.raise_table.specs.Tables.{AreFew}

-- ---- numbers of words

number_placed : (n : ℕ) → place_number (place_numbered n) ≡ n
number_placed zero = refl
number_placed (suc n) = refl

placed_number : (place : Place) → place_numbered (place_number place) ≡ place
placed_number at.Root = refl
placed_number (at.Zone zone) = refl

-- each number is that of the word of its place and its bucket
pub word_numbered : (word : ℕ) → word_number (place_of_word word) (bucket_of_word word) ≡ word
word_numbered word = ap (λ n. n * 4096 + word % 4096) (number_placed (word / 4096)) ∙ div-add-mod' word 4096

pub place_found : (place : Place) (bucket : ℕ) → bucket < 4096 → place_of_word (word_number place bucket) ≡ place
place_found place bucket low = let n : ℕ = place_number place in let e : (n * 4096 + bucket) / 4096 ≡ n =
    omega arith in ap place_numbered e ∙ placed_number place

pub bucket_found : (place : Place) (bucket : ℕ) → bucket < 4096 → bucket_of_word (word_number place bucket) ≡ bucket
bucket_found place bucket low = let n : ℕ = place_number place in let e : (n * 4096 + bucket) % 4096 ≡ bucket =
    omega arith in e

-- ---- bits of a word

pub or_keeps : (n m bit : ℕ) → bit_at n bit ≡ 1 → bit_at (bit_or n m) bit ≡ 1
or_keeps n m bit is = bit_at_or n m bit ∙ (let x : ℕ = bit_at n bit in let y : ℕ = bit_at m bit in let low : y < 2 =
    bit_at-lt m bit in let e : x ≡ 1 = is in let r : max x y ≡ 1 = omega arith in r)

pub or_sets : (n bit : ℕ) → bit_at (bit_or n (2 ^ bit)) bit ≡ 1
or_sets n bit = bit_at_or n (2 ^ bit) bit ∙ (let x : ℕ = bit_at n bit in let y : ℕ = bit_at (2 ^ bit) bit in
    let low : x < 2 = bit_at-lt n bit in let e : y ≡ 1 = bit_at-pow_same bit in let r : max x y ≡ 1 = omega arith in r)

-- a bit of the word was there, or it is the one that was set
pub or_cases : (n own bit : ℕ) → bit_at (bit_or n (2 ^ own)) bit ≡ 1 → (bit_at n bit ≡ 1) ⊎ (bit ≡ own)
or_cases n own bit is = dite (ℕ_discrete bit own) inr (λ other. inl (
    let x : ℕ = bit_at n bit in let y : ℕ = bit_at (2 ^ own) bit in let e : y ≡ 0 = bit_at-pow_other own bit other in
    let f : max x y ≡ 1 = sym (bit_at_or n (2 ^ own) bit) ∙ is in let r : x ≡ 1 = omega arith in r))

pub power_bit : (own bit : ℕ) → bit_at (2 ^ own) bit ≡ 1 → bit ≡ own
power_bit own bit is = dite (ℕ_discrete bit own) (λ e. e) (λ other. absurd (let e : bit_at (2 ^ own) bit ≡ 0 =
    bit_at-pow_other own bit other in let n : ℕ = bit_at (2 ^ own) bit in let f : n ≡ 1 = is in let g : n ≡ 0 = e in
    omega arith))

-- ---- one bit is set in one word
module _ (words : List ℕ) (place : Place) (bucket own : ℕ) (low : bucket < 4096) (within : word_number place bucket
    < length words) where
  abbrev pub after : List ℕ
  after = set words (word_number place bucket) (bit_or (word_at words place bucket) (2 ^ own))

  here : word_at after place bucket ≡ bit_or (word_at words place bucket) (2 ^ own)
  here = get_or-set_same words (word_number place bucket) (bit_or (word_at words place bucket) (2 ^ own)) 0 within

  there : (other : Place) (name : ℕ) → word_number other name ≢ word_number place bucket → word_at after other name
      ≡ word_at words other name
  there other name apart = get_or-set_other words (word_number place bucket) (word_number other name)
      (bit_or (word_at words place bucket) (2 ^ own)) 0 apart

  pub bit_stays : (other : Place) (name bit : ℕ) → bit_at (word_at words other name) bit ≡ 1
      → bit_at (word_at after other name) bit ≡ 1
  bit_stays other name bit is = dite (ℕ_discrete (word_number other name) (word_number place bucket))
      (λ e. let was : bit_at (word_at words place bucket) bit ≡ 1 = ap (λ i. bit_at (get_or words i 0) bit) (sym e)
      ∙ is in
      ap (λ i. bit_at (get_or after i 0) bit) e ∙ ap (λ n. bit_at n bit) here ∙ or_keeps (word_at words place bucket)
      (2 ^ own) bit was)
      (λ apart. ap (λ n. bit_at n bit) (there other name apart) ∙ is)

  pub bit_is_set : bit_at (word_at after place bucket) own ≡ 1
  bit_is_set = ap (λ n. bit_at n own) here ∙ or_sets (word_at words place bucket) own

  pub bit_cases : (other : Place) (name bit : ℕ) → name < 4096 → bit_at (word_at after other name) bit ≡ 1
      → (bit_at (word_at words other name) bit ≡ 1) ⊎ ((other ≡ place) × (name ≡ bucket) × (bit ≡ own))
  bit_cases other name bit low' is = dite (ℕ_discrete (word_number other name) (word_number place bucket))
      (λ e. let p : other ≡ place = sym (place_found other name low') ∙ ap place_of_word e
      ∙ place_found place bucket low in
      let b : name ≡ bucket = sym (bucket_found other name low') ∙ ap bucket_of_word e
      ∙ bucket_found place bucket low in
      let found : bit_at (bit_or (word_at words place bucket) (2 ^ own)) bit ≡ 1 = ap (λ n. bit_at n bit) (sym here)
      ∙ ap (λ i. bit_at (get_or after i 0) bit) (sym e) ∙ is in
      elim (or_cases (word_at words place bucket) own bit found) [
        | inl was ↦ inl (ap (λ i. bit_at (get_or words i 0) bit) e ∙ was)
        | inr new ↦ inr (p, b, new)
      ])
      (λ apart. inl (ap (λ n. bit_at n bit) (sym (there other name apart)) ∙ is))

-- ---- leaves

leaf_of_zone : (zone count : ℕ) (leaf : ZoneLeaf) → Contains (leaves_of_zone zone count) leaf → (leaf.zone.0 ≡ zone)
    × (leaf.child < count)
leaf_of_zone zone zero leaf has = let none : has.0 < 0 = has.1 in absurd (omega arith)
leaf_of_zone zone (suc count) leaf has = elim (Contains-push_cases (leaves_of_zone zone count) (zone_leaf zone count)
    leaf has) [
      | inl before ↦ let r = leaf_of_zone zone count leaf before in let low : leaf.child < count = r.1 in
          (r.0, omega arith)
      | inr last ↦ (sym (ap (λ l. l.zone.0) last), (let e : count ≡ leaf.child = ap (λ l. l.child) last in omega arith))
    ]

leaf_from : (first : ℕ) (counts : List ℕ) (leaf : ZoneLeaf) → All (λ count. count ≤ 32) counts
    → Contains (leaves_from first counts) leaf
    → (leaf.zone.0 < first + length counts) × (leaf.child < 32)
leaf_from first [] leaf few has = let none : has.0 < 0 = has.1 in absurd (omega arith)
leaf_from first (count ∷ counts) leaf few has = elim (Contains-append_cases (leaves_of_zone first count)
    (leaves_from (first + 1) counts) leaf has) [
      | inl among ↦ let r = leaf_of_zone first count leaf among in let most : count ≤ 32 = few 0 0 (omega arith) in
          let e : leaf.zone.0 ≡ first = r.0 in let low : leaf.child < count = r.1 in (omega arith, omega arith)
      | inr later ↦ let r = leaf_from (first + 1) counts leaf (λ k d h. few (suc k) d (omega arith)) later in
          let low : leaf.zone.0 < first + 1 + length counts = r.0 in (omega arith, r.1)
    ]

-- a leaf's zone is one of the table's, and its bits are low
pub leaf_is_low : (zones : List ℕ) (leaf : ZoneLeaf) → AreFew zones → Contains (leaves_in zones) leaf
    → (leaf.zone.0 < length zones) × (leaf.child < 32)
leaf_is_low zones leaf few has = let r = leaf_from 0 zones leaf few.1 has in let low : leaf.zone.0 < 0 + length zones =
    r.0 in (omega arith, r.1)

-- ---- the words of a table

pub word_within : (zones : List ℕ) (place : Place) (bucket : ℕ) → IsPlaceAmong (length zones) place → bucket < 4096
    → word_number place bucket < word_count zones
word_within zones at.Root bucket is low = omega arith
word_within zones (at.Zone zone) bucket is low = let n : ℕ = zone.0 in let m : ℕ = length zones in let h : n < m =
    is in omega arith

pub has_words : (zones : List ℕ) (count : ℕ) → count ≡ word_count zones → 0 < count
has_words zones count e = let n : ℕ = length zones in omega (arith, e)

-- where a leaf may raise, the table has words
pub may_has_place : (zones : List ℕ) (leaf : ZoneLeaf) (raised : List Raised) (place : Place) (bucket : ℕ)
    → AreFew zones → Contains (leaves_in zones) leaf
    → MayRaise leaf raised place bucket → IsPlaceAmong (length zones) place
may_has_place zones leaf raised at.Root bucket few has may = tt
may_has_place zones leaf raised (at.Zone zone) bucket few has may = subst (λ z. z.0 < length zones) (sym may.0)
    (leaf_is_low zones leaf few has).0

-- a word has room for a leaf's bit
pub bit_is_low : (zones : List ℕ) (leaf : ZoneLeaf) (place : Place) → AreFew zones → Contains (leaves_in zones) leaf
    → bit_of leaf place < 64
bit_is_low zones leaf at.Root few has = let low = (leaf_is_low zones leaf few has).0 in let most = few.0 in
    omega (arith, low, most)
bit_is_low zones leaf (at.Zone zone) few has = let low = (leaf_is_low zones leaf few has).1 in omega (arith, low)

pub shifted_one : (bit : ℕ) → bit < 64 → 1 * 2 ^ bit % 2 ^ 64 ≡ 2 ^ bit
shifted_one bit low = let n : ℕ = 2 ^ bit in let h : n < 18446744073709551616 = pow-lt low in let e : 1
    * n % 18446744073709551616 ≡ n = omega arith in e
