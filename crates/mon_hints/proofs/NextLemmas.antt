-- The least bit of a word at or above a place.
use Rattle.std.proofs.Common.{◌≡◌, ℕ, ◌-◌, ◌*◌, ◌%◌, ◌^◌, ◌<◌, ◌≤◌, min, true, false, ◌==◌, sym, ap, ◌∙◌, inl, inr}
use Rattle.std.proofs.Common.{arith}
use Rattle.std.specs.Prelude.{bit_and}
use Rattle.std.specs.Int.{bit_at, trailing_zeros, w64}
use Rattle.std.proofs.lemmas.Bool.{cases_lt}
use Rattle.std.proofs.lemmas.Nat.{and_le_l}
use Rattle.std.proofs.lemmas.Nat.Bits.{bit_at-lt, bit_at-trailing_zeros, bit_at-zero, bit_at_and, bit_at_mask_below}
use Rattle.std.proofs.lemmas.Nat.Bits.{bit_at_mask_inside, ones_shl}
use Rattle.mon_hints.specs.BucketSets.{IsNext}
use Rattle.mon_hints.specs.Hints.{has_bit}

bit_cleared : (word bit : ℕ) → bit_at word bit ≡ 0 → has_bit word bit ≡ false
bit_cleared word bit e = ap (λ b. b == 1) e

bit_found : (word bit : ℕ) → bit_at word bit ≡ 1 → has_bit word bit ≡ true
bit_found word bit e = ap (λ b. b == 1) e

min_one : (n : ℕ) → n < 2 → min n 1 ≡ n
min_one n h = omega arith

min_none : (n : ℕ) → min n 0 ≡ 0
min_none n = omega arith

-- a word without its bits below a place
abbrev pub above : ℕ → ℕ → ℕ
above word from = bit_and word ((2 ^ 64 - 1) * 2 ^ from % 2 ^ 64)

at_above : (word from bit : ℕ) → from < 64 → bit_at (above word from) bit ≡ min (bit_at word bit)
    (bit_at (2 ^ 64 - 2 ^ from) bit)
at_above word from bit h =
    ap (λ mask. bit_at (bit_and word mask) bit) (ones_shl 64 from (omega arith)) ∙ bit_at_and word (2 ^ 64 - 2 ^ from)
    bit

kept_above : (word from bit : ℕ) → from ≤ bit → bit < 64 → bit_at (above word from) bit ≡ bit_at word bit
kept_above word from bit low high =
    at_above word from bit (omega arith) ∙ ap (min (bit_at word bit)) (bit_at_mask_inside from 64 bit low high)
    ∙ min_one (bit_at word bit) (bit_at-lt word bit)

gone_below : (word from bit : ℕ) → bit < from → from < 64 → bit_at (above word from) bit ≡ 0
gone_below word from bit low high =
    at_above word from bit high ∙ ap (min (bit_at word bit)) (bit_at_mask_below from 64 bit low)
    ∙ min_none (bit_at word bit)

pub none_above : (word from : ℕ) → above word from ≡ 0 → (bit : ℕ) → from ≤ bit → bit < 64 → has_bit word bit ≡ false
none_above word from none bit low high =
    bit_cleared word bit (sym (kept_above word from bit low high) ∙ ap (λ w. bit_at w bit) none ∙ bit_at-zero bit)

pub above_fits : (word from : ℕ) → word < 2 ^ 64 → above word from < 2 ^ 64
above_fits word from h = let below = and_le_l word ((2 ^ 64 - 1) * 2 ^ from % 2 ^ 64) in omega (arith, below, h)

reached : (word from bit : ℕ) → from < 64 → bit_at (above word from) bit ≡ 1 → from ≤ bit
reached word from bit h e = elim (cases_lt bit from) [
  | inl below ↦ absurd (let none : bit_at (above word from) bit ≡ 0 = gone_below word from bit below h in
      omega (arith, none, e))
  | inr above ↦ above
]

pub first_above : (word from : ℕ) → from < 64 → (above word from ≡ 0 → ⊥) → above word from < 2 ^ 64 →
    (trailing_zeros w64 (above word from) < 64) × IsNext (has_bit word) from (trailing_zeros w64 (above word from))
first_above word from h some fits =
    let bits = above word from in
    let lowest = bit_at-trailing_zeros w64 bits (omega (arith, some)) fits in
    let first = trailing_zeros w64 bits in
    let low : from ≤ first = reached word from first h lowest.1 in
    let high : first < 64 = lowest.0 in (
      high,
      record {
        among = bit_found word first (sym (kept_above word from first low high) ∙ lowest.1);
        reached = low;
        least = λ bit least below. bit_cleared word bit (sym (kept_above word from bit least (omega arith))
            ∙ lowest.2 bit below);
      },
    )
