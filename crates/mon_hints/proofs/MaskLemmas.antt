-- Masks of children.
use Rattle.std.proofs.Common.{◌≡◌, ℕ, zero, suc, ◌-◌, ◌^◌, ◌<◌, min, max, Bool, true, false, ◌==◌, ◌&&◌, ◌||◌, refl}
use Rattle.std.proofs.Common.{sym, ap, ◌∙◌, arith}
use Rattle.std.specs.Prelude.{bit_and, bit_or}
use Rattle.std.specs.Int.{bit_at}
use Rattle.std.proofs.lemmas.Nat.Bits.{bit_at-lt, bit_at-zero, bit_at_and, bit_at_ones, bit_at_or}
use Rattle.mon_value.proofs.PlainLemmas.{and_assoc, or_false, or_assoc}
use Rattle.mon_hints.specs.Hints.{IsMask, has_bit}

both_bits : (m n : ℕ) → m < 2 → n < 2 → (min m n == 1) ≡ ((m == 1) && (n == 1))
both_bits zero zero h k = refl
both_bits zero (suc zero) h k = refl
both_bits zero (suc (suc n)) h k = absurd (omega arith)
both_bits (suc zero) zero h k = refl
both_bits (suc zero) (suc zero) h k = refl
both_bits (suc zero) (suc (suc n)) h k = absurd (omega arith)
both_bits (suc (suc m)) n h k = absurd (omega arith)

either_bit : (m n : ℕ) → m < 2 → n < 2 → (max m n == 1) ≡ ((m == 1) || (n == 1))
either_bit zero zero h k = refl
either_bit zero (suc zero) h k = refl
either_bit zero (suc (suc n)) h k = absurd (omega arith)
either_bit (suc zero) zero h k = refl
either_bit (suc zero) (suc zero) h k = refl
either_bit (suc zero) (suc (suc n)) h k = absurd (omega arith)
either_bit (suc (suc m)) n h k = absurd (omega arith)

pub mask_of_every : IsMask (2 ^ 64 - 1) (λ child. true)
mask_of_every child h = ap (λ bit. bit == 1) (bit_at_ones 64 child h)

pub mask_of_none : IsMask 0 (λ child. false)
mask_of_none child h = ap (λ bit. bit == 1) (bit_at-zero child)

pub mask_of_both : (v w : ℕ) (p q : ℕ → Bool) → IsMask v p → IsMask w q → IsMask (bit_and v w) (λ child. p child
    && q child)
mask_of_both v w p q f g child h =
    ap (λ bit. bit == 1) (bit_at_and v w child)
    ∙ both_bits (bit_at v child) (bit_at w child) (bit_at-lt v child) (bit_at-lt w child)
    ∙ ap (λ b. b && has_bit w child) (f child h) ∙ ap (λ b. p child && b) (g child h)

pub mask_of_either : (v w : ℕ) (p q : ℕ → Bool) → IsMask v p → IsMask w q → IsMask (bit_or v w) (λ child. p child
    || q child)
mask_of_either v w p q f g child h =
    ap (λ bit. bit == 1) (bit_at_or v w child)
    ∙ either_bit (bit_at v child) (bit_at w child) (bit_at-lt v child) (bit_at-lt w child)
    ∙ ap (λ b. b || has_bit w child) (f child h) ∙ ap (λ b. p child || b) (g child h)

-- ---- what a loop over conditions has come to

-- the children that are left, of which the rest holds too, are those of which all holds
abbrev pub AllLeft : ℕ → (ℕ → Bool) → (ℕ → Bool) → Type 0
AllLeft mask rest all = (child : ℕ) → child < 64 → (has_bit mask child && rest child) ≡ all child

pub all_begin : (all : ℕ → Bool) → AllLeft (2 ^ 64 - 1) all all
all_begin all child h = ap (λ b. b && all child) (mask_of_every child h)

pub all_step : (mask more : ℕ) (first rest all : ℕ → Bool) → AllLeft mask (λ child. first child && rest child) all →
    IsMask more first → AllLeft (bit_and mask more) rest all
all_step mask more first rest all left held child h =
    ap (λ b. b && rest child) (mask_of_both mask more (has_bit mask) first (λ c k. refl) held child h)
    ∙ and_assoc (has_bit mask child) (first child) (rest child) ∙ left child h

-- the children that were found, and those of which the rest holds, are those of which any holds
abbrev pub AnyLeft : ℕ → (ℕ → Bool) → (ℕ → Bool) → Type 0
AnyLeft mask rest any = (child : ℕ) → child < 64 → (has_bit mask child || rest child) ≡ any child

pub any_step : (mask more : ℕ) (first rest any : ℕ → Bool) → AnyLeft mask (λ child. first child || rest child) any →
    IsMask more first → AnyLeft (bit_or mask more) rest any
any_step mask more first rest any left held child h =
    ap (λ b. b || rest child) (mask_of_either mask more (has_bit mask) first (λ c k. refl) held child h)
    ∙ or_assoc (has_bit mask child) (first child) (rest child) ∙ left child h

pub any_end : (mask : ℕ) (any : ℕ → Bool) → AnyLeft mask (λ child. false) any → IsMask mask any
any_end mask any left child h = sym (or_false (has_bit mask child)) ∙ left child h
