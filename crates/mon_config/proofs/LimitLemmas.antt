-- The numbers of a configuration are within what the leaves and the meaning ask.
use Rattle.std.proofs.Common.{◌≡◌, ◌<◌, ◌≤◌, ◌==◌, ◌||◌, ◌&&◌, ℕ, Bool, true, false, nat_le, List, [], ◌∷◌, refl, sym}
use Rattle.std.proofs.Common.{subst, arith}
use Rattle.std.specs.List.{AllByRecursion, list_any}
use Rattle.std.proofs.lemmas.Bool.Decides.{nat_tests}
use Rattle.mon_config.specs.Numbers.{AreLawful, is_limit}
use Rattle.mon_config.specs.declared.config.Config.{Config}
use Rattle.mon_config.specs.Configs.{IsLimited}
use Rattle.mon_value.proofs.PlainLemmas.{equal_numbers}

-- a number that may be of buckets
abbrev Fits : ℕ → Type 0
Fits n = (0 < n) × (n ≤ 4096)

one_fits : (n : ℕ) (powers : List ℕ) → AllByRecursion Fits powers → list_any (λ power. n == power) powers ≡ true
    → Fits n
one_fits n [] all some = absurd cc
one_fits n (power ∷ powers) all some = by (n == power) refl some (λ rest. one_fits n powers all.1 rest)
  where
    by : (b : Bool) → (n == power) ≡ b → (b || list_any (λ p. n == p) powers) ≡ true
        → (list_any (λ p. n == p) powers ≡ true → Fits n) → Fits n
    by true same some rest = subst Fits (sym (equal_numbers n power same)) all.0
    by false apart some rest = rest some

fits : (n : ℕ) → (0 < n) → (n ≤ 4096) → Fits n
fits n low high = (low, high)

few_steps : (n : ℕ) → is_limit n ≡ true → n ≤ 16777216
few_steps n e = by (nat_le 1 n) (nat_le n 16777216) refl refl e
  where
    by : (a b : Bool) → nat_le 1 n ≡ a → nat_le n 16777216 ≡ b → (a && b) ≡ true → n ≤ 16777216
    by true true f g both = grind (arith, nat_tests)
    by true false f g both = absurd cc
    by false b f g both = absurd cc

pub is_limited : (config : Config) → AreLawful config.buckets config.limit config.range_points → IsLimited config
is_limited config lawful =
    let powers : List ℕ = 64 ∷ 128 ∷ 256 ∷ 512 ∷ 1024 ∷ 2048 ∷ 4096 ∷ [] in
    let all : AllByRecursion Fits powers = (
      fits 64 (omega arith) (omega arith),
      (
        fits 128 (omega arith) (omega arith),
        (
          fits 256 (omega arith) (omega arith),
          (
            fits 512 (omega arith) (omega arith),
            (
              fits 1024 (omega arith) (omega arith),
              (
                fits 2048 (omega arith) (omega arith),
                (fits 4096 (omega arith) (omega arith), tt),
              ),
            ),
          ),
        ),
      ),
    ) in
    let buckets = one_fits config.buckets powers all lawful.0 in
    let steps = few_steps config.limit lawful.1 in
    record { limit = omega (arith, steps); some = buckets.0; most = buckets.1 }
