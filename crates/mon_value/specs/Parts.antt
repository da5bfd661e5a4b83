-- Partial results of aggregates, and the bound within which they stay.
use Rattle.std.specs.Prelude.{◌≡◌, ℕ, ◌≤◌, ℤ, List, [], ◌∷◌, Bool, true, false, Option, Some, None, length, replicate}
use Rattle.std.specs.Prelude.{unsigned_abs}
use Rattle.mon_value.specs.Values.{greatest_sum}

-- a sum, or a number of items, whose magnitude is at most the greatest sum
abbrev pub IsWithin : ℤ → Type 0
IsWithin z = unsigned_abs z ≤ greatest_sum

-- two numbers combined, or the one that is there
abbrev pub combined_numbers : (ℤ → ℤ → ℤ) → Option ℤ → Option ℤ → Option ℤ
combined_numbers f None b = b
combined_numbers f (Some x) None = Some x
combined_numbers f (Some x) (Some y) = Some (f x y)

-- counts that are all 0
abbrev pub IsZero : List ℕ → Type 0
IsZero counts = counts ≡ replicate (length counts) 0

-- whether there is an item
abbrev pub is_any : {A : Type 0} → List A → Bool
is_any [] = false
is_any (item ∷ items) = true
