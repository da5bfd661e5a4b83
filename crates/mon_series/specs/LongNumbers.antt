-- Numbers that 64 bits don't hold.
use Rattle.std.specs.Prelude.{ℤ, ◌^◌, pos, neg_ℤ, ◌<ℤ◌, ◌≤ℤ◌, ◌⊎◌}

abbrev pub IsLong : ℤ → Type 0
IsLong number = (number <ℤ neg_ℤ (pos (2 ^ 63))) ⊎ (pos (2 ^ 63) ≤ℤ number)
