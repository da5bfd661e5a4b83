-- The numbers that a configuration may have.
use Rattle.std.specs.Prelude.{ℕ, ◌==◌, ◌&&◌, ◌≡◌, Bool, true, nat_le, [], ◌∷◌}
use Rattle.std.specs.List.{list_any}
use Rattle.mon_config.specs.declared.limits.TheConstants.{GREATEST_LIMIT}

-- a power of two from 64 to 4,096
abbrev pub is_bucket_count : ℕ → Bool
is_bucket_count n = list_any (λ power. n == power) (64 ∷ 128 ∷ 256 ∷ 512 ∷ 1024 ∷ 2048 ∷ 4096 ∷ [])

-- 1 to 16,777,216
abbrev pub is_limit : ℕ → Bool
is_limit n = nat_le 1 n && nat_le n GREATEST_LIMIT

-- the buckets, the limit of steps and the points of a range are such numbers
abbrev pub AreLawful : ℕ → ℕ → ℕ → Type 0
AreLawful buckets limit range_points =
    (is_bucket_count buckets ≡ true) × (is_limit limit ≡ true) × (is_limit range_points ≡ true)
