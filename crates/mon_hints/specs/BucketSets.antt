-- Sets of buckets, and how one is kept: a bit for each bucket.
use Rattle.std.specs.Prelude.{◌≡◌, ℕ, ◌/◌, ◌%◌, ◌<◌, ◌≤◌, ◌==◌, ◌||◌, Bool, true, false, List, fold, get_or}
use Rattle.mon_hints.specs.Hints.{has_bit}

-- whether a bucket's bit is set
abbrev pub is_set : List ℕ → ℕ → Bool
is_set words bucket = has_bit (get_or words (bucket / 64) 0) (bucket % 64)

abbrev pub no_bucket : ℕ → Bool
no_bucket bucket = false

abbrev pub with_bucket : (ℕ → Bool) → ℕ → ℕ → Bool
with_bucket set added bucket = (bucket == added) || set bucket

abbrev pub with_buckets : (ℕ → Bool) → List ℕ → ℕ → Bool
with_buckets = fold with_bucket

-- the least of a set at or above a number
pub record IsNext (set : ℕ → Bool) (from next : ℕ) : Type 0 where
  pub among : set next ≡ true
  pub reached : from ≤ next
  pub least : (bucket : ℕ) → from ≤ bucket → bucket < next → set bucket ≡ false

-- none of a set is at or above a number
abbrev pub HasNone : (ℕ → Bool) → ℕ → Type 0
HasNone set from = (bucket : ℕ) → from ≤ bucket → set bucket ≡ false
