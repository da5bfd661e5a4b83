-- Which raise table is meant, and its shape.
use Rattle.std.specs.Prelude.{◌≡◌, ℕ, ◌<◌, ◌≤◌, List, length}
use Rattle.std.specs.List.{All}
use Rattle.atomic_table.specs.Seated.{TableId}
use Rattle.mon_hints.specs.declared.places.Place.{Place}
use Rattle.raise_table.specs.Places.{IsPlaceAmong, word_count}
use Rattle.mon_value.specs.declared.limits.TheConstants.{MOST_BUCKETS}

-- the table itself, how many leaves each zone has, and the number of buckets
pub record RaiseIdentity : Type 0 where
  pub id : TableId
  pub zones : List ℕ
  pub buckets : ℕ

-- at most 32 zones of at most 32 leaves each
abbrev pub AreFew : List ℕ → Type 0
AreFew zones = (length zones ≤ 32) × All (λ leaves. leaves ≤ 32) zones

-- the shape of a table, and its number of words
pub record IsShaped (raise : RaiseIdentity) : Type 0 where
  pub words : raise.id.words ≡ word_count raise.zones
  pub few : AreFew raise.zones
  pub buckets : raise.buckets ≤ MOST_BUCKETS

-- the table has a word for the place and the bucket
abbrev pub HasWord : RaiseIdentity → Place → ℕ → Type 0
HasWord raise place bucket = IsPlaceAmong (length raise.zones) place × (bucket < raise.buckets)
