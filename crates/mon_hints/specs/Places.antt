-- Where hint words stand: at the root, or in a zone.
use Rattle.std.specs.Prelude.{ℕ, suc, ◌+◌, ◌*◌, nat_eq, Bool}
use Rattle.mon_hints.specs.declared.places.Place.{Place}
use Rattle.mon_hints.specs.declared.places.Place.TheVariants as at

-- the root is the first place, and the zones follow
abbrev pub place_number : Place → ℕ
place_number at.Root = 0
place_number (at.Zone zone) = suc zone.0

abbrev pub same_place : Place → Place → Bool
same_place a b = nat_eq (place_number a) (place_number b)

-- the number of a bucket's word in a table that has so many words for each place
abbrev pub word_index : ℕ → Place → ℕ → ℕ
word_index buckets place bucket = place_number place * buckets + bucket
