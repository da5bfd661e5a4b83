-- What holds of all that a caller knows: the histories that it has seen are held together, and the bits that it knows
-- lead to all that stands in them.
use Rattle.std.specs.Prelude.{ℕ, ◌-◌, ◌&&◌, nat_eq, Bool}
use Rattle.std.specs.Int.{bit_at}
use Rattle.std.specs.List.{list_any}
use Rattle.mon_value.specs.declared.positions.Leaf.{Leaf}
use Rattle.mon_hints.specs.Covers.{Bits}
use Rattle.mon_hints.specs.Places.{same_place}
use Rattle.mon_topo.specs.Settings.{Setting, zone_of_leaf}
use Rattle.mon_topo.specs.Views as views
use Rattle.mon_topo.specs.Views.{View}
use Rattle.mon_value.specs.Histories.{leaf_numbered}
use Rattle.mon_topo.specs.Zones.{first_leaf}
use Rattle.mon_value.specs.declared.histories.Histories.{Histories}
use Rattle.mon_hints.specs.declared.places.Place.{Place}
use Rattle.mon_hints.specs.declared.places.Place.TheVariants as at
use Rattle.raise_table.specs.declared.views.Hints.{Hints}
use Rattle.raise_table.specs.declared.views.Note.{Note}

-- ---- known bits

-- whether a note has a bit of the word of a place and a bucket
abbrev pub note_has_bit : Place → ℕ → ℕ → Note → Bool
note_has_bit place bucket bit note =
    same_place note.place place && (nat_eq note.bucket bucket && nat_eq (bit_at note.bits bit) 1)

-- whether a bit is known to be in the word of a place and a bucket
abbrev pub is_known : Hints → Place → ℕ → ℕ → Bool
is_known hints place bucket bit = list_any (note_has_bit place bucket bit) hints.known

-- a leaf's bit in the words of its zone: its place among the zone's leaves
abbrev pub bit_of_leaf : Setting → Leaf → ℕ
bit_of_leaf setting leaf = leaf.0 - first_leaf setting.zones (zone_of_leaf setting leaf).0

abbrev pub is_leaf_known : Setting → Hints → Leaf → ℕ → Bool
is_leaf_known setting hints leaf bucket =
    is_known hints (at.Zone (zone_of_leaf setting leaf)) bucket (bit_of_leaf setting leaf)

-- the known bits of zones in the root's words, and of leaves in their zones' words
abbrev pub known_bits : Setting → Hints → Bits
known_bits setting hints = record {
  root = λ zone bucket. is_known hints at.Root bucket zone;
  zone = λ leaf bucket. is_leaf_known setting hints (leaf_numbered leaf) bucket;
}

-- ---- the whole

-- what was seen and is known, as one view
abbrev pub known_view : Setting → Hints → Histories → View
known_view setting hints seen = record { seen = seen; bits = known_bits setting hints }

abbrev pub IsSound : Setting → Hints → Histories → Type 0
IsSound setting hints seen = views.IsSound setting (known_view setting hints seen)
