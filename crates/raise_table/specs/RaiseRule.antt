-- The raise rule: what holds of the words of a raise table and of all its seats, whenever no step is under way.
-- A word has a bit for each child of its place: at the root for each zone, and in a zone for each of its leaves.
use Rattle.std.specs.Prelude.{◌≡◌, ℕ, ◌<◌, ◌==◌, ◌&&◌, Bool, List, length}
use Rattle.std.specs.List.{Contains, count_by, sum_by}
use Rattle.std.specs.Int.{bit_at}
use mathlib.Core.Option.{some}
use lib.ListN.{get_elem?}
use Rattle.mon_hints.specs.declared.places.Place.{Place}
use Rattle.raise_table.specs.declared.places.ZoneLeaf.{ZoneLeaf}
use Rattle.raise_table.specs.declared.views.Raised.{Raised}
use Rattle.raise_table.specs.declared.views.SeatView.{SeatView}
use Rattle.raise_table.specs.Places.{bit_of, leaves_in, word_at, word_count}
use Rattle.raise_table.specs.Seats.{Knows, MayRaise}
use Rattle.mon_value.specs.declared.limits.TheConstants.{MOST_BUCKETS}

abbrev pub HasSeat : List SeatView → SeatView → Type 0
HasSeat seats seat = (number : ℕ) × (get_elem? seats number ≡ some seat)

-- every bit that the seat knows is in its word
abbrev pub KnowsTrueBits : List ℕ → SeatView → Type 0
KnowsTrueBits words seat = (place : Place) (bucket bit : ℕ) → Knows seat.hints place bucket bit
    → bit_at (word_at words place bucket) bit ≡ 1

-- The owner of a leaf raised the bucket at the place, where the leaf has this bit
abbrev pub RaisedBit : SeatView → Place → ℕ → ℕ → Type 0
RaisedBit seat place bucket bit =
    (leaf : ZoneLeaf) × Contains seat.leaves leaf × (bit_of leaf place ≡ bit)
    × (raised : Raised) × Contains seat.raised raised × (raised.place ≡ place) × (raised.bucket ≡ bucket)

-- each bucket that the seat raised was one that its leaf might raise, by what the seat raised
abbrev pub RaisedInOrder : SeatView → Type 0
RaisedInOrder seat = (leaf : ZoneLeaf) (raised : Raised) → Contains seat.leaves leaf → Contains seat.raised raised
    → MayRaise leaf seat.raised raised.place raised.bucket

abbrev pub same_zone_leaf : ZoneLeaf → ZoneLeaf → Bool
same_zone_leaf leaf other = (leaf.zone.0 == other.zone.0) && (leaf.child == other.child)

-- how often a list of leaves has a leaf
abbrev pub times_leaf : ZoneLeaf → List ZoneLeaf → ℕ
times_leaf leaf leaves = count_by (same_zone_leaf leaf) leaves

-- how many seats own a leaf
abbrev pub owners : ZoneLeaf → List SeatView → ℕ
owners leaf seats = sum_by (λ seat. times_leaf leaf seat.leaves) seats

pub record KeepsRaiseRule (zones words : List ℕ) (seats : List SeatView) : Type 0 where
  -- the root and each zone have a word for each bucket
  pub sized : length words ≡ word_count zones
  -- what seats know is in the words
  pub known : (seat : SeatView) → HasSeat seats seat → KnowsTrueBits words seat
  -- a bit that a seat raised is in its word
  pub set : (seat : SeatView) (place : Place) (bucket bit : ℕ) → HasSeat seats seat → RaisedBit seat place bucket bit
      → bit_at (word_at words place bucket) bit ≡ 1
  -- a bit in a word was raised by a seat
  pub raised : (place : Place) (bucket bit : ℕ) → bucket < MOST_BUCKETS → bit_at (word_at words place bucket) bit ≡ 1
      → (seat : SeatView) × HasSeat seats seat × RaisedBit seat place bucket bit
  -- in its zone an owner raised only what it had raised at the root
  pub ordered : (seat : SeatView) → HasSeat seats seat → RaisedInOrder seat
  -- each leaf has one owner: it has as many as it stands among the leaves of the zones
  pub owned : (leaf : ZoneLeaf) → owners leaf seats ≡ times_leaf leaf (leaves_in zones)
