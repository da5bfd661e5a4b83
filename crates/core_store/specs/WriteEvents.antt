-- What an event of a write does to the seat that it needs, to the write, and to how far this has seen.
use Rattle.std.specs.Prelude.{ℕ, ◌≡◌, Bool, true, false, is_some, List, [], ◌∷◌, ◌++◌, length, Option, Some, None}
use Rattle.std.specs.Prelude.{set, if◌then◌else◌}
use Rattle.leaf_store.specs.LeafStates.{AreToRaise, LeafView}
use Rattle.mon_topo.specs.RangeHistories.{serving, turn_ack}
use Rattle.mon_value.specs.LeafHistories.{is_down, turn_entry}
use Rattle.mon_value.specs.Turns.{Turn, Adds, Hides}
use Rattle.mon_value.specs.declared.histories.Entry.{Entry}
use Rattle.mon_value.specs.declared.histories.RangeEntry.{RangeEntry}
use Rattle.mon_value.specs.declared.positions.Leaf.{Leaf}
use Rattle.mon_value.specs.declared.positions.Range.{Range}
use Rattle.mon_value.specs.declared.positions.Slot.{Slot}
use Rattle.core_store.specs.HintWords.{with_child_bit}
use Rattle.core_store.specs.Meetings.{sight_at_leaf, sight_at_range}
use Rattle.core_store.specs.Writers.{change_turn}
use Rattle.core_store.specs.declared.leaves.LeafSeat.{LeafSeat}
use Rattle.core_store.specs.declared.ranges.RangeSeat.{RangeSeat}
use Rattle.mon_topo.specs.declared.sights.Sight.{Sight}
use Rattle.core_store.specs.declared.store.Store.{Store}
use Rattle.mon_hints.specs.declared.places.Place.{Place}
use Rattle.core_store.specs.declared.writes.Writing.{Writing}
use Rattle.write_core.specs.Program.{after}
use Rattle.write_core.specs.RangeAnswers.{lock_answer}
use Rattle.write_core.specs.Replays.{HasAckRoom}
use Rattle.write_core.specs.declared.asks.WriteEnd.{WriteEnd}
use Rattle.write_core.specs.declared.asks.WriteEnd.TheVariants as end
use Rattle.write_core.specs.declared.asks.WriteTold.{WriteTold}
use Rattle.write_core.specs.declared.asks.WriteTold.TheVariants as told

-- ---- a write that is told something

-- it goes on by the answer, inside of this leaf or of none
pub record IsToldSo (answer : WriteTold) (inside : Option Leaf) (old new : Writing) : Type 0 where
  pub number : new.number ≡ old.number
  pub change : new.change ≡ old.change
  pub range : new.range ≡ old.range
  pub machine_range : new.machine.range ≡ old.machine.range
  pub stage : new.machine.stage ≡ after old.machine.stage answer
  pub inside_of : new.inside ≡ inside

-- someone holds the seat, so nothing changes
pub record IsHeldUp {Seat : Type 0} (holder : Option ℕ) (old new : Seat) (before after : Writing)
    (sight sight_after : Sight) : Type 0 where
  pub held : is_some holder ≡ true
  pub seat : new ≡ old
  pub writing : after ≡ before
  pub seen : sight_after ≡ sight

-- ---- at a range

-- what it is told there: a row goes in where the range takes it, and a trim always does
abbrev pub turn_answer : ℕ → List RangeEntry → Turn → WriteTold
turn_answer limit history (Adds row) = lock_answer limit history row
turn_answer limit history (Hides before) = told.Slots (serving history)

-- it takes the lock, room is made for its acknowledgement, and it is told whether its turn goes in
pub record Locks (limit : ℕ) (old new : RangeSeat) (before after : Writing) (sight sight_after : Sight) : Type 0 where
  pub free : old.holder ≡ None
  pub history : new.state.history ≡ old.state.history
  pub room : HasAckRoom new.state
  pub holder : new.holder ≡ Some before.number
  pub sight_there : new.sight ≡ sight_after
  pub seen : sight_after ≡ sight_at_range before.range old.state.history sight old.sight
  pub told_so : IsToldSo (turn_answer limit old.state.history (change_turn before.change)) before.inside before after

abbrev pub LocksIf : ℕ → RangeSeat → RangeSeat → Writing → Writing → Sight → Sight → Bool → Type 0
LocksIf limit old new before after sight sight_after true = Locks limit old new before after sight sight_after
LocksIf limit old new before after sight sight_after false = IsHeldUp old.holder old new before after sight sight_after

-- what an end appends to a range's history
abbrev pub with_end_entry : List RangeEntry → ℕ → Turn → WriteEnd → List RangeEntry
with_end_entry history number turn (end.Written ack) = history ++ turn_ack number turn ack ∷ []
with_end_entry history number turn (end.OldPoint last) = history
with_end_entry history number turn (end.RangeFull count) = history
with_end_entry history number turn (end.Unavailable founds) = history

-- it lets go of the range
pub record LetsGo (end : WriteEnd) (number : ℕ) (turn : Turn) (range : Range) (old new : RangeSeat)
    (sight sight_after : Sight) : Type 0 where
  pub history : new.state.history ≡ with_end_entry old.state.history number turn end
  pub holder : new.holder ≡ None
  pub sight_there : new.sight ≡ sight_after
  pub seen : sight_after ≡ sight_at_range range new.state.history sight old.sight

-- ---- at a leaf

-- what stays of a leaf's seat at every event
pub record StaysThere (old new : LeafSeat) (sight_after : Sight) : Type 0 where
  pub schemas : new.state.schemas ≡ old.state.schemas
  pub buckets : new.state.buckets ≡ old.state.buckets
  pub promised : new.state.promised ≡ old.state.promised
  pub zone : new.zone ≡ old.zone
  pub place : new.place ≡ old.place
  pub sight_there : new.sight ≡ sight_after

-- it is told that the leaf is down, or up with these buckets to be raised
abbrev pub up_or_down : List Entry → List ℕ → WriteTold
up_or_down history buckets = if is_down history then told.Down (length history) else told.Up buckets

-- it asks for room
pub record Reserves (leaf : Leaf) (old new : LeafSeat) (before after : Writing) (sight sight_after : Sight) : Type 0
  where
    pub free : old.holder ≡ None
    pub stays : StaysThere old new sight_after
    pub history : new.state.history ≡ old.state.history
    pub holder : new.holder ≡ None
    pub seen : sight_after ≡ sight_at_leaf leaf old.state.history sight old.sight
    pub told_so : IsToldSo (up_or_down old.state.history []) before.inside before after

abbrev pub ReservesIf : Leaf → LeafSeat → LeafSeat → Writing → Writing → Sight → Sight → Bool → Type 0
ReservesIf leaf old new before after sight sight_after true = Reserves leaf old new before after sight sight_after
ReservesIf leaf old new before after sight sight_after false = IsHeldUp old.holder old new before after sight
    sight_after

-- the buckets that a turn needs there, which are still to be raised: a trim needs none
abbrev pub AreTurnsToRaise : LeafView → Turn → List ℕ → Type 0
AreTurnsToRaise leaf (Adds row) buckets = AreToRaise leaf row.key buckets
AreTurnsToRaise leaf (Hides before) buckets = buckets ≡ []

-- it takes the leaf's lock where the leaf is up
pub record Enters (leaf : Leaf) (old new : LeafSeat) (before after : Writing) (sight sight_after : Sight) : Type 0 where
  pub free : old.holder ≡ None
  pub stays : StaysThere old new sight_after
  pub history : new.state.history ≡ old.state.history
  pub seen : sight_after ≡ sight_at_leaf leaf old.state.history sight old.sight
  pub buckets : List ℕ
  pub to_raise : is_down old.state.history ≡ false → AreTurnsToRaise old.state (change_turn before.change) buckets
  pub holder : new.holder ≡ (if is_down old.state.history then None else Some before.number)
  pub told_so : IsToldSo (up_or_down old.state.history buckets)
      (if is_down old.state.history then before.inside else Some leaf) before after

abbrev pub EntersIf : Leaf → LeafSeat → LeafSeat → Writing → Writing → Sight → Sight → Bool → Type 0
EntersIf leaf old new before after sight sight_after true = Enters leaf old new before after sight sight_after
EntersIf leaf old new before after sight sight_after false = IsHeldUp old.holder old new before after sight sight_after

-- a bit was set for the leaf that it is inside of
pub record RaisesBit (leaf : Leaf) (old new : LeafSeat) (before after : Writing) (sight sight_after : Sight) : Type 0
  where
    pub stays : StaysThere old new sight_after
    pub history : new.state.history ≡ old.state.history
    pub holder : new.holder ≡ old.holder
    pub seen : sight_after ≡ sight_at_leaf leaf old.state.history sight old.sight
    pub told_so : IsToldSo told.Done before.inside before after

-- its turn comes to a replica, and it lets go of the leaf
pub record Puts (slot : Slot) (leaf : Leaf) (old new : LeafSeat) (before after : Writing) (sight sight_after : Sight)
    : Type 0 where
  pub stays : StaysThere old new sight_after
  pub history : new.state.history
      ≡ old.state.history ++ turn_entry before.number before.range slot (change_turn before.change) ∷ []
  pub holder : new.holder ≡ None
  pub seen : sight_after ≡ sight_at_leaf leaf new.state.history sight old.sight
  pub told_so : IsToldSo told.Done None before after

-- ---- who asks for no more than a look

-- someone holds the seat, so nothing changes
pub record IsHeldFrom {Seat : Type 0} (holder : Option ℕ) (old new : Seat) (sight sight_after : Sight) : Type 0 where
  pub held : is_some holder ≡ true
  pub seat : new ≡ old
  pub seen : sight_after ≡ sight

-- ---- in a store

-- one range's seat is another, and nothing else
pub record ChangesRange (range : Range) (seat : RangeSeat) (old new : Store) : Type 0 where
  pub config : new.config ≡ old.config
  pub words : new.words ≡ old.words
  pub leaves : new.leaves.items ≡ old.leaves.items
  pub ranges : new.ranges.items ≡ set old.ranges.items range.0 seat
  pub first : new.first_sight ≡ old.first_sight

-- one leaf's
pub record ChangesLeaf (leaf : Leaf) (seat : LeafSeat) (old new : Store) : Type 0 where
  pub config : new.config ≡ old.config
  pub words : new.words ≡ old.words
  pub leaves : new.leaves.items ≡ set old.leaves.items leaf.0 seat
  pub ranges : new.ranges.items ≡ old.ranges.items
  pub first : new.first_sight ≡ old.first_sight

-- one leaf's, and a bit of a child in a word is set
pub record RaisesWord (place : Place) (child bucket : ℕ) (leaf : Leaf) (seat : LeafSeat) (old new : Store) : Type 0
  where
    pub config : new.config ≡ old.config
    pub words : new.words ≡ with_child_bit old.words place child bucket
    pub leaves : new.leaves.items ≡ set old.leaves.items leaf.0 seat
    pub ranges : new.ranges.items ≡ old.ranges.items
    pub first : new.first_sight ≡ old.first_sight
