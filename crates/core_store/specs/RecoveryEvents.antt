-- What an event of a recovery does to the seat that it needs, and to how far the recovery has seen; and what it is told.
use Rattle.std.specs.Prelude.{ℕ, ◌≡◌, ◌<◌, ◌&&◌, Bool, not, false, List, [], ◌∷◌, ◌++◌, length, slice_get, Option, Some, None}
use Rattle.std.specs.List.Sorted.{IsStrictlyIncreasing}
use Rattle.core_store.specs.Meetings.{sight_at_leaf, sight_at_range}
use Rattle.leaf_store.specs.LeafStates.{key_buckets, LeafView}
use Rattle.mon_hints.specs.Hints.{history_buckets, rows_buckets}
use Rattle.mon_hints.specs.Formulas.{is_among}
use Rattle.mon_hints.specs.declared.places.Place.{Place}
use Rattle.mon_hints.specs.declared.places.Place.TheVariants as at
use Rattle.mon_topo.specs.RangeHistories.{serving}
use Rattle.mon_topo.specs.Sights.{AreAlike}
use Rattle.mon_topo.specs.declared.sights.Sight.{Sight}
use Rattle.mon_value.specs.LeafHistories.{IsWellFormed, is_down}
use Rattle.mon_value.specs.declared.histories.Entry.{Entry}
use Rattle.mon_value.specs.declared.histories.RangeEntry.{RangeEntry}
use Rattle.mon_value.specs.declared.histories.RangeEntry.TheVariants as range_entry
use Rattle.mon_value.specs.declared.positions.Leaf.{Leaf}
use Rattle.mon_value.specs.declared.positions.Range.{Range}
use Rattle.mon_value.specs.declared.positions.Slot.{Slot}
use Rattle.mon_value.specs.declared.rows.Row.{Row}
use Rattle.core_store.specs.HintWords.{HasWord}
use Rattle.core_store.specs.WriteEvents.{IsHeldFrom}
use Rattle.core_store.specs.WriteEvents.{ChangesLeaf, ChangesRange, RaisesWord, StaysThere}
use Rattle.core_store.specs.declared.leaves.LeafSeat.{LeafSeat}
use Rattle.core_store.specs.declared.ranges.RangeSeat.{RangeSeat}
use Rattle.core_store.specs.declared.store.Store.{Store}
use Rattle.write_core.specs.CopySteps.{IsToldBySource, IsToldByTarget, IsToldDown}
use Rattle.write_core.specs.Recovering.{denial_of}
use Rattle.write_core.specs.declared.copies.CopyTold.{CopyTold}
use Rattle.write_core.specs.declared.copies.CopyTold.TheVariants.{Admits, Denies, Sources, WasDown}
use Rattle.write_core.specs.declared.copies.Denial.{Denial}
use Rattle.write_core.specs.declared.copies.Outcome.{Outcome}
use Rattle.write_core.specs.declared.copies.Outcome.TheVariants.{Denied, NoSource, NoTarget, Opens}
use Rattle.write_core.specs.Replays.{HasAckRoom}

-- ---- at the range

-- the replicas that serve, or why the range opens none on the leaf
abbrev pub told_by_denial : List RangeEntry → Option Denial → CopyTold
told_by_denial history (Some why) = Denies why
told_by_denial history None = Sources (serving history)

abbrev pub opening_told : List RangeEntry → Leaf → CopyTold
opening_told history leaf = told_by_denial history (denial_of history leaf)

-- it takes the lock
pub record LocksToOpen (number : ℕ) (range : Range) (leaf : Leaf) (old new : RangeSeat) (sight sight_after : Sight)
    (answer : CopyTold) : Type 0 where
  pub free : old.holder ≡ None
  pub history : new.state.history ≡ old.state.history
  pub room : HasAckRoom new.state
  pub holder : new.holder ≡ Some number
  pub sight_there : new.sight ≡ sight_after
  pub seen : sight_after ≡ sight_at_range range old.state.history sight old.sight
  pub told_so : answer ≡ opening_told old.state.history leaf

abbrev pub LocksToOpenIf : ℕ → Range → Leaf → RangeSeat → RangeSeat → Sight → Sight → Option CopyTold → Type 0
LocksToOpenIf number range leaf old new sight sight_after (Some answer) =
    LocksToOpen number range leaf old new sight sight_after answer
LocksToOpenIf number range leaf old new sight sight_after None = IsHeldFrom old.holder old new sight sight_after

-- what a recovery that comes out so appends to its range's history
abbrev pub with_outcome : List RangeEntry → ℕ → Leaf → Outcome → List RangeEntry
with_outcome history number leaf (Opens slot) = history ++ range_entry.Opened number slot leaf ∷ []
with_outcome history number leaf (Denied why) = history
with_outcome history number leaf (NoSource founds) = history
with_outcome history number leaf (NoTarget cut) = history

-- it tells this, and lets go of the range
pub record TellsRange (outcome : Outcome) (number : ℕ) (range : Range) (leaf : Leaf) (old new : RangeSeat)
    (sight sight_after : Sight) : Type 0 where
  pub history : new.state.history ≡ with_outcome old.state.history number leaf outcome
  pub holder : new.holder ≡ None
  pub sight_there : new.sight ≡ sight_after
  pub seen : sight_after ≡ sight_at_range range new.state.history sight old.sight

-- ---- at a leaf

-- its buckets of these rows that no series of a leaf has, rising
pub record AreAllToRaise (state : LeafView) (rows : List Row) (buckets : List ℕ) : Type 0 where
  pub rising : IsStrictlyIncreasing buckets
  pub same : (bucket : ℕ) → is_among bucket buckets
      ≡ (is_among bucket (rows_buckets (key_buckets state.buckets state.schemas) rows)
      && not (is_among bucket (history_buckets (key_buckets state.buckets state.schemas) state.history)))

-- a leaf is entered with these rows, or is down
abbrev pub IsAdmitted : List Row → LeafView → CopyTold → Type 0
IsAdmitted rows state (Admits buckets) = (is_down state.history ≡ false) × AreAllToRaise state rows buckets
IsAdmitted rows state (WasDown cut) = IsToldDown state.history cut
IsAdmitted rows state answer = ⊥

-- a replica's rows, or that the leaf is down
abbrev pub tells_rows : Range → Slot → LeafView → CopyTold → Type 0
tells_rows range slot state answer = IsToldBySource range slot state.history answer

-- that there is room, or that the leaf is down
abbrev pub tells_room : LeafView → CopyTold → Type 0
tells_room state answer = IsToldByTarget state.history answer

-- buckets are those of a set, rising
pub record Lists (set : ℕ → Bool) (buckets : List ℕ) : Type 0 where
  pub rising : IsStrictlyIncreasing buckets
  pub same : (bucket : ℕ) → is_among bucket buckets ≡ set bucket

-- it looks at a leaf, whose history and whose holder are these then
pub record MeetsLeaf (leaf : Leaf) (history : List Entry) (holder : Option ℕ) (old new : LeafSeat)
    (sight sight_after : Sight) : Type 0 where
  pub stays : StaysThere old new sight_after
  pub history_is : new.state.history ≡ history
  pub holder_is : new.holder ≡ holder
  pub seen : sight_after ≡ sight_at_leaf leaf history sight old.sight

-- it asks a leaf that nobody holds, and is told what may be told by it
pub record AsksLeaf (Tells : LeafView → CopyTold → Type 0) (holds : CopyTold → Option ℕ) (leaf : Leaf)
    (old new : LeafSeat) (sight sight_after : Sight) (answer : CopyTold) : Type 0 where
  pub free : old.holder ≡ None
  pub told_so : Tells old.state answer
  pub meets : MeetsLeaf leaf old.state.history (holds answer) old new sight sight_after

abbrev pub AsksLeafIf : (LeafView → CopyTold → Type 0) → (CopyTold → Option ℕ) → Leaf → LeafSeat → LeafSeat → Sight
    → Sight → Option CopyTold → Type 0
AsksLeafIf Tells holds leaf old new sight sight_after (Some answer) =
    AsksLeaf Tells holds leaf old new sight sight_after answer
AsksLeafIf Tells holds leaf old new sight sight_after None = IsHeldFrom old.holder old new sight sight_after

abbrev pub nobody : CopyTold → Option ℕ
nobody answer = None

-- ---- in a store

-- who looks at a range has seen of the same leaves and ranges as were seen there
abbrev pub IsSeatedAtRange : Range → List RangeSeat → Sight → Type 0
IsSeatedAtRange range seats sight = (seat : RangeSeat) → slice_get seats range.0 ≡ Some seat
    → AreAlike sight seat.sight × (range.0 < length seat.sight.ranges)

pub record LocksRangeAt (number : ℕ) (range : Range) (leaf : Leaf) (old new : Store) (sight sight_after : Sight)
    (answer : Option CopyTold) : Type 0 where
  pub before : RangeSeat
  pub was : slice_get old.ranges.items range.0 ≡ Some before
  pub seat : RangeSeat
  pub changes : ChangesRange range seat old new
  pub locks : LocksToOpenIf number range leaf before seat sight sight_after answer

pub record TellsRangeAt (outcome : Outcome) (number : ℕ) (range : Range) (leaf : Leaf) (old new : Store)
    (sight sight_after : Sight) : Type 0 where
  pub before : RangeSeat
  pub was : slice_get old.ranges.items range.0 ≡ Some before
  pub seat : RangeSeat
  pub changes : ChangesRange range seat old new
  pub tells : TellsRange outcome number range leaf before seat sight sight_after

pub record AsksLeafAt (Tells : LeafView → CopyTold → Type 0) (holds : CopyTold → Option ℕ) (leaf : Leaf)
    (old new : Store) (sight sight_after : Sight) (answer : Option CopyTold) : Type 0 where
  pub before : LeafSeat
  pub was : slice_get old.leaves.items leaf.0 ≡ Some before
  pub seat : LeafSeat
  pub changes : ChangesLeaf leaf seat old new
  pub asks : AsksLeafIf Tells holds leaf before seat sight sight_after answer

-- a leaf's history has one entry more, and nobody holds the leaf
pub record PutsAt (leaf : Leaf) (last : Entry) (old new : Store) (sight sight_after : Sight) : Type 0 where
  pub before : LeafSeat
  pub was : slice_get old.leaves.items leaf.0 ≡ Some before
  pub seat : LeafSeat
  pub changes : ChangesLeaf leaf seat old new
  pub puts : MeetsLeaf leaf (before.state.history ++ last ∷ []) None before seat sight sight_after

-- an entry may follow in a leaf's history
abbrev pub MayFollowAt : Leaf → Entry → Store → Type 0
MayFollowAt leaf last store = (seat : LeafSeat) → slice_get store.leaves.items leaf.0 ≡ Some seat
    → IsWellFormed (seat.state.history ++ last ∷ [])

-- the word, and the child in it, of the zone of a leaf's seat at the root, and of the leaf in its zone
abbrev pub root_word : LeafSeat → Place
root_word seat = at.Root

abbrev pub zone_child : LeafSeat → ℕ
zone_child seat = seat.zone.0

abbrev pub zone_word : LeafSeat → Place
zone_word seat = at.Zone seat.zone

abbrev pub leaf_child : LeafSeat → ℕ
leaf_child seat = seat.place

abbrev pub MayRaise : (LeafSeat → Place) → (LeafSeat → ℕ) → ℕ → Leaf → Store → Type 0
MayRaise place_of child_of bucket leaf store = (seat : LeafSeat) → slice_get store.leaves.items leaf.0 ≡ Some seat
    → HasWord store.words (place_of seat) bucket × (child_of seat < 64)

-- a bit is set of a child of a word that the leaf's seat tells
pub record RaisesAt (place_of : LeafSeat → Place) (child_of : LeafSeat → ℕ) (bucket : ℕ) (leaf : Leaf) (old new : Store)
    (sight sight_after : Sight) : Type 0 where
  pub before : LeafSeat
  pub was : slice_get old.leaves.items leaf.0 ≡ Some before
  pub seat : LeafSeat
  pub changes : RaisesWord (place_of before) (child_of before) bucket leaf seat old new
  pub meets : MeetsLeaf leaf before.state.history before.holder before seat sight sight_after
