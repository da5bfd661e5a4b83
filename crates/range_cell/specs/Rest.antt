-- What holds of a range where its lock is free, and while a writer holds it.
use Rattle.std.specs.Prelude.{◌≡◌, ◌<◌, ◌≤◌, ℕ, true, false, List, [], filter, length, not, None, Contains}
use Rattle.history_book.specs.declared.views.History.TheVariants as of
use Rattle.history_book.specs.Seats.{times_range}
use Rattle.mon_topo.specs.RangeHistories.{opened_slots, serving, turns_since}
use Rattle.mon_value.specs.Histories.{leaf_history, range_history, range_numbered, same_range}
use Rattle.mon_value.specs.LeafHistories.{is_opened, replica_turns}
use Rattle.mon_value.specs.Turns.{Turn}
use Rattle.mon_value.specs.declared.histories.Histories.{Histories}
use Rattle.mon_value.specs.declared.histories.RangeEntry.{RangeEntry}
use Rattle.mon_value.specs.declared.positions.Leaf.{Leaf}
use Rattle.mon_value.specs.declared.positions.Range.{Range}
use Rattle.mon_value.specs.declared.positions.Slot.{Slot}
use Rattle.mon_value.specs.declared.positions.SlotLeaf.{SlotLeaf}
use Rattle.owners.specs.Owners.{RangeView}
use Rattle.write_core.specs.Replays.{Replay}

-- the ranges of a list but for this one
abbrev pub others : Range → List Range → List Range
others range holds = filter (λ other. not (same_range range other)) holds

-- a replica is opened on its leaf, and just these turns came to it
pub record HasJust (seen : Histories) (range : Range) (turns : List Turn) (replica : SlotLeaf) : Type 0 where
  pub opened : is_opened range replica.slot (leaf_history seen replica.leaf) ≡ true
  pub all : replica_turns range replica.slot (leaf_history seen replica.leaf) ≡ turns

-- no leaf has a replica of the range in a slot from this one on
abbrev pub AreUnopened : Histories → Range → ℕ → Type 0
AreUnopened seen range from =
    (slot : Slot) (leaf : Leaf) → from ≤ slot.0 → is_opened range slot (leaf_history seen leaf) ≡ false

-- to each replica that serves by a range's history came just the turns that this acknowledges since it was opened, and
-- no leaf has a replica that the history doesn't open
pub record HaveJust (seen : Histories) (range : Range) (history : List RangeEntry) : Type 0 where
  pub turns : (replica : SlotLeaf) → Contains (serving history) replica
      → HasJust seen range (turns_since replica.slot history) replica
  pub fresh : AreUnopened seen range (length (opened_slots history))

-- The replay is that of the history which the owner has seen, the owner holds the range and no other, to the replicas
-- that serve came just the acknowledged turns, no leaf has a replica that the history doesn't open, and no guest is there
pub record IsRangeAtRest (range : ℕ) (replay : Replay) (owner : RangeView) : Type 0 where
  pub range_is : owner.range ≡ range_numbered range
  pub own : owner.book.history ≡ of.Range owner.range
  pub free : owner.book.guest ≡ None
  pub holds : 0 < times_range owner.range owner.book.held
  pub only : others owner.range owner.book.held ≡ []
  pub history : range_history owner.book.seen owner.range ≡ replay.history
  pub turns : HaveJust owner.book.seen owner.range replay.history

-- A writer went with the range: the owner holds none
pub record IsRangeHeld (range : ℕ) (replay : Replay) (owner : RangeView) : Type 0 where
  pub range_is : owner.range ≡ range_numbered range
  pub own : owner.book.history ≡ of.Range owner.range
  pub free : owner.book.guest ≡ None
  pub lent : owner.book.held ≡ []
  pub history : range_history owner.book.seen owner.range ≡ replay.history
