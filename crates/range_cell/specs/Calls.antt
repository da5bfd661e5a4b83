-- What a range's owner is with a caller, and what a caller has after a call at a range.
use Rattle.std.specs.Prelude.{◌≡◌, ◌<◌, ℕ, ◌+◌, Bool, List, [], ◌∷◌, ◌++◌, length, filter, Option, option_map}
use Rattle.history_book.specs.declared.rooms.RoomMove.TheVariants as move
use Rattle.history_book.specs.declared.views.BookEntry.TheVariants as one
use Rattle.history_book.specs.declared.views.History.TheVariants as of
use Rattle.history_book.specs.Histories.{AreFronts, leaf_entry_is_about}
use Rattle.history_book.specs.Seats.{after_own_learn, after_parting, kept_with, length_note, times_range}
use Rattle.history_book.specs.Seats.{with_guest}
use Rattle.know.specs.Knowledge.{Knowledge}
use Rattle.know.specs.Lending.{lent_seat}
use Rattle.mon_topo.specs.HeldHistories.{AreHeld, with_range_entry}
use Rattle.mon_topo.specs.RangeHistories.{first_serving, serving}
use Rattle.mon_topo.specs.Settings.{Setting}
use Rattle.mon_value.specs.Histories.{joined_histories, leaf_history, range_history}
use Rattle.mon_value.specs.declared.histories.Histories.{Histories}
use Rattle.mon_value.specs.declared.histories.RangeEntry.{RangeEntry}
use Rattle.mon_value.specs.declared.positions.Leaf.{Leaf}
use Rattle.mon_value.specs.declared.positions.Range.{Range}
use Rattle.mon_value.specs.declared.positions.SlotLeaf.{SlotLeaf}
use Rattle.owners.specs.Owners.{RangeView}
use Rattle.raise_table.specs.Seats.{KnowsAsMuch, met, without_notes}
use Rattle.range_cell.specs.Rest.{HaveJust, IsRangeAtRest, IsRangeHeld, others}
use Rattle.write_core.specs.Replays.{Replay}
use Rattle.write_core.specs.declared.asks.WriteTold.{WriteTold}
use Rattle.write_core.specs.declared.asks.WriteTold.TheVariants as told

-- The owner knows and has seen what either had, and its guest noted how long the history is
pub record HasCome (leaves : ℕ) (know : Knowledge) (owner now : RangeView) : Type 0 where
  pub range : now.range ≡ owner.range
  pub hints : now.hints ≡ met owner.hints (without_notes know.hints)
  pub book : now.book ≡ after_own_learn (leaves + owner.range.0)
      (length (range_history owner.book.seen owner.range)) (with_guest (lent_seat know) owner.book)
  -- of its own history it has seen what it had seen
  pub whole : range_history (joined_histories owner.book.seen know.seen) owner.range
      ≡ range_history owner.book.seen owner.range
  -- it has seen what the caller had seen; of entries about a range just what the one had seen that holds it
  pub fronts : AreFronts know.seen (joined_histories owner.book.seen know.seen)
  pub kept : (range : Range) (leaf : Leaf) → 0 < times_range range owner.book.held
      → filter (leaf_entry_is_about range) (leaf_history (joined_histories owner.book.seen know.seen) leaf)
      ≡ filter (leaf_entry_is_about range) (leaf_history owner.book.seen leaf)
  pub held : (range : Range) (leaf : Leaf) → 0 < times_range range know.purse.holds
      → filter (leaf_entry_is_about range) (leaf_history (joined_histories owner.book.seen know.seen) leaf)
      ≡ filter (leaf_entry_is_about range) (leaf_history know.seen leaf)

-- the owner once its caller went, with the range or without it
abbrev pub parted_owner : Bool → RangeView → RangeView
parted_owner hold owner =
    record { range = owner.range; hints = owner.hints; book = after_parting move.Keep hold owner.book }

-- A caller looked at a range of a store of so many leaves, and holds these ranges then: it has seen all of its history,
-- and noted the length
pub record HasMetRange (leaves : ℕ) (range : Range) (holds : List Range) (before after : Knowledge) : Type 0 where
  pub fronts : AreFronts before.seen after.seen
  pub notes : after.purse.notes
      ≡ before.purse.notes ++ length_note (leaves + range.0) (length (range_history after.seen range)) ∷ []
  pub own : after.purse.own ≡ before.purse.own
  pub met : after.purse.met ≡ before.purse.met
  pub stock : after.purse.stock ≡ before.purse.stock
  pub lost : after.purse.lost ≡ before.purse.lost
  pub rooms : after.purse.rooms ≡ before.purse.rooms
  pub holding : after.purse.holds ≡ holds
  pub hint_notes : after.hints.notes ≡ before.hints.notes
  pub knows : KnowsAsMuch before.hints after.hints
  pub handed : after.handed ≡ before.handed

-- the ranges that a caller holds but for this one
abbrev pub others_of : Range → Knowledge → List Range
others_of range know = others range know.purse.holds

-- The range came back as it was
pub record HasGivenBack (leaves : ℕ) (range : Range) (history : List RangeEntry) (before after : Knowledge)
    : Type 0 where
  pub met : HasMetRange leaves range (others_of range before) before after
  pub whole : range_history after.seen range ≡ history

-- it was told the first replica that serves then
pub record HasResolved (leaves : ℕ) (range : Range) (avoid : List Leaf) (told : Option SlotLeaf)
    (before after : Knowledge) : Type 0 where
  pub met : HasMetRange leaves range before.purse.holds before after
  pub first : first_serving avoid (range_history after.seen range) ≡ told

-- it was told the replicas that serve then
pub record HasListed (leaves : ℕ) (range : Range) (told : List SlotLeaf) (before after : Knowledge) : Type 0 where
  pub met : HasMetRange leaves range before.purse.holds before after
  pub serve : serving (range_history after.seen range) ≡ told

-- it holds the range, and knows of the replicas that serve which turns came to them, and of no other that was opened
pub record HasBegun (leaves : ℕ) (range : Range) (history : List RangeEntry) (before after : Knowledge) : Type 0 where
  pub lent : List Range
  pub met : HasMetRange leaves range (lent ++ before.purse.holds) before after
  pub some : 0 < times_range range (lent ++ before.purse.holds)
  pub only : others range lent ≡ []
  pub whole : range_history after.seen range ≡ history
  pub turns : HaveJust after.seen range history

-- what a write was told at the lock: where the row goes in, the range is held
abbrev pub HasAnswered : ℕ → Range → Replay → RangeView → WriteTold → Knowledge → Knowledge → Type 0
HasAnswered leaves range replay owner (told.Slots replicas) before after =
    HasBegun leaves range replay.history before after × IsRangeHeld range.0 replay owner
HasAnswered leaves range replay owner (told.OldPoint last) before after =
    HasMetRange leaves range before.purse.holds before after × IsRangeAtRest range.0 replay owner
HasAnswered leaves range replay owner (told.RangeFull count) before after =
    HasMetRange leaves range before.purse.holds before after × IsRangeAtRest range.0 replay owner
HasAnswered leaves range replay owner (told.Up buckets) before after = Unit {0}
HasAnswered leaves range replay owner (told.Down cut) before after = Unit {0}
HasAnswered leaves range replay owner told.Done before after = Unit {0}

-- ---- an entry of the range

-- An entry may come to a range's history: whatever else was seen with what the holder of the range has seen, it is held
-- with the entry, and to the replicas that serve then came just the turns that are acknowledged then
pub record MayEnter (setting : Setting) (range : Range) (history : List RangeEntry) (e : RangeEntry)
    (know : Knowledge) : Type 0 where
  pub held : (seen : Histories) → AreFronts know.seen seen → range_history seen range ≡ history
      → range.0 < length seen.ranges → AreHeld setting.held setting.zones setting.points seen
      → AreHeld setting.held setting.zones setting.points (with_range_entry range e seen)
  pub turns : HaveJust know.seen range (history ++ e ∷ [])

-- The caller added an entry to a range of this history, and holds the range no more
pub record HasEntered (leaves : ℕ) (range : Range) (history : List RangeEntry) (e : RangeEntry)
    (before after : Knowledge) : Type 0 where
  pub fronts : AreFronts before.seen after.seen
  pub whole : range_history after.seen range ≡ history ++ e ∷ []
  pub notes : after.purse.notes ≡ before.purse.notes ++ length_note (leaves + range.0) (length history) ∷ []
  pub own : after.purse.own ≡ option_map (kept_with (of.Range range) (one.Range e)) before.purse.own
  pub met : after.purse.met ≡ before.purse.met
  pub stock : after.purse.stock ≡ before.purse.stock
  pub lost : after.purse.lost ≡ before.purse.lost
  pub rooms : after.purse.rooms ≡ before.purse.rooms
  pub holding : after.purse.holds ≡ others range before.purse.holds
  pub hint_notes : after.hints.notes ≡ before.hints.notes
  pub knows : KnowsAsMuch before.hints after.hints
  pub handed : after.handed ≡ before.handed
