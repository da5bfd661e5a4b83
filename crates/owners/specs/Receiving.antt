-- What a leaf's owner is once it received a caller, and once the caller went.
use Rattle.std.specs.Prelude.{◌≡◌, ◌<◌, ◌≤◌, ℕ, false, List, length, filter}
use Rattle.history_book.specs.declared.rooms.RoomMove.{RoomMove}
use Rattle.history_book.specs.declared.views.History.{History}
use Rattle.history_book.specs.declared.views.History.TheVariants as of
use Rattle.history_book.specs.Histories.{AreFronts, entries, is_about}
use Rattle.history_book.specs.Seats.{after_own_learn, after_parting, rooms_after, times_range, times_room, with_guest}
use Rattle.know.specs.Knowledge.{Knowledge}
use Rattle.know.specs.Lending.{lent_seat}
use Rattle.mon_value.specs.Histories.{leaf_history}
use Rattle.mon_value.specs.declared.histories.Entry.{Entry}
use Rattle.mon_value.specs.declared.positions.Leaf.{Leaf}
use Rattle.mon_value.specs.declared.positions.Range.{Range}
use Rattle.owners.specs.Calls.{HasCalled}
use Rattle.owners.specs.Owners.{LeafView}
use Rattle.raise_table.specs.Seats.{after_meet, without_notes}

-- The owner knows and has seen what either had, and its guest noted how long the history is
pub record HasReceived (know : Knowledge) (cut : ℕ) (owner now : LeafView) : Type 0 where
  pub leaf : now.leaf ≡ owner.leaf
  pub own : owner.book.history ≡ of.Leaf owner.leaf
  pub hints : now.hints ≡ after_meet (without_notes know.hints) owner.hints
  pub book : now.book ≡ after_own_learn owner.leaf.0 cut (with_guest (lent_seat know) owner.book)
  -- of its own history it has seen what it had seen, which has that length
  pub whole : leaf_history now.book.seen owner.leaf ≡ leaf_history owner.book.seen owner.leaf
  pub counted : length (leaf_history owner.book.seen owner.leaf) ≡ cut
  -- it has seen what the caller had seen, and of entries about a range that the caller holds no more
  pub fronts : AreFronts know.seen now.book.seen
  pub held : (range : Range) (history : History) → 0 < times_range range know.purse.holds
      → filter (is_about range) (entries now.book.seen history) ≡ filter (is_about range) (entries know.seen history)
  -- it promised the rooms that the caller has there
  pub promised : times_room owner.leaf know.purse.rooms ≤ owner.book.promised

-- the owner once its caller went
abbrev pub parted : RoomMove → LeafView → LeafView
parted rooms owner =
    record { leaf = owner.leaf; hints = owner.hints; book = after_parting rooms false owner.book }

-- The caller went with all of the history and what was added there, and with a room there more or less
pub record HasGone (leaf : Leaf) (history added : List Entry) (rooms : RoomMove) (before after : Knowledge)
    : Type 0 where
  pub called : HasCalled leaf history added before after
  pub rooms_are : after.purse.rooms ≡ rooms_after rooms (of.Leaf leaf) before.purse.rooms
  pub handed : after.handed ≡ before.handed
