-- What a look at a leaf gives its caller.
use Rattle.std.specs.Prelude.{◌≡◌, ℕ, ◌+◌, false, List, [], length, take}
use Rattle.know.specs.Knowledge.{Knowledge, stopped_count}
use Rattle.know.specs.declared.answers.Found.{Found}
use Rattle.know.specs.declared.answers.Found.TheVariants as found
use Rattle.leaf_store.specs.LeafStates as store
use Rattle.mon_value.specs.Histories.{leaf_history}
use Rattle.mon_value.specs.LeafHistories.{is_down, kept_rows}
use Rattle.mon_value.specs.declared.histories.Entry.{Entry}
use Rattle.mon_value.specs.declared.positions.Leaf.{Leaf}
use Rattle.mon_value.specs.declared.positions.Range.{Range}
use Rattle.mon_value.specs.declared.positions.Slot.{Slot}
use Rattle.mon_value.specs.declared.rows.Row.{Row}
use Rattle.owners.specs.Calls.{HasCalled, HasFoundDown}

-- a leaf may have been settled, and is as before else
pub record IsAsBefore (old new : store.LeafView) : Type 0 where
  pub schemas : new.schemas ≡ old.schemas
  pub buckets : new.buckets ≡ old.buckets
  pub history : new.history ≡ old.history
  pub promised : new.promised ≡ old.promised

-- The leaf was up, something was told of its history, and so many rows were handed out
pub record HasReadUp (leaf : Leaf) (tells : List Entry → ℕ → Type 0) (before after : Knowledge) : Type 0 where
  pub history : List Entry
  pub sent : ℕ
  pub up : is_down history ≡ false
  pub told : tells history sent
  pub called : HasCalled leaf history [] before after
  pub rooms_are : after.purse.rooms ≡ before.purse.rooms
  pub handed : after.handed ≡ stopped_count (before.handed + sent)

-- by the answer
abbrev pub HasVisited : Leaf → (List Entry → ℕ → Type 0) → Found → Knowledge → Knowledge → Type 0
HasVisited leaf tells found.Up before after = HasReadUp leaf tells before after
HasVisited leaf tells (found.Down cut) before after = HasFoundDown leaf cut before.purse.rooms before after

-- The rows that a replica keeps in the beginning of what had been seen of the leaf were handed out, whether it is up or
-- down
pub record HasGathered (leaf : Leaf) (range : Range) (slot : Slot) (cut : ℕ) (rows : List Row)
    (before after : Knowledge) : Type 0 where
  pub history : List Entry
  pub rows_are : rows ≡ kept_rows range slot (take cut (leaf_history before.seen leaf))
  pub called : HasCalled leaf history [] before after
  pub rooms_are : after.purse.rooms ≡ before.purse.rooms
  pub handed : after.handed ≡ stopped_count (before.handed + length rows)
