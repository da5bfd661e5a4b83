-- How taking a leaf down, or up again, ends, and what its caller has then.
use Rattle.std.specs.Prelude.{◌≡◌, ℕ, ◌+◌, List, [], ◌∷◌, ◌++◌, length, Some, None}
use Rattle.history_book.specs.Seats.{length_note}
use Rattle.history_book.specs.declared.views.BookEntry.TheVariants as one
use Rattle.history_book.specs.declared.views.History.{History}
use Rattle.history_book.specs.declared.views.History.TheVariants as of
use Rattle.know.specs.Knowledge.{Knowledge}
use Rattle.leaf_cell.specs.Controls.{switch_entry, switch_fault}
use Rattle.leaf_cell.specs.declared.controls.Control.{Control}
use Rattle.leaf_cell.specs.declared.controls.ControlFault.{ControlFault}
use Rattle.mon_topo.specs.HeldHistories.{BeginsWith}
use Rattle.mon_value.specs.Histories.{leaf_history}
use Rattle.mon_value.specs.declared.histories.Entry.{Entry}
use Rattle.mon_value.specs.declared.positions.Leaf.{Leaf}
use Rattle.owners.specs.Puts.{pass_of}
use Rattle.mon_store.specs.Writes.{IsStill, new_entries, only_in, own_entries}

-- A leaf was found with this history: its length alone was noted, and it goes on from what had been seen of it before
pub record WasLeafFoundSo (leaf : Leaf) (history : List Entry) (before after : Knowledge) : Type 0 where
  pub notes : after.purse.notes ≡ before.purse.notes ++ length_note leaf.0 (length history) ∷ []
  pub from : BeginsWith history (leaf_history before.seen leaf)
  pub to : BeginsWith (leaf_history after.seen leaf) history

-- The leaf was the other way, and not all of its switches were done: the switch is all that was added, behind all that
-- the leaf was found with, and its history has so many entries then
pub record IsSwitched (leaf : Leaf) (to : Control) (before after : Knowledge) (cut : ℕ) : Type 0 where
  pub history : List Entry
  pub found : WasLeafFoundSo leaf history before after
  pub may : switch_fault to history ≡ None
  pub counted : length history + 1 ≡ cut
  pub switched : leaf_history after.seen leaf ≡ history ++ switch_entry to (pass_of before) ∷ []
  pub own : (whose : History) → own_entries after.purse.own whose
      ≡ own_entries before.purse.own whose ++ only_in (of.Leaf leaf) (one.Leaf (switch_entry to (pass_of before))) whose
  pub new : (whose : History) → new_entries before after whose
      ≡ only_in (of.Leaf leaf) (one.Leaf (switch_entry to (pass_of before))) whose
  pub still : IsStill before after

-- It was found with a history by which it isn't switched, for this reason
pub record IsNotSwitched (leaf : Leaf) (to : Control) (before after : Knowledge) (why : ControlFault) : Type 0 where
  pub history : List Entry
  pub found : WasLeafFoundSo leaf history before after
  pub fault_is : switch_fault to history ≡ Some why
