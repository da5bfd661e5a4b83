-- When a leaf goes down or comes up, and what whoever switched it has then.
use Rattle.std.specs.Prelude.{◌≡◌, ℕ, ◌+◌, nat_eq, not, List, [], ◌∷◌, length, Option, Some, None, Result, Ok, Err}
use Rattle.std.specs.Prelude.{if◌then◌else◌}
use Rattle.std.specs.List.{count_by}
use Rattle.know.specs.Knowledge.{Knowledge}
use Rattle.leaf_cell.specs.declared.controls.Control.{Control}
use Rattle.leaf_cell.specs.declared.controls.Control.TheVariants as going
use Rattle.leaf_cell.specs.declared.controls.ControlFault.{ControlFault}
use Rattle.leaf_cell.specs.declared.controls.ControlFault.TheVariants as fault
use Rattle.mon_value.specs.declared.limits.TheConstants.{MOST_SWITCHES}
use Rattle.mon_value.specs.LeafHistories.{is_down, is_switch}
use Rattle.mon_value.specs.declared.histories.Entry.{Entry}
use Rattle.mon_value.specs.declared.histories.Entry.TheVariants as entry
use Rattle.mon_value.specs.declared.positions.Leaf.{Leaf}
use Rattle.owners.specs.Calls.{HasCalled}

-- the entry that a pass adds
abbrev pub switch_entry : Control → ℕ → Entry
switch_entry going.Down pass = entry.Down pass
switch_entry going.Up pass = entry.Up pass

-- a leaf is switched so often, and not again
abbrev pub spent_fault : List Entry → Option ControlFault
spent_fault history =
    if nat_eq (count_by is_switch history) MOST_SWITCHES then Some (fault.SwitchesSpent MOST_SWITCHES) else None

-- why a leaf of this history isn't switched: it is so already, or all its switches were done
abbrev pub switch_fault : Control → List Entry → Option ControlFault
switch_fault going.Down history =
    if is_down history then Some (fault.AlreadyDown (length history)) else spent_fault history
switch_fault going.Up history =
    if not (is_down history) then Some (fault.AlreadyUp (length history)) else spent_fault history

-- The leaf was switched, which its history of so many entries now says
pub record HasSwitched (leaf : Leaf) (to : Control) (pass cut : ℕ) (before after : Knowledge) : Type 0 where
  pub history : List Entry
  pub may : switch_fault to history ≡ None
  pub counted : length history + 1 ≡ cut
  pub called : HasCalled leaf history (switch_entry to pass ∷ []) before after
  pub rooms_are : after.purse.rooms ≡ before.purse.rooms
  pub handed : after.handed ≡ before.handed

-- It wasn't, and this is why
pub record HasNotSwitched (leaf : Leaf) (to : Control) (why : ControlFault) (before after : Knowledge) : Type 0 where
  pub history : List Entry
  pub fault_is : switch_fault to history ≡ Some why
  pub called : HasCalled leaf history [] before after
  pub rooms_are : after.purse.rooms ≡ before.purse.rooms
  pub handed : after.handed ≡ before.handed

-- by the answer
abbrev pub HasControlled : Leaf → Control → ℕ → Result ℕ ControlFault → Knowledge → Knowledge → Type 0
HasControlled leaf to pass (Ok cut) before after = HasSwitched leaf to pass cut before after
HasControlled leaf to pass (Err why) before after = HasNotSwitched leaf to why before after
