-- What a switch asks for, and what it leaves to whoever asked for it: it brings no row, and is about no range.
use Rattle.std.proofs.lemmas.Bool.{not-false}
use Rattle.std.proofs.Common.{◌≡◌, ◌<◌, ℕ, ◌+◌, Bool, true, false, not, List, [], ◌∷◌, ◌++◌}
use Rattle.std.proofs.Common.{arith, cond, length, length-append, refl}
use Rattle.std.proofs.Common.{Option, Some, None}
use Rattle.std.specs.List.{count_by}
use Rattle.history_book.specs.Histories.{leaf_entry_is_about, leaf_entry_pass}
use Rattle.history_book.specs.declared.rooms.RoomMove.TheVariants as move
use Rattle.know.specs.Knowledge.{Knowledge}
use Rattle.leaf_cell.specs.Controls.{HasNotSwitched, HasSwitched, switch_entry, switch_fault}
use Rattle.leaf_cell.specs.declared.controls.Control.{Control}
use Rattle.leaf_cell.specs.declared.controls.Control.TheVariants as going
use Rattle.leaf_cell.specs.declared.controls.ControlFault.{ControlFault}
use Rattle.mon_topo.specs.HeldHistories.{AreAtHome}
use Rattle.mon_topo.specs.Settings.{Setting}
use Rattle.mon_value.specs.LeafHistories.{MayFollow, brought_rows, is_down, is_switch}
use Rattle.mon_value.specs.declared.limits.TheConstants.{MOST_SWITCHES}
use Rattle.mon_value.specs.declared.histories.Entry.{Entry}
use Rattle.mon_value.specs.declared.positions.Leaf.{Leaf}
use Rattle.mon_value.specs.declared.positions.Range.{Range}
use Rattle.owners.specs.Entries.{LeadsOn}
use Rattle.owners.specs.Receiving.{HasGone}
use Rattle.raise_table.specs.declared.views.Hints.{Hints}

pub switch_pass : (to : Control) (pass : ℕ) → leaf_entry_pass (switch_entry to pass) ≡ pass
switch_pass going.Down pass = refl
switch_pass going.Up pass = refl

pub switches : (to : Control) (pass : ℕ) → is_switch (switch_entry to pass) ≡ true
switches going.Down pass = refl
switches going.Up pass = refl

pub switch_home : (setting : Setting) (to : Control) (pass : ℕ)
    → AreAtHome setting.held setting.zones (switch_entry to pass)
switch_home setting going.Down pass = tt
switch_home setting going.Up pass = tt

pub switch_brings : (to : Control) (pass : ℕ) → brought_rows (switch_entry to pass) ≡ []
switch_brings going.Down pass = refl
switch_brings going.Up pass = refl

pub switch_about : (to : Control) (pass : ℕ) (range : Range)
    → leaf_entry_is_about range (switch_entry to pass) ≡ false
switch_about going.Down pass range = refl
switch_about going.Up pass range = refl

pub switch_leads : (setting : Setting) (hints : Hints) (leaf : Leaf) (history : List Entry) (to : Control) (pass : ℕ)
    → LeadsOn setting hints leaf history (switch_entry to pass)
switch_leads setting hints leaf history going.Down pass = λ bucket there lacks. absurd cc
switch_leads setting hints leaf history going.Up pass = λ bucket there lacks. absurd cc

passed : (b : Bool) (why : ControlFault) (rest : Option ControlFault) → cond b (Some why) rest ≡ None → b ≡ false
passed true why rest e = absurd cc
passed false why rest e = refl

-- a switch that nothing speaks against may follow
pub switch_follows : (to : Control) (history : List Entry) (pass : ℕ) → switch_fault to history ≡ None
    → count_by is_switch history < MOST_SWITCHES → MayFollow history (switch_entry to pass)
switch_follows going.Down history pass none few = (passed (is_down history) _ _ none, few)
switch_follows going.Up history pass none few = (not-false (is_down history) (passed (not (is_down history)) _ _ none), few)

pub one_longer : (history : List Entry) (e : Entry) → length (history ++ e ∷ []) ≡ length history + 1
one_longer history e = let both = length-append history (e ∷ []) in omega (arith, both)

module _ (leaf : Leaf) (history : List Entry) (to : Control) (before after : Knowledge) where
  pub has_switched : (pass cut : ℕ) → switch_fault to history ≡ None → length history + 1 ≡ cut
      → HasGone leaf history (switch_entry to pass ∷ []) move.Keep before after
      → HasSwitched leaf to pass cut before after
  has_switched pass cut may counted gone = record {
    history = history;
    may = may;
    counted = counted;
    called = gone.called;
    rooms_are = gone.rooms_are;
    handed = gone.handed;
  }

  pub has_not_switched : (why : ControlFault) → switch_fault to history ≡ Some why
      → HasGone leaf history [] move.Keep before after → HasNotSwitched leaf to why before after
  has_not_switched why fault_is gone = record {
    history = history;
    fault_is = fault_is;
    called = gone.called;
    rooms_are = gone.rooms_are;
    handed = gone.handed;
  }
