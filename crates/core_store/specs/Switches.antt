-- What switching a leaf does to the leaf's seat and to how far this has seen, and what comes of it.
use Rattle.std.specs.Prelude.{ℕ, ◌≡◌, ◌<◌, Bool, List, [], ◌∷◌, ◌++◌, length, slice_get, Option, Some, None}
use Rattle.mon_topo.specs.Sights.{AreAlike}
use Rattle.mon_topo.specs.declared.sights.Sight.{Sight}
use Rattle.mon_value.specs.declared.histories.Entry.{Entry}
use Rattle.mon_value.specs.declared.positions.Leaf.{Leaf}
use Rattle.core_store.specs.Meetings.{sight_at_leaf}
use Rattle.core_store.specs.WriteEvents.{IsHeldFrom}
use Rattle.core_store.specs.WriteEvents.{ChangesLeaf, StaysThere}
use Rattle.core_store.specs.declared.leaves.LeafSeat.{LeafSeat}
use Rattle.core_store.specs.declared.store.Store.{Store}
use Rattle.core_store.specs.declared.switches.Switched.{Switched}
use Rattle.core_store.specs.declared.switches.Switched.TheVariants as came
use Rattle.core_store.specs.declared.switches.Switching.{Switching}
use Rattle.write_core.specs.Events.{IsToldOfSwitch, SwitchTold, SwitchesSpent, WasDownAlready, WasSwitched}
use Rattle.write_core.specs.Events.{WasUpAlready, switch_of}

-- what the core tells of it
abbrev pub switch_told : Switched → SwitchTold
switch_told (came.Done cut) = WasSwitched cut
switch_told (came.AlreadyDown cut) = WasDownAlready cut
switch_told (came.AlreadyUp cut) = WasUpAlready cut
switch_told (came.Spent count) = SwitchesSpent count

-- the leaf's history then: one entry more where it is done, and else as it was
abbrev pub history_switched : Bool → ℕ → SwitchTold → List Entry → List Entry
history_switched down pass (WasSwitched cut) history = history ++ switch_of down pass ∷ []
history_switched down pass (WasDownAlready cut) history = history
history_switched down pass (WasUpAlready cut) history = history
history_switched down pass (SwitchesSpent count) history = history

-- a leaf that nobody holds is switched
pub record SwitchesLeaf (switching : Switching) (old new : LeafSeat) (sight sight_after : Sight) (what : Switched)
    : Type 0 where
  pub free : old.holder ≡ None
  pub told_so : IsToldOfSwitch old.state.history switching.down (switch_told what)
  pub stays : StaysThere old new sight_after
  pub history : new.state.history
      ≡ history_switched switching.down switching.number (switch_told what) old.state.history
  pub holder : new.holder ≡ old.holder
  pub seen : sight_after ≡ sight_at_leaf switching.leaf new.state.history sight old.sight

abbrev pub SwitchesIf : Switching → LeafSeat → LeafSeat → Sight → Sight → Option Switched → Type 0
SwitchesIf switching old new sight sight_after (Some what) = SwitchesLeaf switching old new sight sight_after what
SwitchesIf switching old new sight sight_after None = IsHeldFrom old.holder old new sight sight_after

-- ---- in a store

-- who switches a leaf has seen of the same leaves and ranges as were seen there
abbrev pub IsSeatedToSwitch : Leaf → List LeafSeat → Sight → Type 0
IsSeatedToSwitch leaf seats sight = (seat : LeafSeat) → slice_get seats leaf.0 ≡ Some seat
    → AreAlike sight seat.sight × (leaf.0 < length seat.sight.leaves)

-- a leaf of the store is switched
pub record SwitchesAt (switching : Switching) (old new : Store) (sight sight_after : Sight) (what : Option Switched)
    : Type 0 where
  pub before : LeafSeat
  pub was : slice_get old.leaves.items switching.leaf.0 ≡ Some before
  pub seat : LeafSeat
  pub changes : ChangesLeaf switching.leaf seat old new
  pub switches : SwitchesIf switching before seat sight sight_after what
