-- What can happen: events of writes and of recoveries, and what else there is, one after another.
use Rattle.std.specs.Prelude.{ℕ, ◌≡◌, ◌<◌, ◌+◌, Bool, true, false, not, List, [], ◌∷◌, length, None, Contains}
use Rattle.std.specs.List.{count_by, list_any}
use Rattle.mon_value.specs.LeafHistories.{is_down, is_switch}
use Rattle.mon_value.specs.declared.limits.TheConstants.{MOST_SWITCHES}
use Rattle.mon_value.specs.declared.histories.Entry.{Entry}
use Rattle.mon_value.specs.declared.histories.Entry.TheVariants as entry
use Rattle.mon_value.specs.declared.positions.Leaf.{Leaf}
use Rattle.mon_value.specs.declared.histories.RangeEntry.{RangeEntry}
use Rattle.mon_value.specs.declared.histories.RangeEntry.TheVariants as range_entry
use Rattle.mon_value.specs.declared.positions.Range.{Range}
use Rattle.mon_topo.specs.RangeHistories.{is_on, serving}
use Rattle.mon_value.specs.Turns.{Turn}
use Rattle.mon_topo.specs.Settings.{Setting}
use Rattle.write_core.specs.CopySteps.{CanCopy, copy_step}
use Rattle.write_core.specs.Invariant.{IsAimed}
use Rattle.write_core.specs.Program.{Locking}
use Rattle.write_core.specs.Recovering.{Beginning, CopyTold}
use Rattle.write_core.specs.Steps.{IsTurnAtHome, CanCome, same_view, step}
use Rattle.mon_topo.specs.Views.{View, joined_view, of_leaf, of_range, with_entry, with_range_entry}
use Rattle.write_core.specs.World.{Actor, IsPart, Recovers, Recovery, Stander, Stands, World, Writer, Writes, at_leaf}
use Rattle.write_core.specs.World.{at_range}
use Rattle.write_core.specs.World.{pass_of, stands_on, view_of, wiser, with_value_at}
use Rattle.write_core.specs.declared.asks.WriteTold.{WriteTold}
use Rattle.write_core.specs.declared.retirements.Retirement.{Retirement}
use Rattle.write_core.specs.declared.retirements.Retirement.TheVariants.{LastServing, NotServing, WasRetired}

-- what someone who switches a leaf is told: it is done, and the leaf's history has so many entries then; the leaf was
-- down, or up, already, with so many; or it was switched so often that it may not be again
pub data SwitchTold : Type 0 where
  WasSwitched : ℕ → SwitchTold
  WasDownAlready : ℕ → SwitchTold
  WasUpAlready : ℕ → SwitchTold
  SwitchesSpent : ℕ → SwitchTold

-- a leaf is to be down, or up
abbrev pub switch_of : Bool → ℕ → Entry
switch_of true pass = entry.Down pass
switch_of false pass = entry.Up pass

abbrev pub IsToldOfSwitch : List Entry → Bool → SwitchTold → Type 0
IsToldOfSwitch history down (WasSwitched cut) =
    (is_down history ≡ not down) × (count_by is_switch history < MOST_SWITCHES) × (cut ≡ length history + 1)
IsToldOfSwitch history down (WasDownAlready cut) = (down ≡ true) × (is_down history ≡ true) × (cut ≡ length history)
IsToldOfSwitch history down (WasUpAlready cut) = (down ≡ false) × (is_down history ≡ false) × (cut ≡ length history)
IsToldOfSwitch history down (SwitchesSpent count) =
    (is_down history ≡ not down) × (count_by is_switch history ≡ count) × (count ≡ MOST_SWITCHES)

abbrev pub switches_with : Leaf → Bool → ℕ → SwitchTold → View → View
switches_with leaf down pass (WasSwitched cut) = with_entry leaf (switch_of down pass)
switches_with leaf down pass (WasDownAlready cut) = same_view
switches_with leaf down pass (WasUpAlready cut) = same_view
switches_with leaf down pass (SwitchesSpent count) = same_view

-- someone who stands by switches a leaf that nobody holds, and is told so
pub record CanSwitch (world : World) (stander : Stander) (leaf : Leaf) (down : Bool) (told : SwitchTold) : Type 0 where
  pub there : leaf.0 < length world.truth.seen.leaves
  pub free : world.leaf_holder leaf.0 ≡ None
  pub tells : IsToldOfSwitch (of_leaf world.truth leaf) down told

abbrev pub MaySwitch : World → Actor → Leaf → Bool → SwitchTold → Type 0
MaySwitch world (Writes writer) leaf down told = ⊥
MaySwitch world (Recovers recovery) leaf down told = ⊥
MaySwitch world (Stands stander) leaf down told = CanSwitch world stander leaf down told

abbrev pub switched : World → ℕ → Actor → Leaf → Bool → SwitchTold → World
switched world i (Writes writer) leaf down told = world
switched world i (Recovers recovery) leaf down told = world
switched world i (Stands stander) leaf down told =
    at_leaf world i stander.view leaf (switches_with leaf down stander.pass told) None (stands_on stander)

abbrev pub after_switch : World → ℕ → Leaf → Bool → SwitchTold → World
after_switch world i leaf down told = switched world i (world.actors i) leaf down told

-- ---- retirements

-- what someone who retires a range's replica on a leaf is told: the slot that serves no longer; that none serves there;
-- or that it is the only one that serves
abbrev pub IsToldOfRetirement : List RangeEntry → Leaf → Retirement → Type 0
IsToldOfRetirement history leaf (WasRetired slot) =
    Contains (serving history) (record { slot = slot; leaf = leaf }) × (1 < length (serving history))
IsToldOfRetirement history leaf NotServing = list_any (is_on leaf) (serving history) ≡ false
IsToldOfRetirement history leaf (LastServing slot) = serving history ≡ record { slot = slot; leaf = leaf } ∷ []

abbrev pub retires_with : Range → ℕ → Retirement → View → View
retires_with range pass (WasRetired slot) = with_range_entry range (range_entry.Retired pass slot)
retires_with range pass NotServing = same_view
retires_with range pass (LastServing slot) = same_view

-- someone who stands by retires a replica of a range that nobody holds, and is told so
pub record CanRetire (world : World) (stander : Stander) (range : Range) (leaf : Leaf) (told : Retirement) : Type 0 where
  pub there : range.0 < length world.truth.seen.ranges
  pub free : world.range_holder range.0 ≡ None
  pub tells : IsToldOfRetirement (of_range world.truth range) leaf told

abbrev pub MayRetire : World → Actor → Range → Leaf → Retirement → Type 0
MayRetire world (Writes writer) range leaf told = ⊥
MayRetire world (Recovers recovery) range leaf told = ⊥
MayRetire world (Stands stander) range leaf told = CanRetire world stander range leaf told

abbrev pub retired : World → ℕ → Actor → Range → Leaf → Retirement → World
retired world i (Writes writer) range leaf told = world
retired world i (Recovers recovery) range leaf told = world
retired world i (Stands stander) range leaf told =
    at_range world i stander.view range (retires_with range stander.pass told) None (stands_on stander)

abbrev pub after_retirement : World → ℕ → Range → Leaf → Retirement → World
after_retirement world i range leaf told = retired world i (world.actors i) range leaf told

-- an actor that has not begun to write or to recover
abbrev pub HasNotBegun : Actor → Type 0
HasNotBegun (Writes writer) = writer.stage ≡ Locking
HasNotBegun (Recovers recovery) = recovery.stage ≡ Beginning
HasNotBegun (Stands stander) = Unit {0}

-- an actor learns what someone has seen
abbrev pub after_learning : World → ℕ → View → World
after_learning world i view = record {
  truth = world.truth;
  leaves = world.leaves;
  ranges = world.ranges;
  leaf_holder = world.leaf_holder;
  range_holder = world.range_holder;
  actors = with_value_at world.actors i (wiser (world.actors i) view);
  notes = world.notes;
}

-- someone who stands by is to write a row, which lies in a range that there is, or to trim one
abbrev pub CanBegin : Setting → World → Turn → Range → Actor → Type 0
CanBegin setting world turn range (Stands stander) =
    IsTurnAtHome setting range turn × (range.0 < length world.truth.seen.ranges)
CanBegin setting world turn range (Writes writer) = ⊥
CanBegin setting world turn range (Recovers recovery) = ⊥

abbrev pub new_writer : Turn → Range → Actor → Writer
new_writer turn range actor =
    record { pass = pass_of actor; turn = turn; range = range; stage = Locking; view = view_of actor }

abbrev pub after_beginning : World → ℕ → Turn → Range → World
after_beginning world i turn range = record {
  truth = world.truth;
  leaves = world.leaves;
  ranges = world.ranges;
  leaf_holder = world.leaf_holder;
  range_holder = world.range_holder;
  actors = with_value_at world.actors i (Writes (new_writer turn range (world.actors i)));
  notes = world.notes;
}

-- someone who stands by is to recover a range onto a leaf of its zone
abbrev pub new_recovery : Range → Leaf → Actor → Recovery
new_recovery range leaf actor = record {
  pass = pass_of actor;
  range = range;
  leaf = leaf;
  stage = Beginning;
  view = view_of actor;
}

abbrev pub CanAim : Setting → Range → Leaf → Actor → Type 0
CanAim setting range leaf (Stands stander) = IsAimed setting (new_recovery range leaf (Stands stander))
CanAim setting range leaf (Writes writer) = ⊥
CanAim setting range leaf (Recovers recovery) = ⊥

abbrev pub after_aiming : World → ℕ → Range → Leaf → World
after_aiming world i range leaf = record {
  truth = world.truth;
  leaves = world.leaves;
  ranges = world.ranges;
  leaf_holder = world.leaf_holder;
  range_holder = world.range_holder;
  actors = with_value_at world.actors i (Recovers (new_recovery range leaf (world.actors i)));
  notes = world.notes;
}

-- someone who has seen so much looks at a leaf: both have then seen what either had
abbrev pub after_visit : World → Leaf → View → World
after_visit world leaf view = record {
  truth = world.truth;
  leaves = with_value_at world.leaves leaf.0 (joined_view view (world.leaves leaf.0));
  ranges = world.ranges;
  leaf_holder = world.leaf_holder;
  range_holder = world.range_holder;
  actors = world.actors;
  notes = world.notes;
}

-- or at a range
abbrev pub after_resolving : World → Range → View → World
after_resolving world range view = record {
  truth = world.truth;
  leaves = world.leaves;
  ranges = with_value_at world.ranges range.0 (joined_view view (world.ranges range.0));
  leaf_holder = world.leaf_holder;
  range_holder = world.range_holder;
  actors = world.actors;
  notes = world.notes;
}

-- ---- events, one after another

-- a write, or a recovery, does its next event and is told so; someone who stands by switches a leaf and is told so; an
-- actor that has not begun learns something; someone who stands by begins a write, or a recovery; someone looks at a
-- leaf or at a range that nobody holds
pub data Event : Type 0 where
  Goes : ℕ → WriteTold → Event
  Copies : ℕ → CopyTold → Event
  Switches : ℕ → Leaf → Bool → SwitchTold → Event
  Retires : ℕ → Range → Leaf → Retirement → Event
  Learns : ℕ → View → Event
  Begins : ℕ → Turn → Range → Event
  Aims : ℕ → Range → Leaf → Event
  Visits : Leaf → View → Event
  Resolves : Range → View → Event

abbrev pub CanHappen : Setting → World → Event → Type 0
CanHappen setting world (Goes i answer) = CanCome setting world i answer
CanHappen setting world (Copies i told) = CanCopy setting world i told
CanHappen setting world (Switches i leaf down told) = MaySwitch world (world.actors i) leaf down told
CanHappen setting world (Retires i range leaf told) = MayRetire world (world.actors i) range leaf told
CanHappen setting world (Learns i view) = HasNotBegun (world.actors i) × IsPart setting world view
CanHappen setting world (Begins i turn range) = CanBegin setting world turn range (world.actors i)
CanHappen setting world (Aims i range leaf) = CanAim setting range leaf (world.actors i)
CanHappen setting world (Visits leaf view) = (world.leaf_holder leaf.0 ≡ None) × IsPart setting world view
CanHappen setting world (Resolves range view) = (world.range_holder range.0 ≡ None) × IsPart setting world view

abbrev pub after_event : Setting → World → Event → World
after_event setting world (Goes i answer) = step setting world i answer
after_event setting world (Copies i told) = copy_step setting world i told
after_event setting world (Switches i leaf down told) = after_switch world i leaf down told
after_event setting world (Retires i range leaf told) = after_retirement world i range leaf told
after_event setting world (Learns i view) = after_learning world i view
after_event setting world (Begins i turn range) = after_beginning world i turn range
after_event setting world (Aims i range leaf) = after_aiming world i range leaf
after_event setting world (Visits leaf view) = after_visit world leaf view
after_event setting world (Resolves range view) = after_resolving world range view

abbrev pub CanRun : Setting → World → List Event → Type 0
CanRun setting world [] = Unit {0}
CanRun setting world (event ∷ events) =
    CanHappen setting world event × CanRun setting (after_event setting world event) events

abbrev pub after_events : Setting → World → List Event → World
after_events setting world [] = world
after_events setting world (event ∷ events) = after_events setting (after_event setting world event) events
