-- What is kept of a write: how far it is in the core, and how far it has seen histories.
use Rattle.std.specs.Prelude.{ℕ, ◌≡◌, ◌<◌, false}
use Rattle.std.specs.List.{AllByRecursion}
use Rattle.core_store.specs.Holders.{leaf_inside}
use Rattle.mon_topo.specs.Sights.{sight_of}
use Rattle.mon_topo.specs.declared.sights.Sight.{Sight}
use Rattle.mon_value.specs.Turns.{Turn, Adds, Hides}
use Rattle.core_store.specs.declared.writes.Change.{Change}
use Rattle.core_store.specs.declared.writes.Change.TheVariants as change
use Rattle.core_store.specs.declared.writes.Writing.{Writing as Write}
use Rattle.write_core.specs.Program.{Acking, Ended, Entering, Inside, Locking, Reserving, Stage}
use Rattle.write_core.specs.Rounds.{is_through}
use Rattle.mon_topo.specs.Views.{View}
use Rattle.write_core.specs.World.{Actor as Doer, Writer, Writes, view_of}

-- the turn that a write brings
abbrev pub change_turn : Change → Turn
change_turn (change.Adds row key) = Adds row
change_turn (change.Hides before) = Hides before

-- a row has its own key beside it
abbrev pub IsKeyed : Change → Type 0
IsKeyed (change.Adds row key) = key ≡ row.key
IsKeyed (change.Hides before) = Unit {0}

-- the write of an actor, by what is kept of it
abbrev pub writer_of : ℕ → Write → View → Writer
writer_of i writing view = record {
  pass = i;
  turn = change_turn writing.change;
  range = writing.range;
  stage = writing.machine.stage;
  view = view;
}

-- a write that goes from replica to replica looks at one
abbrev pub LooksAtOne : Stage → Type 0
LooksAtOne Locking = Unit {0}
LooksAtOne (Reserving round) = is_through round ≡ false
LooksAtOne (Entering round) = is_through round ≡ false
LooksAtOne (Inside round at_root in_zone) = is_through round ≡ false
LooksAtOne (Acking verdict) = Unit {0}
LooksAtOne (Ended verdict) = Unit {0}

-- the buckets that are still to be raised are below so many
abbrev pub RaisesBelow : ℕ → Stage → Type 0
RaisesBelow count Locking = Unit {0}
RaisesBelow count (Reserving round) = Unit {0}
RaisesBelow count (Entering round) = Unit {0}
RaisesBelow count (Inside round at_root in_zone) =
    AllByRecursion (λ bucket. bucket < count) at_root × AllByRecursion (λ bucket. bucket < count) in_zone
RaisesBelow count (Acking verdict) = Unit {0}
RaisesBelow count (Ended verdict) = Unit {0}

-- an actor of the core is this write, in a store of so many buckets, and has seen so much
pub record IsWriterSo (buckets i : ℕ) (doer : Doer) (writing : Write) (sight : Sight) : Type 0 where
  pub number : writing.number ≡ i
  pub key : IsKeyed writing.change
  pub writer : doer ≡ Writes (writer_of i writing (view_of doer))
  pub range : writing.machine.range ≡ writing.range
  pub looks : LooksAtOne writing.machine.stage
  pub below : RaisesBelow buckets writing.machine.stage
  pub inside : writing.inside ≡ leaf_inside writing.machine.stage
  pub seen : sight ≡ sight_of (view_of doer).seen
