-- What a step of a write comes to: its next event in the core, or nothing where someone else is in its way.
use Rattle.std.specs.Prelude.{ℕ, ◌≡◌, ◌≢◌, Bool, true, false, Some, if◌then◌else◌}
use Rattle.mon_config.specs.declared.config.Config.{Config}
use Rattle.mon_value.specs.declared.positions.Range.{Range}
use Rattle.core_store.specs.Writers.{IsWriterSo, change_turn}
use Rattle.core_store.specs.Agreements.{AreShared}
use Rattle.core_store.specs.Holders.{AreHolders}
use Rattle.mon_topo.specs.Sights.{sight_of}
use Rattle.core_store.specs.NextAsks.{holder_for_actor}
use Rattle.core_store.specs.Agreements.{store_of}
use Rattle.mon_topo.specs.declared.sights.Sight.{Sight}
use Rattle.core_store.specs.declared.store.Store.{Store}
use Rattle.core_store.specs.declared.writes.WriteTurn.{WriteTurn}
use Rattle.core_store.specs.declared.writes.WriteTurn.TheVariants as turn
use Rattle.core_store.specs.declared.writes.Writing.{Writing}
use Rattle.write_core.specs.Invariant.{IsKept}
use Rattle.write_core.specs.Program.{Ended, Verdict, after, ask_of, end_of_verdict}
use Rattle.write_core.specs.Steps.{CanCome, step}
use Rattle.mon_topo.specs.Views.{View}
use Rattle.write_core.specs.World.{World, Writer, Writes, view_of}
use Rattle.write_core.specs.declared.asks.WriteAsk.TheVariants.{Finished}
use Rattle.write_core.specs.declared.asks.WriteEnd.{WriteEnd}
use Rattle.write_core.specs.declared.asks.WriteTold.{WriteTold}

-- the turn of a write that went, or did not
abbrev pub turn_of : Bool → Writing → WriteTurn
turn_of went writing = if went then turn.Went writing else turn.Waits writing

-- a store and a write that goes on are as in a world of which all holds that every interleaving keeps
pub record IsAtWork (config : Config) (world : World) (i : ℕ) (store : Store) (writing : Writing) (sight : Sight)
    : Type 0 where
  pub kept : IsKept (store_of config) world
  pub holders : AreHolders world
  pub shared : AreShared config world store
  pub writer : IsWriterSo config.buckets i (world.actors i) writing sight
  pub goes_on : ask_of writing.machine.stage ≢ Finished

-- there is such a world
pub record IsInSomeWorld (store : Store) (writing : Writing) (sight : Sight) : Type 0 where
  pub config : Config
  pub world : World
  pub i : ℕ
  pub at_work : IsAtWork config world i store writing sight

-- a write that has ended
abbrev pub ended_write : ℕ → Writing → Verdict → View → Writer
ended_write i writing verdict view =
    record { pass = i; turn = change_turn writing.change; range = writing.range; stage = Ended verdict; view = view }

module _ (config : Config) (world : World) (i : ℕ) where
  abbrev pub world_after_step : WriteTold → World
  world_after_step answer = step (store_of config) world i answer

  -- its event came with this answer, and the store is as it is then
  pub record HasCome (store : Store) (answer : WriteTold) : Type 0 where
    pub can : CanCome (store_of config) world i answer
    pub shared : AreShared config (world_after_step answer) store

  -- and the write goes on
  pub record WriteWent (store : Store) (writing next : Writing) (sight : Sight) : Type 0 where
    pub answer : WriteTold
    pub came : HasCome store answer
    pub stage : next.machine.stage ≡ after writing.machine.stage answer
    pub writer : IsWriterSo config.buckets i ((world_after_step answer).actors i) next sight
    pub goes_on : ask_of next.machine.stage ≢ Finished

  -- or it has ended
  pub record WriteEnded (store : Store) (before : Writing) (sight : Sight) (range : Range) (end : WriteEnd) : Type 0
    where
      pub answer : WriteTold
      pub came : HasCome store answer
      pub verdict : Verdict
      pub writer : (world_after_step answer).actors i
          ≡ Writes (ended_write i before verdict (view_of ((world_after_step answer).actors i)))
      pub sight_is : sight ≡ sight_of (view_of ((world_after_step answer).actors i)).seen
      pub range_is : range ≡ before.range
      pub end_is : end ≡ end_of_verdict range verdict

  -- or another one holds what it needs, and nothing has changed
  pub record WriteWaits (store : Store) (writing next : Writing) (before now : Sight) : Type 0 where
    pub other : ℕ
    pub holds : holder_for_actor world (world.actors i) ≡ Some other
    pub another : other ≢ i
    pub shared : AreShared config world store
    pub writer : next ≡ writing
    pub seen : now ≡ before

  abbrev pub WritesSo : Writing → Store → Sight → Sight → WriteTurn → Type 0
  WritesSo writing new before now (turn.Went next) = WriteWent new writing next now
  WritesSo writing new before now (turn.Waits next) = WriteWaits new writing next before now
  WritesSo writing new before now (turn.Ended range end) = WriteEnded new writing now range end

  -- the turn of a write that went, or did not
  abbrev pub WentSo : Writing → Store → Sight → Sight → Writing → Bool → Type 0
  WentSo writing new before now next true = WriteWent new writing next now
  WentSo writing new before now next false = WriteWaits new writing next before now
