-- What is kept of actors: how far each of them is in the core, and how far it has seen histories.
use Rattle.std.specs.Prelude.{ℕ, ◌+◌, pos, ◌≡◌, ◌≢◌, ◌<◌, ◌≤ℤ◌, Bool, true, false, List, length, slice_get, Option}
use Rattle.std.specs.Prelude.{Some, None}
use Rattle.mon_config.specs.declared.config.Config.{Config}
use Rattle.mon_topo.specs.HeldHistories.{AreWithin, first_histories}
use Rattle.mon_topo.specs.Settings.{Setting}
use Rattle.mon_topo.specs.Zones.{leaves_in, ranges_in}
use Rattle.mon_value.specs.declared.positions.Leaf.{Leaf}
use Rattle.mon_value.specs.declared.positions.Range.{Range}
use Rattle.query_traces.specs.Askings.{IsAskedOf}
use Rattle.query_core.specs.Machine.{new_query}
use Rattle.query_core.specs.Program as query
use Rattle.query_traces.specs.declared.asks.Ask.TheVariants as query_ask
use Rattle.core_store.specs.Agreements.{AreShared, first_view}
use Rattle.core_theory.specs.Core.{Reader, asked_now, query_now}
use Rattle.core_store.specs.Holders.{AreHolders}
use Rattle.core_theory.specs.Licensed.{IsWoven}
use Rattle.weave_core.specs.PlannedQueries.{IsPlanned}
use Rattle.mon_topo.specs.Sights.{sight_of}
use Rattle.mon_value.specs.Parts.{is_any}
use Rattle.core_store.specs.Recoverers.{IsRecovererSo}
use Rattle.weave_core.specs.States.{Asking, Dismissed, Eventless, Recovering, Retiring, Role, State, Switching}
use Rattle.weave_core.specs.States.{Undeclared, Writing}
use Rattle.core_store.specs.NextAsks.{copy_asks, recovers_begun, write_asks, writes_begun}
use Rattle.core_store.specs.Agreements.{store_of}
use Rattle.core_store.specs.Writers.{IsWriterSo}
use Rattle.weave_core.specs.declared.actors.Actor.{Actor}
use Rattle.weave_core.specs.declared.actors.Task.{Task}
use Rattle.weave_core.specs.declared.actors.Task.TheVariants as task
use Rattle.schedule_lines.specs.declared.limits.TheConstants.{LAST_ACTOR}
use Rattle.weave_core.specs.declared.queries.Querying.{Querying}
use Rattle.core_store.specs.declared.recoveries.Recovering.{Recovering as Recovery}
use Rattle.core_store.specs.declared.retirements.Retiring.{Retiring as Retire}
use Rattle.mon_topo.specs.declared.sights.Sight.{Sight}
use Rattle.core_store.specs.declared.switches.Switching.{Switching as Switch}
use Rattle.weave_core.specs.declared.weave.Weave.{Weave}
use Rattle.core_store.specs.declared.writes.Writing.{Writing as Write}
use Rattle.write_core.specs.CopyPhases.{copy_ask_of}
use Rattle.write_core.specs.Program as write
use Rattle.write_core.specs.World.{Actor as Doer, Stands, view_of}
use Rattle.write_core.specs.declared.asks.WriteAsk.TheVariants as write_ask
use Rattle.write_core.specs.declared.copies.CopyAsk.TheVariants as copy_ask

-- ---- a query

-- a query of the core is this one, and its caller has seen so much
pub record IsReaderSo (store : Setting) (reader : Reader store) (querying : Querying) (sight : Sight) : Type 0 where
  pub asked : IsAskedOf store querying.machine.setting
  pub moment_lawful : pos 0 ≤ℤ querying.moment
  pub setting : reader.setting ≡ querying.machine.setting
  pub moment : reader.moment ≡ querying.moment
  pub first : reader.first ≡ new_query reader.setting
  pub now : query_now store reader ≡ querying.machine
  pub since : AreWithin (first_histories store.zones) reader.view.seen
  pub seen : sight ≡ sight_of reader.view.seen

-- ---- an actor, by the writer or stander and by the reader that the core has under its number

module _ (config : Config) (i : ℕ) (doer : Doer) (reader : Reader (store_of config)) where
  -- it has written nothing
  abbrev pub HasWrittenNothing : Type 0
  HasWrittenNothing = doer ≡ Stands (record { pass = i; view = view_of doer })

  -- nothing was said yet of what it is to do, and it has seen what all have seen at first
  abbrev pub IsUndeclared : Type 0
  IsUndeclared = doer ≡ Stands (record { pass = i; view = first_view config })

  -- its call has no event, and it ends with this text at its first step
  pub record IsWithoutEvent (text own : List ℕ) (begun : Bool) (sight : Sight) : Type 0 where
    pub text_is : own ≡ text
    pub stands : HasWrittenNothing
    pub begun_is : begun ≡ false
    pub seen : sight ≡ sight_of (view_of doer).seen

  -- it has done so, or has switched its leaf, or retired its replica
  pub record IsDismissed (sight : Sight) : Type 0 where
    pub stands : HasWrittenNothing
    pub seen : sight ≡ sight_of (view_of doer).seen

  -- it is to switch a leaf, and has not begun
  pub record IsSwitching (leaf : Leaf) (down : Bool) (switching : Switch) (begun : Bool) (sight : Sight) : Type 0 where
    pub switch_is : switching ≡ record { number = i; leaf = leaf; down = down }
    pub there : leaf.0 < length (leaves_in config.topology)
    pub stands : HasWrittenNothing
    pub begun_is : begun ≡ false
    pub seen : sight ≡ sight_of (view_of doer).seen

  -- it is to retire a range's replica on a leaf, and has not begun
  pub record IsRetiring (range : Range) (leaf : Leaf) (retiring : Retire) (begun : Bool) (sight : Sight) : Type 0 where
    pub retire_is : retiring ≡ record { number = i; range = range; leaf = leaf }
    pub there : range.0 < length (ranges_in config.topology)
    pub stands : HasWrittenNothing
    pub begun_is : begun ≡ false
    pub seen : sight ≡ sight_of (view_of doer).seen

  -- it recovers a range
  pub record IsRecovering (recovering : Recovery) (begun : Bool) (sight : Sight) : Type 0 where
    pub recoverer : IsRecovererSo config i doer recovering sight
    pub goes_on : copy_ask_of recovering.machine ≢ copy_ask.Finished
    pub begun_is : begun ≡ recovers_begun doer

  -- its recovery has ended
  pub record HasRecovered (sight : Sight) : Type 0 where
    pub ended : copy_asks doer ≡ copy_ask.Finished
    pub begun_is : recovers_begun doer ≡ true
    pub seen : sight ≡ sight_of (view_of doer).seen

  -- it writes, or trims
  pub record IsWriting (writing : Write) (begun : Bool) (sight : Sight) : Type 0 where
    pub writer : IsWriterSo config.buckets i doer writing sight
    pub goes_on : write.ask_of writing.machine.stage ≢ write_ask.Finished
    pub begun_is : begun ≡ writes_begun doer

  -- its write or trim has ended
  pub record HasWritten (sight : Sight) : Type 0 where
    pub ended : write_asks doer ≡ write_ask.Finished
    pub begun_is : writes_begun doer ≡ true
    pub seen : sight ≡ sight_of (view_of doer).seen

  -- it queries
  pub record IsQuerying (querying : Querying) (begun : Bool) (sight : Sight) : Type 0 where
    pub reader_so : IsReaderSo (store_of config) reader querying sight
    pub planned : IsPlanned config querying
    pub stands : HasWrittenNothing
    pub goes_on : query.ask_of querying.machine.setting querying.machine.stage ≢ query_ask.Finished
    pub begun_is : begun ≡ is_any reader.session

  -- its query has ended
  pub record HasQueried (sight : Sight) : Type 0 where
    pub ended : asked_now (store_of config) reader ≡ query_ask.Finished
    pub begun_is : is_any reader.session ≡ true
    pub stands : HasWrittenNothing
    pub seen : sight ≡ sight_of reader.view.seen

  -- an actor of this role is so far, and has seen so much
  abbrev pub IsTaskSo : Role → Task → Bool → Sight → Type 0
  IsTaskSo Undeclared task begun sight = ⊥
  IsTaskSo (Eventless text) (task.Refused own) begun sight = IsWithoutEvent text own begun sight
  IsTaskSo (Eventless text) (task.Switches switching) begun sight = ⊥
  IsTaskSo (Eventless text) (task.Retires retiring) begun sight = ⊥
  IsTaskSo (Eventless text) (task.Recovers recovering) begun sight = ⊥
  IsTaskSo (Eventless text) (task.Writes writing) begun sight = ⊥
  IsTaskSo (Eventless text) (task.Queries querying) begun sight = ⊥
  IsTaskSo (Eventless text) task.Ended begun sight = ⊥
  IsTaskSo (Switching leaf down) (task.Refused own) begun sight = ⊥
  IsTaskSo (Switching leaf down) (task.Switches switching) begun sight = IsSwitching leaf down switching begun sight
  IsTaskSo (Switching leaf down) (task.Retires retiring) begun sight = ⊥
  IsTaskSo (Switching leaf down) (task.Recovers recovering) begun sight = ⊥
  IsTaskSo (Switching leaf down) (task.Writes writing) begun sight = ⊥
  IsTaskSo (Switching leaf down) (task.Queries querying) begun sight = ⊥
  IsTaskSo (Switching leaf down) task.Ended begun sight = ⊥
  IsTaskSo (Retiring range leaf) (task.Refused own) begun sight = ⊥
  IsTaskSo (Retiring range leaf) (task.Switches switching) begun sight = ⊥
  IsTaskSo (Retiring range leaf) (task.Retires retiring) begun sight = IsRetiring range leaf retiring begun sight
  IsTaskSo (Retiring range leaf) (task.Recovers recovering) begun sight = ⊥
  IsTaskSo (Retiring range leaf) (task.Writes writing) begun sight = ⊥
  IsTaskSo (Retiring range leaf) (task.Queries querying) begun sight = ⊥
  IsTaskSo (Retiring range leaf) task.Ended begun sight = ⊥
  IsTaskSo Dismissed (task.Refused own) begun sight = ⊥
  IsTaskSo Dismissed (task.Switches switching) begun sight = ⊥
  IsTaskSo Dismissed (task.Retires retiring) begun sight = ⊥
  IsTaskSo Dismissed (task.Recovers recovering) begun sight = ⊥
  IsTaskSo Dismissed (task.Writes writing) begun sight = ⊥
  IsTaskSo Dismissed (task.Queries querying) begun sight = ⊥
  IsTaskSo Dismissed task.Ended begun sight = IsDismissed sight
  IsTaskSo Recovering (task.Refused own) begun sight = ⊥
  IsTaskSo Recovering (task.Switches switching) begun sight = ⊥
  IsTaskSo Recovering (task.Retires retiring) begun sight = ⊥
  IsTaskSo Recovering (task.Recovers recovering) begun sight = IsRecovering recovering begun sight
  IsTaskSo Recovering (task.Writes writing) begun sight = ⊥
  IsTaskSo Recovering (task.Queries querying) begun sight = ⊥
  IsTaskSo Recovering task.Ended begun sight = HasRecovered sight
  IsTaskSo Writing (task.Refused own) begun sight = ⊥
  IsTaskSo Writing (task.Switches switching) begun sight = ⊥
  IsTaskSo Writing (task.Retires retiring) begun sight = ⊥
  IsTaskSo Writing (task.Recovers recovering) begun sight = ⊥
  IsTaskSo Writing (task.Writes writing) begun sight = IsWriting writing begun sight
  IsTaskSo Writing (task.Queries querying) begun sight = ⊥
  IsTaskSo Writing task.Ended begun sight = HasWritten sight
  IsTaskSo Asking (task.Refused own) begun sight = ⊥
  IsTaskSo Asking (task.Switches switching) begun sight = ⊥
  IsTaskSo Asking (task.Retires retiring) begun sight = ⊥
  IsTaskSo Asking (task.Recovers recovering) begun sight = ⊥
  IsTaskSo Asking (task.Writes writing) begun sight = ⊥
  IsTaskSo Asking (task.Queries querying) begun sight = IsQuerying querying begun sight
  IsTaskSo Asking task.Ended begun sight = HasQueried sight

  abbrev pub IsActorSo : Role → Option Actor → Type 0
  IsActorSo Undeclared None = IsUndeclared
  IsActorSo (Eventless text) None = ⊥
  IsActorSo (Switching leaf down) None = ⊥
  IsActorSo (Retiring range leaf) None = ⊥
  IsActorSo Dismissed None = ⊥
  IsActorSo Recovering None = ⊥
  IsActorSo Writing None = ⊥
  IsActorSo Asking None = ⊥
  IsActorSo role (Some actor) = IsTaskSo role actor.task actor.begun actor.sight

-- ---- all actors, by their numbers; that at the place 0 is none

abbrev pub flat : {X : Type 0} → Option (Option X) → Option X
flat None = None
flat (Some found) = found

-- the actor of a number, if it is declared
abbrev pub actor_numbered : List (Option Actor) → ℕ → Option Actor
actor_numbered actors i = flat (slice_get actors i)

pub record AreActors (config : Config) (state : State (store_of config)) (actors : List (Option Actor)) : Type 0 where
  pub count : length actors ≡ LAST_ACTOR + 1
  pub each : (i : ℕ)
      → IsActorSo config i (state.core.world.actors i) (state.core.readers i) (state.roles i) (actor_numbered actors i)

-- ---- the whole

-- all that is kept is as it is in a core of a configuration's store, of which all holds that every interleaving keeps
pub record Agrees (config : Config) (weave : Weave) (state : State (store_of config)) : Type 0 where
  pub woven : IsWoven (store_of config) state.core
  pub holders : AreHolders state.core.world
  pub shared : AreShared config state.core.world weave.store
  pub actors : AreActors config state weave.actors.items
