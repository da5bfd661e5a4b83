-- What a step does to the actor that is asked, whichever state of the core agrees with it.
use Rattle.std.specs.Prelude.{ℕ, ◌≡◌, true, Bool, List, Option, Some, None}
use Rattle.mon_config.specs.declared.config.Config.{Config}
use Rattle.mon_topo.specs.declared.zones.ZoneSpec.{ZoneSpec}
use Rattle.weave_core.specs.ActorAgreements.{IsActorSo}
use Rattle.core_store.specs.Agreements.{AreShared}
use Rattle.weave_core.specs.EndTexts.{query_text, recover_text, retire_text, switch_text, write_end_text}
use Rattle.weave_core.specs.declared.texts.Deed.{Deed}
use Rattle.core_store.specs.Holders.{AreHolders}
use Rattle.core_theory.specs.Licensed.{IsWoven}
use Rattle.weave_core.specs.States.{State, step_fault}
use Rattle.core_store.specs.Agreements.{store_of}
use Rattle.weave_core.specs.Steps.{Steps}
use Rattle.weave_core.specs.declared.actors.Actor.{Actor}
use Rattle.weave_core.specs.declared.actors.Task.TheVariants as task
use Rattle.weave_core.specs.declared.stepped.Stepped.{Stepped}
use Rattle.weave_core.specs.declared.stepped.Stepped.TheVariants as stepped
use Rattle.schedule_lines.specs.declared.calls.WeaveFault.TheVariants.{Finished}
use Rattle.weave_core.specs.declared.queries.QueryTurn.{QueryTurn}
use Rattle.weave_core.specs.declared.queries.QueryTurn.TheVariants as query_turn
use Rattle.core_store.specs.declared.recoveries.RecoverTurn.{RecoverTurn}
use Rattle.core_store.specs.declared.recoveries.RecoverTurn.TheVariants as recover_turn
use Rattle.mon_topo.specs.declared.sights.Sight.{Sight}
use Rattle.core_store.specs.Switches.{switch_told}
use Rattle.core_store.specs.declared.retirements.Retiring.{Retiring}
use Rattle.core_store.specs.declared.store.Store.{Store}
use Rattle.core_store.specs.declared.switches.Switched.{Switched}
use Rattle.core_store.specs.declared.switches.Switching.{Switching}
use Rattle.core_store.specs.declared.writes.WriteTurn.{WriteTurn}
use Rattle.core_store.specs.declared.writes.WriteTurn.TheVariants as write_turn
use Rattle.write_core.specs.declared.retirements.Retirement.{Retirement}

-- ---- an actor and what its step came to, by the turn of its recovery, of its write or of its query

abbrev pub RecoveredSo : List ZoneSpec → RecoverTurn → Sight → Bool → Actor → Option Stepped → Type 0
RecoveredSo zones (recover_turn.Went recovering) sight begun own how =
    (own ≡ record { task = task.Recovers recovering; sight = sight; begun = true }) × (how ≡ Some stepped.Went)
RecoveredSo zones (recover_turn.Waits recovering) sight begun own how =
    (own ≡ record { task = task.Recovers recovering; sight = sight; begun = begun }) × (how ≡ Some stepped.Waits)
RecoveredSo zones (recover_turn.Ended range leaf outcome) sight begun own how =
    (own ≡ record { task = task.Ended; sight = sight; begun = true })
    × (how ≡ Some (stepped.Ended (recover_text zones range leaf outcome)))

abbrev pub WrittenSo : List ZoneSpec → Deed → WriteTurn → Sight → Bool → Actor → Option Stepped → Type 0
WrittenSo zones done (write_turn.Went writing) sight begun own how =
    (own ≡ record { task = task.Writes writing; sight = sight; begun = true }) × (how ≡ Some stepped.Went)
WrittenSo zones done (write_turn.Waits writing) sight begun own how =
    (own ≡ record { task = task.Writes writing; sight = sight; begun = begun }) × (how ≡ Some stepped.Waits)
WrittenSo zones done (write_turn.Ended range end) sight begun own how =
    (own ≡ record { task = task.Ended; sight = sight; begun = true })
    × (how ≡ Some (stepped.Ended (write_end_text zones done range end)))

abbrev pub QueriedSo : List ZoneSpec → QueryTurn → Sight → Bool → Actor → Option Stepped → Type 0
QueriedSo zones (query_turn.Went querying) sight begun own how =
    (own ≡ record { task = task.Queries querying; sight = sight; begun = true }) × (how ≡ Some stepped.Went)
QueriedSo zones (query_turn.Waits querying) sight begun own how =
    (own ≡ record { task = task.Queries querying; sight = sight; begun = begun }) × (how ≡ Some stepped.Waits)
QueriedSo zones (query_turn.Ended end) sight begun own how =
    (own ≡ record { task = task.Ended; sight = sight; begun = true })
    × (how ≡ Some (stepped.Ended (query_text zones end)))

-- it switched a leaf, and ends with what it was told; or it waits for the leaf
abbrev pub SwitchedSo : List ZoneSpec → Switching → Option Switched → Sight → Bool → Actor → Option Stepped → Type 0
SwitchedSo zones switching (Some was) sight begun own how =
    (own ≡ record { task = task.Ended; sight = sight; begun = true })
    × (how ≡ Some (stepped.Ended (switch_text zones switching.leaf switching.down (switch_told was))))
SwitchedSo zones switching None sight begun own how =
    (own ≡ record { task = task.Switches switching; sight = sight; begun = begun }) × (how ≡ Some stepped.Waits)

-- it retired a range's replica, and ends with what it was told; or it waits for the range
abbrev pub RetiredSo : List ZoneSpec → Retiring → Option Retirement → Sight → Bool → Actor → Option Stepped → Type 0
RetiredSo zones retiring (Some was) sight begun own how =
    (own ≡ record { task = task.Ended; sight = sight; begun = true })
    × (how ≡ Some (stepped.Ended (retire_text zones retiring.range retiring.leaf was)))
RetiredSo zones retiring None sight begun own how =
    (own ≡ record { task = task.Retires retiring; sight = sight; begun = begun }) × (how ≡ Some stepped.Waits)

-- ---- in a core

-- a store and an actor of a number are as in a state of the core
pub record IsIn (config : Config) (state : State (store_of config)) (i : ℕ) (store : Store) (own : Actor) : Type 0 where
  pub woven : IsWoven (store_of config) state.core
  pub holders : AreHolders state.core.world
  pub shared : AreShared config state.core.world store
  pub actor : IsActorSo config i (state.core.world.actors i) (state.core.readers i) (state.roles i) (Some own)

-- there is such a state
pub record IsSomewhere (store : Store) (own : Actor) : Type 0 where
  pub config : Config
  pub state : State (store_of config)
  pub i : ℕ
  pub is_in : IsIn config state i store own

module _ (config : Config) (state : State (store_of config)) (i : ℕ) where
  -- the actor has done its step so, and the store and the actor are as in the state after it
  pub record HasStepped (store : Store) (own : Actor) (how : Stepped) : Type 0 where
    pub fault : step_fault (store_of config) state i ≡ None
    pub after : State (store_of config)
    pub steps : Steps (store_of config) state i how after
    pub shared : AreShared config after.core.world store
    pub actor : IsActorSo config i (after.core.world.actors i) (after.core.readers i) (after.roles i) (Some own)

  -- or it has ended before, and nothing has changed
  pub record HadEnded (store : Store) (before own : Actor) : Type 0 where
    pub fault : step_fault (store_of config) state i ≡ Some Finished
    pub shared : AreShared config state.core.world store
    pub same : own ≡ before

  abbrev pub ActorSteps : Store → Actor → Actor → Option Stepped → Type 0
  ActorSteps store before own (Some how) = HasStepped store own how
  ActorSteps store before own None = HadEnded store before own
