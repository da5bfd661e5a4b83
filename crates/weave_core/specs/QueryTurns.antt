-- What a step of a query comes to: its next event in the core, or nothing where someone else is in its way.
use Rattle.std.specs.Prelude.{ℕ, ◌≡◌, ◌≢◌, Option, Some, None, Result}
use Rattle.mon_config.specs.declared.config.Config.{Config}
use Rattle.query_core.specs.Machine.{Query, avoided_after, slots_at}
use Rattle.query_core.specs.Mixtures.{Settles}
use Rattle.query_core.specs.Program.{after, ask_of}
use Rattle.query_traces.specs.declared.answers.Answer.{Answer}
use Rattle.query_traces.specs.declared.answers.RoundFault.{RoundFault}
use Rattle.query_traces.specs.declared.asks.Ask.TheVariants.{Finished}
use Rattle.query_traces.specs.declared.asks.Told.{Told}
use Rattle.query_core.specs.declared.stages.Stage.{Stage}
use Rattle.query_core.specs.declared.stages.Stage.TheVariants as at
use Rattle.weave_core.specs.ActorAgreements.{IsReaderSo}
use Rattle.core_store.specs.Agreements.{AreShared}
use Rattle.core_theory.specs.Core.{CanCome, Core, IsTold, Reader, Tells, asked_now, came, query_now, view_told}
use Rattle.core_theory.specs.Core.{world_told}
use Rattle.core_store.specs.Holders.{AreHolders}
use Rattle.core_theory.specs.Licensed.{IsWoven}
use Rattle.weave_core.specs.PlannedQueries.{IsPlanned}
use Rattle.mon_topo.specs.Sights.{sight_of}
use Rattle.weave_core.specs.States.{holder_for_query}
use Rattle.core_store.specs.Agreements.{store_of}
use Rattle.weave_core.specs.declared.queries.QueryTurn.{QueryTurn}
use Rattle.weave_core.specs.declared.queries.QueryTurn.TheVariants as turn
use Rattle.weave_core.specs.declared.queries.Querying.{Querying}
use Rattle.mon_topo.specs.declared.sights.Sight.{Sight}
use Rattle.core_store.specs.declared.store.Store.{Store}
use Rattle.write_core.specs.World.{Stands, view_of}

-- a store and a query that has not ended are as in a core of which all holds that every interleaving keeps
pub record IsAsking (config : Config) (core : Core (store_of config)) (k : ℕ) (store : Store) (querying : Querying)
    (sight : Sight) : Type 0 where
  pub woven : IsWoven (store_of config) core
  pub holders : AreHolders core.world
  pub shared : AreShared config core.world store
  pub reader : IsReaderSo (store_of config) (core.readers k) querying sight
  pub planned : IsPlanned config querying
  pub stands : core.world.actors k ≡ Stands (record { pass = k; view = view_of (core.world.actors k) })
  pub goes_on : ask_of querying.machine.setting querying.machine.stage ≢ Finished

-- there is such a core
pub record IsAskedSomewhere (store : Store) (querying : Querying) (sight : Sight) : Type 0 where
  pub config : Config
  pub core : Core (store_of config)
  pub k : ℕ
  pub asking : IsAsking config core k store querying sight

-- ---- a query that is told something

-- it goes on by the answer
pub record IsToldOn (before : Querying) (answer : Told) (next : Querying) : Type 0 where
  pub moment : next.moment ≡ before.moment
  pub setting : next.machine.setting ≡ before.machine.setting
  pub avoided : next.machine.avoided ≡ avoided_after before.machine.avoided before.machine.stage answer
  pub settles : Settles before.machine.setting (after before.machine.setting before.machine.stage answer)
      next.machine.stage
  pub goes_on : ask_of next.machine.setting next.machine.stage ≢ Finished

-- or it ends so
pub record IsToldLast (before : Querying) (answer : Told) (end : Result Answer RoundFault) : Type 0 where
  pub settles : Settles before.machine.setting (after before.machine.setting before.machine.stage answer) (at.Ended end)

-- a query goes on, or has ended so
abbrev pub IsTurnOf : Querying → QueryTurn → Type 0
IsTurnOf querying (turn.Went next) =
    (next ≡ querying) × (ask_of querying.machine.setting querying.machine.stage ≢ Finished)
IsTurnOf querying (turn.Waits next) = ⊥
IsTurnOf querying (turn.Ended end) = querying.machine.stage ≡ at.Ended end

abbrev pub TurnsBy : Querying → Told → QueryTurn → Type 0
TurnsBy before answer (turn.Went next) = IsToldOn before answer next
TurnsBy before answer (turn.Waits next) = ⊥
TurnsBy before answer (turn.Ended end) = IsToldLast before answer end

-- ---- in a core

module _ (config : Config) (core : Core (store_of config)) (k : ℕ) where
  abbrev pub asker : Reader (store_of config)
  asker = core.readers k

  abbrev pub asker_now : Query
  asker_now = query_now (store_of config) asker

  -- the answer that its next event has; the store and its caller's sight are as they are then
  pub record IsAnswered (store : Store) (sight : Sight) (answer : Told) : Type 0 where
    pub told : IsTold (store_of config) asker.setting asker.moment core.world asker.view asker_now.avoided
        (slots_at asker_now) (asked_now (store_of config) asker) answer
    pub shared : AreShared config (world_told (store_of config) core.world asker) store
    pub sight_is : sight ≡ sight_of (view_told (store_of config) core.world asker).seen

  -- or another one holds what it needs, and nothing has changed
  pub record QueryWaits (store : Store) (before sight : Sight) : Type 0 where
    pub other : ℕ
    pub holds : holder_for_query core.world (asked_now (store_of config) asker) ≡ Some other
    pub another : other ≢ k
    pub shared : AreShared config core.world store
    pub sight_is : sight ≡ before

  abbrev pub AnswersSo : Store → Sight → Sight → Option Told → Type 0
  AnswersSo new before sight (Some answer) = IsAnswered new sight answer
  AnswersSo new before sight None = QueryWaits new before sight

  -- its event came, and it goes on
  pub record QueryWent (store : Store) (querying : Querying) (sight : Sight) : Type 0 where
    pub answer : Told
    pub stage : Stage
    pub can : CanCome (store_of config) core (Tells k answer stage)
    pub shared : AreShared config (came (store_of config) core (Tells k answer stage)).world store
    pub reader : IsReaderSo (store_of config) ((came (store_of config) core (Tells k answer stage)).readers k) querying
        sight
    pub planned : IsPlanned config querying
    pub goes_on : ask_of querying.machine.setting querying.machine.stage ≢ Finished

  -- or it has ended
  pub record QueryEnded (store : Store) (sight : Sight) (end : Result Answer RoundFault) : Type 0 where
    pub answer : Told
    pub can : CanCome (store_of config) core (Tells k answer (at.Ended end))
    pub shared : AreShared config (came (store_of config) core (Tells k answer (at.Ended end))).world store
    pub stage_is :
        (query_now (store_of config) ((came (store_of config) core (Tells k answer (at.Ended end))).readers k)).stage
        ≡ at.Ended end
    pub sight_is : sight ≡ sight_of ((came (store_of config) core (Tells k answer (at.Ended end))).readers k).view.seen

  abbrev pub QueriesSo : Querying → Store → Sight → Sight → QueryTurn → Type 0
  QueriesSo querying new before sight (turn.Went next) = QueryWent new next sight
  QueriesSo querying new before sight (turn.Waits next) = (next ≡ querying) × QueryWaits new before sight
  QueriesSo querying new before sight (turn.Ended end) = QueryEnded new sight end
