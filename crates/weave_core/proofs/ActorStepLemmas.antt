-- A step of an actor that has ended, or whose call has no event; and what a step asks of a write or a query.
use Rattle.std.proofs.Common.{◌≡◌, ◌<◌, ℕ, Bool, true, Option, Some, List, length, refl, sym, ap, subst}
use Rattle.mon_config.specs.declared.config.Config.{Config}
use Rattle.mon_value.specs.declared.positions.Leaf.{Leaf}
use Rattle.mon_value.specs.declared.positions.Range.{Range}
use Rattle.weave_core.proofs.QueryStepLemmas.{at_asking, query_steps}
use Rattle.weave_core.proofs.RecoveryStepLemmas.{opens, recover_steps}
use Rattle.weave_core.proofs.RetireStepLemmas.{asks_range_seated, asks_range_there, retiring_steps}
use Rattle.weave_core.proofs.SwitchStepLemmas.{asks_seated, asks_there, switching_steps}
use Rattle.weave_core.proofs.WriteStepLemmas.{at_work, write_steps}
use Rattle.weave_core.specs.ActorAgreements.{IsActorSo, IsTaskSo}
use Rattle.weave_core.specs.ActorSteps.{ActorSteps, HasStepped, IsIn, IsSomewhere, QueriedSo, RecoveredSo}
use Rattle.weave_core.specs.ActorSteps.{RetiredSo, SwitchedSo, WrittenSo}
use Rattle.weave_core.specs.EndTexts.{deed_of}
use Rattle.core_theory.specs.Core.{Core, Reader}
use Rattle.weave_core.specs.QueryTurns.{IsAskedSomewhere, IsAsking, QueriesSo}
use Rattle.core_store.specs.RecoverTurns.{IsOpening, IsOpeningSomewhere, RecoversSo}
use Rattle.weave_core.specs.States.{Asking, Dismissed, Eventless, Recovering, Retiring, Role, State, Switching}
use Rattle.weave_core.specs.States.{Undeclared, Writing}
use Rattle.weave_core.specs.States.{role_fault}
use Rattle.core_store.specs.Agreements.{store_of}
use Rattle.weave_core.specs.Steps.{StepsIn, with_role}
use Rattle.core_store.specs.Retirements.{IsSeatedToRetire, RetiresAt}
use Rattle.core_store.specs.Switches.{IsSeatedToSwitch, SwitchesAt}
use Rattle.core_store.specs.Writers.{change_turn}
use Rattle.core_store.specs.WriteTurns.{IsAtWork, WritesSo}
use Rattle.weave_core.specs.declared.actors.Actor.{Actor}
use Rattle.weave_core.specs.declared.actors.Task.{Task}
use Rattle.weave_core.specs.declared.actors.Task.TheVariants as task
use Rattle.weave_core.specs.declared.stepped.Stepped.{Stepped}
use Rattle.weave_core.specs.declared.stepped.Stepped.TheVariants as stepped
use Rattle.weave_core.specs.declared.texts.Deed.{Deed}
use Rattle.weave_core.specs.declared.queries.QueryTurn.{QueryTurn}
use Rattle.weave_core.specs.declared.queries.QueryTurn.TheVariants as query_turn
use Rattle.weave_core.specs.declared.queries.Querying.{Querying}
use Rattle.core_store.specs.declared.recoveries.RecoverTurn.{RecoverTurn}
use Rattle.core_store.specs.declared.recoveries.RecoverTurn.TheVariants as recover_turn
use Rattle.core_store.specs.declared.recoveries.Recovering.{Recovering as Recover}
use Rattle.mon_topo.specs.declared.sights.Sight.{Sight}
use Rattle.core_store.specs.declared.retirements.Retiring.{Retiring as Retire}
use Rattle.core_store.specs.declared.store.Store.{Store}
use Rattle.core_store.specs.declared.switches.Switched.{Switched}
use Rattle.core_store.specs.declared.switches.Switching.{Switching as Switch}
use Rattle.core_store.specs.declared.writes.WriteTurn.{WriteTurn}
use Rattle.core_store.specs.declared.writes.WriteTurn.TheVariants as write_turn
use Rattle.core_store.specs.declared.writes.Writing.{Writing as Write}
use Rattle.write_core.proofs.KeepsLemmas.{changed_same}
use Rattle.write_core.specs.World.{Actor as Doer, World}
use Rattle.write_core.specs.declared.retirements.Retirement.{Retirement}

-- ---- an actor that has ended

module _ (config : Config) (state : State (store_of config)) (i : ℕ) where
  -- ---- one whose call has no event

  module _ (store : Store) (text : List ℕ) (sight : Sight) (begun : Bool)
      (here : IsIn config state i store (record { task = task.Refused text; sight = sight; begun = begun })) where
    abbrev Doer' : Doer
    Doer' = state.core.world.actors i

    abbrev Reader' : Reader (store_of config)
    Reader' = state.core.readers i

    refused_by : (role : Role) → state.roles i ≡ role → IsTaskSo config i Doer' Reader' role (task.Refused text)
        begun sight
        → HasStepped config state i store (record { task = task.Ended; sight = sight; begun = true })
        (stepped.Ended text)
    refused_by Undeclared e h = absurd h
    refused_by (Eventless own) e h = record {
      fault = ap (role_fault (store_of config) state i) e;
      after = with_role (store_of config) state i Dismissed;
      steps = subst (λ (role : Role). StepsIn (store_of config) role state i (stepped.Ended text)
          (with_role (store_of config) state i Dismissed)) (sym e)
          (ap (λ (t : List ℕ). stepped.Ended t) h.text_is, refl);
      shared = here.shared;
      actor = subst (λ (role : Role). IsActorSo config i Doer' Reader' role
          (Some (record { task = task.Ended; sight = sight; begun = true })))
          (sym (changed_same state.roles i Dismissed)) (record { stands = h.stands; seen = h.seen });
    }
    refused_by (Switching leaf down) e h = absurd h
    refused_by (Retiring range leaf) e h = absurd h
    refused_by Dismissed e h = absurd h
    refused_by Recovering e h = absurd h
    refused_by Writing e h = absurd h
    refused_by Asking e h = absurd h

    pub refused_steps : (own : Actor) → own ≡ record { task = task.Ended; sight = sight; begun = true }
        → ActorSteps config state i store (record { task = task.Refused text; sight = sight; begun = begun }) own
        (Some (stepped.Ended text))
    refused_steps own same = subst (λ (one : Actor). HasStepped config state i store one (stepped.Ended text))
        (sym same)
        (refused_by (state.roles i) refl here.actor)

-- ---- what a step asks for

pub asks_somewhere : (store : Store) (querying : Querying) (sight : Sight) (begun : Bool)
    → IsSomewhere store (record { task = task.Queries querying; sight = sight; begun = begun })
    → IsAskedSomewhere store querying sight
asks_somewhere store querying sight begun some = record {
  config = some.config;
  core = some.state.core;
  k = some.i;
  asking = at_asking some.config some.state some.i store querying sight begun some.is_in;
}

-- ---- the configuration stays

written_config : (config : Config) (world : World) (i : ℕ) (writing : Write) (new : Store) (before now : Sight)
    (turn : WriteTurn) → WritesSo config world i writing new before now turn → new.config ≡ config
written_config config world i writing new before now (write_turn.Went next) h = h.came.shared.config_is
written_config config world i writing new before now (write_turn.Waits next) h = h.shared.config_is
written_config config world i writing new before now (write_turn.Ended range end) h = h.came.shared.config_is

recovered_config : (config : Config) (world : World) (i : ℕ) (recovering : Recover) (new : Store) (before now : Sight)
    (turn : RecoverTurn) → RecoversSo config world i recovering new before now turn → new.config ≡ config
recovered_config config world i recovering new before now (recover_turn.Went next) h = h.came.shared.config_is
recovered_config config world i recovering new before now (recover_turn.Waits next) h = h.1.shared.config_is
recovered_config config world i recovering new before now (recover_turn.Ended range leaf outcome) h =
    h.came.shared.config_is

queried_config : (config : Config) (core : Core (store_of config)) (i : ℕ) (querying : Querying) (new : Store)
    (before now : Sight) (turn : QueryTurn) → QueriesSo config core i querying new before now turn → new.config ≡ config
queried_config config core i querying new before now (query_turn.Went next) h = h.shared.config_is
queried_config config core i querying new before now (query_turn.Waits next) h = h.1.shared.config_is
queried_config config core i querying new before now (query_turn.Ended end) h = h.shared.config_is

-- ---- by the task of an actor

own_is : (own : Actor) (one : Task) → own.task ≡ one → own ≡ record {
  task = one;
  sight = own.sight;
  begun =
      own.begun;
}
own_is own one e = λ k. record { task = e k; sight = own.sight; begun = own.begun }

pub query_asks_for : (store : Store) (own : Actor) (querying : Querying) → own.task ≡ task.Queries querying
    → IsSomewhere store own → IsAskedSomewhere store querying own.sight
query_asks_for store own querying e some =
    asks_somewhere store querying own.sight own.begun
    (subst (λ (one : Actor). IsSomewhere store one) (own_is own (task.Queries querying) e) some)

pub recover_asks_for : (store : Store) (own : Actor) (recovering : Recover) → own.task ≡ task.Recovers recovering
    → IsSomewhere store own → IsOpeningSomewhere store recovering own.sight
recover_asks_for store own recovering e some =
    let at : IsSomewhere store (record { task = task.Recovers recovering; sight = own.sight; begun = own.begun })
    = subst (λ (one : Actor). IsSomewhere store one) (own_is own (task.Recovers recovering) e) some in
    record {
      config = at.config;
      world = at.state.core.world;
      i = at.i;
      opening = opens at.config at.state at.i store recovering own.sight own.begun at.is_in;
    }

-- what a retirement asks for
pub record MayRetireThere (store : Store) (range : Range) (sight : Sight) : Type 0 where
  pub there : range.0 < length store.ranges.items
  pub seated : IsSeatedToRetire range store.ranges.items sight

pub retire_asks_for : (store : Store) (own : Actor) (retiring : Retire) → own.task ≡ task.Retires retiring
    → IsSomewhere store own → MayRetireThere store retiring.range own.sight
retire_asks_for store own retiring e some =
    let at : IsSomewhere store (record { task = task.Retires retiring; sight = own.sight; begun = own.begun })
    = subst (λ (one : Actor). IsSomewhere store one) (own_is own (task.Retires retiring) e) some in
    record {
      there = asks_range_there at.config at.state at.i store retiring own.sight own.begun at.is_in;
      seated = asks_range_seated at.config at.state at.i store retiring own.sight own.begun at.is_in;
    }

-- what a switch asks for
pub record MaySwitchThere (store : Store) (leaf : Leaf) (sight : Sight) : Type 0 where
  pub there : leaf.0 < length store.leaves.items
  pub seated : IsSeatedToSwitch leaf store.leaves.items sight

pub switch_asks_for : (store : Store) (own : Actor) (switching : Switch) → own.task ≡ task.Switches switching
    → IsSomewhere store own → MaySwitchThere store switching.leaf own.sight
switch_asks_for store own switching e some =
    let at : IsSomewhere store (record { task = task.Switches switching; sight = own.sight; begun = own.begun })
    = subst (λ (one : Actor). IsSomewhere store one) (own_is own (task.Switches switching) e) some in
    record {
      there = asks_there at.config at.state at.i store switching own.sight own.begun at.is_in;
      seated = asks_seated at.config at.state at.i store switching own.sight own.begun at.is_in;
    }

module _ (config : Config) (state : State (store_of config)) (i : ℕ) (store : Store) (own : Actor)
    (here : IsIn config state i store own) where
  as_task : (one : Task) → own.task ≡ one
      → IsIn config state i store (record { task = one; sight = own.sight; begun = own.begun })
  as_task one e = subst (λ (actor : Actor). IsIn config state i store actor) (own_is own one e) here

  pub refused_step : (text : List ℕ) → own.task ≡ task.Refused text → (next : Actor)
      → next ≡ record { task = task.Ended; sight = own.sight; begun = true }
      → ActorSteps config state i store own next (Some (stepped.Ended text))
  refused_step text e next same = refused_steps config state i store text own.sight own.begun
      (as_task (task.Refused text) e) next same

  pub switch_step : (switching : Switch) → own.task ≡ task.Switches switching → (new : Store) (now : Sight)
      (what : Option Switched) (next : Actor) (how : Option Stepped)
      → SwitchesAt switching store new own.sight now what
      → SwitchedSo new.config.topology switching what now own.begun next how
      → ActorSteps config state i new own next how
  switch_step switching e new now what next how did h =
      subst (λ (one : Actor). ActorSteps config state i new one next how)
      (sym (own_is own (task.Switches switching) e))
      (switching_steps config state i store switching own.sight own.begun (as_task (task.Switches switching) e) new
      now what next how did h)

  pub retire_step : (retiring : Retire) → own.task ≡ task.Retires retiring → (new : Store) (now : Sight)
      (what : Option Retirement) (next : Actor) (how : Option Stepped)
      → RetiresAt retiring store new own.sight now what
      → RetiredSo new.config.topology retiring what now own.begun next how
      → ActorSteps config state i new own next how
  retire_step retiring e new now what next how did h =
      subst (λ (one : Actor). ActorSteps config state i new one next how)
      (sym (own_is own (task.Retires retiring) e))
      (retiring_steps config state i store retiring own.sight own.begun (as_task (task.Retires retiring) e) new
      now what next how did h)

  pub recover_step : (recovering : Recover) → own.task ≡ task.Recovers recovering → (new : Store) (now : Sight)
      (turn : RecoverTurn) (next : Actor) (how : Option Stepped)
      → ((at : IsOpening config state.core.world i store recovering own.sight)
      → RecoversSo config state.core.world i recovering new own.sight now turn)
      → RecoveredSo new.config.topology turn now own.begun next how → ActorSteps config state i new own next how
  recover_step recovering e new now turn next how recovers h =
      let so : RecoversSo config state.core.world i recovering new own.sight now turn
      = recovers (opens config state i store recovering own.sight own.begun (as_task (task.Recovers recovering) e)) in
      subst (λ (one : Actor). ActorSteps config state i new one next how)
      (sym (own_is own (task.Recovers recovering) e))
      (recover_steps config state i store recovering own.sight own.begun (as_task (task.Recovers recovering) e)
      new.config.topology new now turn next how
      (ap (λ (c : Config). c.topology)
      (recovered_config config state.core.world i recovering new own.sight now turn so)) so h)

  pub write_step : (writing : Write) → own.task ≡ task.Writes writing → (done : Deed)
      → done ≡ deed_of (change_turn writing.change) → (new : Store) (now : Sight)
      (turn : WriteTurn)
      (next : Actor) (how : Option Stepped)
      → ((at : IsAtWork config state.core.world i store writing own.sight)
      → WritesSo config state.core.world i writing new own.sight now turn)
      → WrittenSo new.config.topology done turn now own.begun next how → ActorSteps config state i new own next how
  write_step writing e done is new now turn next how writes h =
      let so : WritesSo config state.core.world i writing new own.sight now turn
      = writes (at_work config state i store writing own.sight own.begun (as_task (task.Writes writing) e)) in
      subst (λ (one : Actor). ActorSteps config state i new one next how) (sym (own_is own (task.Writes writing) e))
      (write_steps config state i store writing own.sight own.begun (as_task (task.Writes writing) e)
      new.config.topology done new now turn next how
      (ap (λ (c : Config). c.topology) (written_config config state.core.world i writing new own.sight now turn so))
      is so h)

  pub query_step : (querying : Querying) → own.task ≡ task.Queries querying → (new : Store) (now : Sight)
      (turn : QueryTurn)
      (next : Actor) (how : Option Stepped)
      → ((asking : IsAsking config state.core i store querying own.sight)
      → QueriesSo config state.core i querying new own.sight now turn)
      → QueriedSo new.config.topology turn now own.begun next how → ActorSteps config state i new own next how
  query_step querying e new now turn next how queries h =
      let so : QueriesSo config state.core i querying new own.sight now turn
      = queries (at_asking config state i store querying own.sight own.begun (as_task (task.Queries querying) e)) in
      subst (λ (one : Actor). ActorSteps config state i new one next how) (sym (own_is own (task.Queries querying) e))
      (query_steps config state i store querying own.sight own.begun (as_task (task.Queries querying) e)
      new.config.topology
      new now turn next how
      (ap (λ (c : Config). c.topology) (queried_config config state.core i querying new own.sight now turn so)) so h)
