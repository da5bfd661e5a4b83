-- What an actor tells of itself is so in every state of the core that agrees.
use Rattle.std.proofs.Common.{◌≡◌, ◌≢◌, ℕ, Bool, true, false, not, cond, Option, Some, None, Bor, refl, sym}
use Rattle.std.proofs.Common.{ap, subst, ◌∙◌}
use Rattle.std.specs.Prelude.{◌||◌, is_some}
use Rattle.std.specs.Option.{option_copied}
use Rattle.mon_config.specs.declared.config.Config.{Config}
use Rattle.query_core.specs.Machine.{Query}
use Rattle.query_core.specs.Program as query
use Rattle.query_traces.specs.Rounds.{QuerySetting}
use Rattle.query_traces.specs.declared.asks.Ask.{Ask}
use Rattle.query_traces.specs.declared.asks.Ask.TheVariants as query_ask
use Rattle.weave_core.specs.ActorAgreements.{Agrees, IsActorSo, IsRecovering, IsTaskSo, IsQuerying, IsWriting}
use Rattle.weave_core.specs.ActorAgreements.{actor_numbered}
use Rattle.weave_core.specs.ActorSteps.{IsIn}
use Rattle.core_theory.specs.Core.{Reader, asked_now, query_now}
use Rattle.weave_core.specs.Tasks.{event_of, is_over}
use Rattle.weave_core.specs.AskedEvents.{event_of_copy, event_of_query, event_of_write}
use Rattle.weave_core.specs.States as spec
use Rattle.weave_core.specs.States.{Asking, Dismissed, Eventless, Recovering, Retiring, Role, State, Switching}
use Rattle.weave_core.specs.States.{Undeclared, Writing}
use Rattle.weave_core.specs.States.{begun_in}
use Rattle.core_store.specs.NextAsks.{copy_asks}
use Rattle.weave_core.specs.States.{declared_in, ended_in, role_fault, next_in, step_fault}
use Rattle.core_store.specs.Agreements.{store_of}
use Rattle.core_store.specs.NextAsks.{write_asks}
use Rattle.weave_core.specs.declared.actors.Actor.{Actor}
use Rattle.weave_core.specs.declared.actors.Task.{Task}
use Rattle.weave_core.specs.declared.actors.Task.TheVariants as task
use Rattle.schedule_lines.specs.declared.calls.WeaveFault.TheVariants as fault
use Rattle.weave_core.specs.declared.queries.Querying.{Querying}
use Rattle.core_store.specs.declared.recoveries.Recovering.{Recovering as Recover}
use Rattle.mon_topo.specs.declared.sights.Sight.{Sight}
use Rattle.core_store.specs.declared.store.Store.{Store}
use Rattle.weave_core.specs.declared.weave.Weave.{Weave}
use Rattle.core_store.specs.declared.writes.Writing.{Writing as Write}
use Rattle.write_core.specs.CopyPhases.{copy_ask_of}
use Rattle.write_core.specs.Program as write
use Rattle.write_core.specs.World.{Actor as Doer}
use Rattle.write_core.specs.declared.asks.WriteAsk.{WriteAsk}
use Rattle.write_core.specs.declared.asks.WriteAsk.TheVariants as write_ask
use Rattle.write_core.specs.declared.copies.CopyAsk.{CopyAsk}
use Rattle.write_core.specs.declared.copies.CopyAsk.TheVariants as copy_ask
use Rattle.mon_value.proofs.PlainLemmas.{or_false, or_true}

-- who asks for something has an event
write_has_event : (asks : WriteAsk) → asks ≢ write_ask.Finished → is_some (event_of_write asks) ≡ true
write_has_event write_ask.Lock going = refl
write_has_event (write_ask.Reserve slot leaf) going = refl
write_has_event (write_ask.Enter slot leaf) going = refl
write_has_event (write_ask.RaiseRoot bucket) going = refl
write_has_event (write_ask.RaiseZone bucket) going = refl
write_has_event (write_ask.Put slot leaf) going = refl
write_has_event write_ask.Ack going = refl
write_has_event write_ask.Finished going = absurd (going refl)

recovery_has_event : (asks : CopyAsk) → asks ≢ copy_ask.Finished → is_some (event_of_copy asks) ≡ true
recovery_has_event copy_ask.Lock going = refl
recovery_has_event (copy_ask.Copy slot leaf) going = refl
recovery_has_event copy_ask.Reserve going = refl
recovery_has_event copy_ask.Enter going = refl
recovery_has_event (copy_ask.RaiseRoot bucket) going = refl
recovery_has_event (copy_ask.RaiseZone bucket) going = refl
recovery_has_event copy_ask.Put going = refl
recovery_has_event copy_ask.Ack going = refl
recovery_has_event copy_ask.Finished going = absurd (going refl)

query_has_event : (asks : Ask) → asks ≢ query_ask.Finished → is_some (event_of_query asks) ≡ true
query_has_event (query_ask.LoadRoot bucket) going = refl
query_has_event (query_ask.LoadZone zone bucket) going = refl
query_has_event (query_ask.Resolve range) going = refl
query_has_event (query_ask.Visit leaf) going = refl
query_has_event query_ask.Finished going = absurd (going refl)

pub some_copied : {T : Type 0} (found : Option (Bor T)) → is_some found ≡ is_some (option_copied found)
some_copied None = refl
some_copied (Some one) = refl

-- what has not ended is no fault
pub unended : {over : Bool} → over ≡ false → cond over (Some fault.Finished) None ≡ None
unended on = ap (λ (b : Bool). cond b (Some fault.Finished) None) on

module _ (config : Config) (state : State (store_of config)) (i : ℕ) where
  abbrev Doer' : Doer
  Doer' = state.core.world.actors i

  abbrev Reader' : Reader (store_of config)
  Reader' = state.core.readers i

  write_asks_so : (writing : Write) (begun : Bool) (sight : Sight) → IsWriting config i Doer' Reader' writing begun
      sight
      → write.ask_of writing.machine.stage ≡ write_asks Doer'
  write_asks_so writing begun sight h = sym (ap (λ (who : Doer). write_asks who) h.writer.writer)

  copy_asks_so : (recovering : Recover) (begun : Bool) (sight : Sight)
      → IsRecovering config i Doer' Reader' recovering begun sight → copy_ask_of recovering.machine ≡ copy_asks Doer'
  copy_asks_so recovering begun sight h = sym (ap (λ (who : Doer). copy_asks who) h.recoverer.recovers)

  query_asks_so : (querying : Querying) (begun : Bool) (sight : Sight)
      → IsQuerying config i Doer' Reader' querying begun sight
      → query.ask_of querying.machine.setting querying.machine.stage ≡ asked_now (store_of config) Reader'
  query_asks_so querying begun sight h =
      sym (ap (λ (setting : QuerySetting). query.ask_of setting (query_now (store_of config) Reader').stage)
      h.reader_so.setting
      ∙ ap (λ (now : Query). query.ask_of querying.machine.setting now.stage) h.reader_so.now)

  -- ---- its next event

  next_so : (role : Role) (one : Task) (begun : Bool) (sight : Sight) → IsTaskSo config i Doer' Reader' role one
      begun sight
      → event_of one ≡ next_in (store_of config) state i role
  next_so Undeclared one begun sight h = absurd h
  next_so (Eventless text) (task.Refused own) begun sight h = refl
  next_so (Eventless text) (task.Switches switching) begun sight h = absurd h
  next_so (Eventless text) (task.Retires retiring) begun sight h = absurd h
  next_so (Eventless text) (task.Recovers recovering) begun sight h = absurd h
  next_so (Eventless text) (task.Writes writing) begun sight h = absurd h
  next_so (Eventless text) (task.Queries querying) begun sight h = absurd h
  next_so (Eventless text) task.Ended begun sight h = absurd h
  next_so (Switching leaf down) (task.Refused own) begun sight h = absurd h
  next_so (Switching leaf down) (task.Switches switching) begun sight h = refl
  next_so (Switching leaf down) (task.Retires retiring) begun sight h = absurd h
  next_so (Switching leaf down) (task.Recovers recovering) begun sight h = absurd h
  next_so (Switching leaf down) (task.Writes writing) begun sight h = absurd h
  next_so (Switching leaf down) (task.Queries querying) begun sight h = absurd h
  next_so (Switching leaf down) task.Ended begun sight h = absurd h
  next_so (Retiring range leaf) (task.Refused own) begun sight h = absurd h
  next_so (Retiring range leaf) (task.Switches switching) begun sight h = absurd h
  next_so (Retiring range leaf) (task.Retires retiring) begun sight h = refl
  next_so (Retiring range leaf) (task.Recovers recovering) begun sight h = absurd h
  next_so (Retiring range leaf) (task.Writes writing) begun sight h = absurd h
  next_so (Retiring range leaf) (task.Queries querying) begun sight h = absurd h
  next_so (Retiring range leaf) task.Ended begun sight h = absurd h
  next_so Dismissed (task.Refused own) begun sight h = absurd h
  next_so Dismissed (task.Switches switching) begun sight h = absurd h
  next_so Dismissed (task.Retires retiring) begun sight h = absurd h
  next_so Dismissed (task.Recovers recovering) begun sight h = absurd h
  next_so Dismissed (task.Writes writing) begun sight h = absurd h
  next_so Dismissed (task.Queries querying) begun sight h = absurd h
  next_so Dismissed task.Ended begun sight h = refl
  next_so Recovering (task.Refused own) begun sight h = absurd h
  next_so Recovering (task.Switches switching) begun sight h = absurd h
  next_so Recovering (task.Retires retiring) begun sight h = absurd h
  next_so Recovering (task.Recovers recovering) begun sight h =
      ap (λ (asks : CopyAsk). event_of_copy asks) (copy_asks_so recovering begun sight h)
  next_so Recovering (task.Writes writing) begun sight h = absurd h
  next_so Recovering (task.Queries querying) begun sight h = absurd h
  next_so Recovering task.Ended begun sight h = sym (ap (λ (asks : CopyAsk). event_of_copy asks) h.ended)
  next_so Writing (task.Refused own) begun sight h = absurd h
  next_so Writing (task.Switches switching) begun sight h = absurd h
  next_so Writing (task.Retires retiring) begun sight h = absurd h
  next_so Writing (task.Recovers recovering) begun sight h = absurd h
  next_so Writing (task.Writes writing) begun sight h =
      ap (λ (asks : WriteAsk). event_of_write asks) (write_asks_so writing begun sight h)
  next_so Writing (task.Queries querying) begun sight h = absurd h
  next_so Writing task.Ended begun sight h = sym (ap (λ (asks : WriteAsk). event_of_write asks) h.ended)
  next_so Asking (task.Refused own) begun sight h = absurd h
  next_so Asking (task.Switches switching) begun sight h = absurd h
  next_so Asking (task.Retires retiring) begun sight h = absurd h
  next_so Asking (task.Recovers recovering) begun sight h = absurd h
  next_so Asking (task.Writes writing) begun sight h = absurd h
  next_so Asking (task.Queries querying) begun sight h =
      ap (λ (asks : Ask). event_of_query asks) (query_asks_so querying begun sight h)
  next_so Asking task.Ended begun sight h = sym (ap (λ (asks : Ask). event_of_query asks) h.ended)

  no_next : (role : Role) → IsActorSo config i Doer' Reader' role None → None ≡ next_in (store_of config) state i role
  no_next Undeclared h = refl
  no_next (Eventless text) h = absurd h
  no_next (Switching leaf down) h = absurd h
  no_next (Retiring range leaf) h = absurd h
  no_next Dismissed h = absurd h
  no_next Recovering h = absurd h
  no_next Writing h = absurd h
  no_next Asking h = absurd h

  -- ---- whether it is declared

  declared_so : (role : Role) (one : Option Actor) → IsActorSo config i Doer' Reader' role one
      → is_some one ≡ declared_in (store_of config) state i role
  declared_so Undeclared None h = refl
  declared_so Undeclared (Some own) h = absurd h
  declared_so (Eventless text) None h = absurd h
  declared_so (Switching leaf down) None h = absurd h
  declared_so (Retiring range leaf) None h = absurd h
  declared_so (Eventless text) (Some own) h = refl
  declared_so (Switching leaf down) (Some own) h = refl
  declared_so (Retiring range leaf) (Some own) h = refl
  declared_so Dismissed None h = absurd h
  declared_so Dismissed (Some own) h = refl
  declared_so Recovering None h = absurd h
  declared_so Recovering (Some own) h = refl
  declared_so Writing None h = absurd h
  declared_so Writing (Some own) h = refl
  declared_so Asking None h = absurd h
  declared_so Asking (Some own) h = refl

  pub no_actor : (role : Role) → IsActorSo config i Doer' Reader' role None
      → role_fault (store_of config) state i role ≡ Some fault.NoActor
  no_actor Undeclared h = refl
  no_actor (Eventless text) h = absurd h
  no_actor (Switching leaf down) h = absurd h
  no_actor (Retiring range leaf) h = absurd h
  no_actor Dismissed h = absurd h
  no_actor Recovering h = absurd h
  no_actor Writing h = absurd h
  no_actor Asking h = absurd h

  -- ---- whether it has ended

  over_so : (role : Role) (one : Task) (begun : Bool) (sight : Sight) → IsTaskSo config i Doer' Reader' role one
      begun sight
      → is_over one ≡ ended_in (store_of config) state i role
  over_so Undeclared one begun sight h = absurd h
  over_so (Eventless text) (task.Refused own) begun sight h = refl
  over_so (Eventless text) (task.Switches switching) begun sight h = absurd h
  over_so (Eventless text) (task.Retires retiring) begun sight h = absurd h
  over_so (Eventless text) (task.Recovers recovering) begun sight h = absurd h
  over_so (Eventless text) (task.Writes writing) begun sight h = absurd h
  over_so (Eventless text) (task.Queries querying) begun sight h = absurd h
  over_so (Eventless text) task.Ended begun sight h = absurd h
  over_so (Switching leaf down) (task.Refused own) begun sight h = absurd h
  over_so (Switching leaf down) (task.Switches switching) begun sight h = refl
  over_so (Switching leaf down) (task.Retires retiring) begun sight h = absurd h
  over_so (Switching leaf down) (task.Recovers recovering) begun sight h = absurd h
  over_so (Switching leaf down) (task.Writes writing) begun sight h = absurd h
  over_so (Switching leaf down) (task.Queries querying) begun sight h = absurd h
  over_so (Switching leaf down) task.Ended begun sight h = absurd h
  over_so (Retiring range leaf) (task.Refused own) begun sight h = absurd h
  over_so (Retiring range leaf) (task.Switches switching) begun sight h = absurd h
  over_so (Retiring range leaf) (task.Retires retiring) begun sight h = refl
  over_so (Retiring range leaf) (task.Recovers recovering) begun sight h = absurd h
  over_so (Retiring range leaf) (task.Writes writing) begun sight h = absurd h
  over_so (Retiring range leaf) (task.Queries querying) begun sight h = absurd h
  over_so (Retiring range leaf) task.Ended begun sight h = absurd h
  over_so Dismissed (task.Refused own) begun sight h = absurd h
  over_so Dismissed (task.Switches switching) begun sight h = absurd h
  over_so Dismissed (task.Retires retiring) begun sight h = absurd h
  over_so Dismissed (task.Recovers recovering) begun sight h = absurd h
  over_so Dismissed (task.Writes writing) begun sight h = absurd h
  over_so Dismissed (task.Queries querying) begun sight h = absurd h
  over_so Dismissed task.Ended begun sight h = refl
  over_so Recovering (task.Refused own) begun sight h = absurd h
  over_so Recovering (task.Switches switching) begun sight h = absurd h
  over_so Recovering (task.Retires retiring) begun sight h = absurd h
  over_so Recovering (task.Recovers recovering) begun sight h =
      sym (ap (λ (asks : CopyAsk). not (is_some (event_of_copy asks))) (sym (copy_asks_so recovering begun sight h))
      ∙ ap not (recovery_has_event (copy_ask_of recovering.machine) h.goes_on))
  over_so Recovering (task.Writes writing) begun sight h = absurd h
  over_so Recovering (task.Queries querying) begun sight h = absurd h
  over_so Recovering task.Ended begun sight h = sym (ap (λ (asks : CopyAsk). not (is_some (event_of_copy asks)))
      h.ended)
  over_so Writing (task.Refused own) begun sight h = absurd h
  over_so Writing (task.Switches switching) begun sight h = absurd h
  over_so Writing (task.Retires retiring) begun sight h = absurd h
  over_so Writing (task.Recovers recovering) begun sight h = absurd h
  over_so Writing (task.Writes writing) begun sight h =
      sym (ap (λ (asks : WriteAsk). not (is_some (event_of_write asks))) (sym (write_asks_so writing begun sight h))
      ∙ ap not (write_has_event (write.ask_of writing.machine.stage) h.goes_on))
  over_so Writing (task.Queries querying) begun sight h = absurd h
  over_so Writing task.Ended begun sight h = sym (ap (λ (asks : WriteAsk). not (is_some (event_of_write asks)))
      h.ended)
  over_so Asking (task.Refused own) begun sight h = absurd h
  over_so Asking (task.Switches switching) begun sight h = absurd h
  over_so Asking (task.Retires retiring) begun sight h = absurd h
  over_so Asking (task.Recovers recovering) begun sight h = absurd h
  over_so Asking (task.Writes writing) begun sight h = absurd h
  over_so Asking (task.Queries querying) begun sight h =
      sym (ap (λ (asks : Ask). not (is_some (event_of_query asks))) (sym (query_asks_so querying begun sight h))
      ∙ ap not (query_has_event (query.ask_of querying.machine.setting querying.machine.stage) h.goes_on))
  over_so Asking task.Ended begun sight h = sym (ap (λ (asks : Ask). not (is_some (event_of_query asks))) h.ended)

  not_over : (role : Role) → IsActorSo config i Doer' Reader' role None → false ≡ ended_in (store_of config) state i
      role
  not_over Undeclared h = refl
  not_over (Eventless text) h = absurd h
  not_over (Switching leaf down) h = absurd h
  not_over (Retiring range leaf) h = absurd h
  not_over Dismissed h = absurd h
  not_over Recovering h = absurd h
  not_over Writing h = absurd h
  not_over Asking h = absurd h

  -- ---- whether it can be stepped

  free_so : (role : Role) (one : Task) (begun : Bool) (sight : Sight) → IsTaskSo config i Doer' Reader' role one
      begun sight
      → is_over one ≡ false → role_fault (store_of config) state i role ≡ None
  free_so Undeclared one begun sight h on = absurd h
  free_so (Eventless text) one begun sight h on = refl
  free_so (Switching leaf down) one begun sight h on = refl
  free_so (Retiring range leaf) one begun sight h on = refl
  free_so Dismissed one begun sight h on = unended (sym (over_so Dismissed one begun sight h) ∙ on)
  free_so Recovering one begun sight h on = unended (sym (over_so Recovering one begun sight h) ∙ on)
  free_so Writing one begun sight h on = unended (sym (over_so Writing one begun sight h) ∙ on)
  free_so Asking one begun sight h on = unended (sym (over_so Asking one begun sight h) ∙ on)

  -- ---- whether it has begun

  begun_so : (role : Role) (one : Task) (begun : Bool) (sight : Sight) → IsTaskSo config i Doer' Reader' role one
      begun sight
      → (begun || is_over one) ≡ begun_in (store_of config) state i role
  begun_so Undeclared one begun sight h = absurd h
  begun_so (Eventless text) (task.Refused own) begun sight h = or_false begun ∙ h.begun_is
  begun_so (Eventless text) (task.Switches switching) begun sight h = absurd h
  begun_so (Eventless text) (task.Retires retiring) begun sight h = absurd h
  begun_so (Eventless text) (task.Recovers recovering) begun sight h = absurd h
  begun_so (Eventless text) (task.Writes writing) begun sight h = absurd h
  begun_so (Eventless text) (task.Queries querying) begun sight h = absurd h
  begun_so (Eventless text) task.Ended begun sight h = absurd h
  begun_so (Switching leaf down) (task.Refused own) begun sight h = absurd h
  begun_so (Switching leaf down) (task.Switches switching) begun sight h = or_false begun ∙ h.begun_is
  begun_so (Switching leaf down) (task.Retires retiring) begun sight h = absurd h
  begun_so (Switching leaf down) (task.Recovers recovering) begun sight h = absurd h
  begun_so (Switching leaf down) (task.Writes writing) begun sight h = absurd h
  begun_so (Switching leaf down) (task.Queries querying) begun sight h = absurd h
  begun_so (Switching leaf down) task.Ended begun sight h = absurd h
  begun_so (Retiring range leaf) (task.Refused own) begun sight h = absurd h
  begun_so (Retiring range leaf) (task.Switches switching) begun sight h = absurd h
  begun_so (Retiring range leaf) (task.Retires retiring) begun sight h = or_false begun ∙ h.begun_is
  begun_so (Retiring range leaf) (task.Recovers recovering) begun sight h = absurd h
  begun_so (Retiring range leaf) (task.Writes writing) begun sight h = absurd h
  begun_so (Retiring range leaf) (task.Queries querying) begun sight h = absurd h
  begun_so (Retiring range leaf) task.Ended begun sight h = absurd h
  begun_so Dismissed (task.Refused own) begun sight h = absurd h
  begun_so Dismissed (task.Switches switching) begun sight h = absurd h
  begun_so Dismissed (task.Retires retiring) begun sight h = absurd h
  begun_so Dismissed (task.Recovers recovering) begun sight h = absurd h
  begun_so Dismissed (task.Writes writing) begun sight h = absurd h
  begun_so Dismissed (task.Queries querying) begun sight h = absurd h
  begun_so Dismissed task.Ended begun sight h = or_true begun
  begun_so Recovering (task.Refused own) begun sight h = absurd h
  begun_so Recovering (task.Switches switching) begun sight h = absurd h
  begun_so Recovering (task.Retires retiring) begun sight h = absurd h
  begun_so Recovering (task.Recovers recovering) begun sight h = or_false begun ∙ h.begun_is
  begun_so Recovering (task.Writes writing) begun sight h = absurd h
  begun_so Recovering (task.Queries querying) begun sight h = absurd h
  begun_so Recovering task.Ended begun sight h = or_true begun ∙ sym h.begun_is
  begun_so Writing (task.Refused own) begun sight h = absurd h
  begun_so Writing (task.Switches switching) begun sight h = absurd h
  begun_so Writing (task.Retires retiring) begun sight h = absurd h
  begun_so Writing (task.Recovers recovering) begun sight h = absurd h
  begun_so Writing (task.Writes writing) begun sight h = or_false begun ∙ h.begun_is
  begun_so Writing (task.Queries querying) begun sight h = absurd h
  begun_so Writing task.Ended begun sight h = or_true begun ∙ sym h.begun_is
  begun_so Asking (task.Refused own) begun sight h = absurd h
  begun_so Asking (task.Switches switching) begun sight h = absurd h
  begun_so Asking (task.Retires retiring) begun sight h = absurd h
  begun_so Asking (task.Recovers recovering) begun sight h = absurd h
  begun_so Asking (task.Writes writing) begun sight h = absurd h
  begun_so Asking (task.Queries querying) begun sight h = or_false begun ∙ h.begun_is
  begun_so Asking task.Ended begun sight h = or_true begun ∙ sym h.begun_is

  not_begun : (role : Role) → IsActorSo config i Doer' Reader' role None → false ≡ begun_in (store_of config) state i
      role
  not_begun Undeclared h = refl
  not_begun (Eventless text) h = absurd h
  not_begun (Switching leaf down) h = absurd h
  not_begun (Retiring range leaf) h = absurd h
  not_begun Dismissed h = absurd h
  not_begun Recovering h = absurd h
  not_begun Writing h = absurd h
  not_begun Asking h = absurd h

-- ---- of the actor of a number

module _ (weave : Weave) (i : ℕ) (one : Option Actor) (is : one ≡ actor_numbered weave.actors.items i) (config : Config)
    (state : State (store_of config)) (agrees : Agrees config weave state) where
  pub here : IsActorSo config i (state.core.world.actors i) (state.core.readers i) (state.roles i) one
  here = subst (λ (found : Option Actor). IsActorSo config i (state.core.world.actors i) (state.core.readers i)
      (state.roles i) found)
      (sym is) (agrees.actors.each i)

  pub is_declared : is_some one ≡ spec.is_declared (store_of config) state i
  is_declared = declared_so config state i (state.roles i) one here

module _ (weave : Weave) (i : ℕ) (own : Actor) (is : Some own ≡ actor_numbered weave.actors.items i) (config : Config)
    (state : State (store_of config)) (agrees : Agrees config weave state) where
  pub next_there : event_of own.task ≡ spec.next_event (store_of config) state i
  next_there = next_so config state i (state.roles i) own.task own.begun own.sight
      (here weave i (Some own) is config state agrees)

  pub over_there : is_over own.task ≡ spec.has_ended (store_of config) state i
  over_there = over_so config state i (state.roles i) own.task own.begun own.sight
      (here weave i (Some own) is config state agrees)

  pub begun_there : (own.begun || is_over own.task) ≡ spec.has_begun (store_of config) state i
  begun_there = begun_so config state i (state.roles i) own.task own.begun own.sight
      (here weave i (Some own) is config state agrees)

module _ (weave : Weave) (i : ℕ) (is : None ≡ actor_numbered weave.actors.items i) (config : Config)
    (state : State (store_of config)) (agrees : Agrees config weave state) where
  pub next_nowhere : None ≡ spec.next_event (store_of config) state i
  next_nowhere = no_next config state i (state.roles i) (here weave i None is config state agrees)

  pub over_nowhere : false ≡ spec.has_ended (store_of config) state i
  over_nowhere = not_over config state i (state.roles i) (here weave i None is config state agrees)

  pub begun_nowhere : false ≡ spec.has_begun (store_of config) state i
  begun_nowhere = not_begun config state i (state.roles i) (here weave i None is config state agrees)

-- ---- of an actor that is stepped

module _ (config : Config) (state : State (store_of config)) (i : ℕ) (store : Store) (own : Actor)
    (there : IsIn config state i store own) where
  pub no_fault : is_over own.task ≡ false → step_fault (store_of config) state i ≡ None
  no_fault = free_so config state i (state.roles i) own.task own.begun own.sight there.actor
