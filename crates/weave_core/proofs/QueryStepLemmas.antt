-- A step of an actor that queries.
use Rattle.std.proofs.Common.{◌≡◌, ◌≢◌, ℕ, ℤ, Bool, true, Option, Some, List, [], ◌∷◌, ◌++◌, refl}
use Rattle.std.proofs.Common.{sym, ap, subst, ◌∙◌, inl, inr}
use Rattle.mon_config.specs.declared.config.Config.{Config}
use Rattle.mon_topo.specs.Settings.{Setting}
use Rattle.mon_topo.specs.declared.zones.ZoneSpec.{ZoneSpec}
use Rattle.query_core.specs.Machine.{Query}
use Rattle.query_core.specs.Program as query
use Rattle.query_traces.specs.Rounds.{QuerySetting}
use Rattle.query_traces.specs.declared.asks.Ask.{Ask}
use Rattle.query_traces.specs.declared.asks.Ask.TheVariants as ask
use Rattle.query_traces.specs.declared.asks.Told.{Told}
use Rattle.query_core.specs.declared.stages.Stage.{Stage}
use Rattle.query_core.specs.declared.stages.Stage.TheVariants as at
use Rattle.weave_core.proofs.TaskLemmas.{no_fault}
use Rattle.weave_core.specs.ActorAgreements.{IsActorSo, IsTaskSo, IsQuerying}
use Rattle.weave_core.specs.ActorSteps.{ActorSteps, IsIn, QueriedSo}
use Rattle.core_theory.specs.Core.{Reader, Tells, asked_now, told_on, view_told, world_then}
use Rattle.weave_core.specs.EndTexts.{query_text}
use Rattle.weave_core.specs.QueryTurns.{IsAsking, QueriesSo}
use Rattle.weave_core.specs.States.{Asking, Dismissed, Eventless, Recovering, Retiring, Role, State, Switching}
use Rattle.weave_core.specs.States.{Undeclared, Writing}
use Rattle.mon_value.specs.Parts.{is_any}
use Rattle.weave_core.specs.States.{holder_in}
use Rattle.core_store.specs.Agreements.{store_of}
use Rattle.weave_core.specs.Steps.{StepsIn, query_stepped, with_event}
use Rattle.weave_core.specs.declared.actors.Actor.{Actor}
use Rattle.weave_core.specs.declared.actors.Task.TheVariants as task
use Rattle.weave_core.specs.declared.stepped.Stepped.TheVariants as stepped
use Rattle.weave_core.specs.declared.stepped.Stepped.{Stepped}
use Rattle.weave_core.specs.declared.queries.QueryTurn.{QueryTurn}
use Rattle.weave_core.specs.declared.queries.QueryTurn.TheVariants as turn
use Rattle.weave_core.specs.declared.queries.Querying.{Querying}
use Rattle.mon_topo.specs.declared.sights.Sight.{Sight}
use Rattle.core_store.specs.declared.store.Store.{Store}
use Rattle.write_core.proofs.KeepsLemmas.{changed_same}
use Rattle.mon_topo.specs.Views.{View}
use Rattle.write_core.specs.World.{Actor as Doer, Stands, World, view_of}

-- ---- stages

query_stays : (zones : List ZoneSpec) (setting : QuerySetting) (stage : Stage)
    → query.ask_of setting stage ≢ ask.Finished → query_stepped zones stage ≡ stepped.Went
query_stays zones setting (at.Rooting loading) going = refl
query_stays zones setting (at.Entering course round loading) going = refl
query_stays zones setting (at.Resolving course round range) going = refl
query_stays zones setting (at.Reloading course round loading) going = refl
query_stays zones setting (at.Visiting course round visits leaf) going = refl
query_stays zones setting (at.Ended end) going = absurd (going refl)

-- ---- what a query's event leaves as it was

module _ (store : Setting) (setting : QuerySetting) (moment : ℤ) (world : World) (view : View) where
  pub actors_stay : (asks : Ask) (i : ℕ) → (world_then store setting moment world view asks).actors i ≡ world.actors i
  actors_stay (ask.LoadRoot bucket) i = refl
  actors_stay (ask.LoadZone zone bucket) i = refl
  actors_stay (ask.Resolve range) i = refl
  actors_stay (ask.Visit leaf) i = refl
  actors_stay ask.Finished i = refl

any_pushed : {X : Type 0} (xs : List X) (x : X) → is_any (xs ++ x ∷ []) ≡ true
any_pushed [] x = refl
any_pushed (y ∷ xs) x = refl

-- ---- a query's step

module _ (config : Config) (state : State (store_of config)) (i : ℕ) (store : Store) (querying : Querying)
    (sight : Sight)
    (begun : Bool)
    (here : IsIn config state i store (record { task = task.Queries querying; sight = sight; begun = begun })) where
  abbrev before : Actor
  before = record { task = task.Queries querying; sight = sight; begun = begun }

  abbrev doer : Doer
  doer = state.core.world.actors i

  abbrev reader : Reader (store_of config)
  reader = state.core.readers i

  asking_by : (role : Role) → IsTaskSo config i doer reader role (task.Queries querying) begun sight → role ≡ Asking
  asking_by Undeclared h = absurd h
  asking_by (Eventless text) h = absurd h
  asking_by (Switching leaf down) h = absurd h
  asking_by (Retiring range leaf) h = absurd h
  asking_by Dismissed h = absurd h
  asking_by Recovering h = absurd h
  asking_by Writing h = absurd h
  asking_by Asking h = refl

  role_is : state.roles i ≡ Asking
  role_is = asking_by (state.roles i) here.actor

  pub queries : IsQuerying config i doer reader querying begun sight
  queries = subst (λ (role : Role). IsTaskSo config i doer reader role (task.Queries querying) begun sight) role_is
      here.actor

  pub at_asking : IsAsking config state.core i store querying sight
  at_asking = record {
    woven = here.woven;
    holders = here.holders;
    shared = here.shared;
    reader = queries.reader_so;
    planned = queries.planned;
    stands = queries.stands;
    goes_on = queries.goes_on;
  }

  module _ (answer : Told) (stage : Stage) where
    abbrev then' : State (store_of config)
    then' = with_event (store_of config) state (Tells i answer stage)

    abbrev doer_then : Doer
    doer_then = then'.core.world.actors i

    abbrev reader_then : Reader (store_of config)
    reader_then = then'.core.readers i

    doer_stays : doer_then ≡ doer
    doer_stays = actors_stay (store_of config) reader.setting reader.moment state.core.world reader.view
        (asked_now (store_of config) reader) i

    stands_then : doer_then ≡ Stands (record { pass = i; view = view_of doer_then })
    stands_then = doer_stays ∙ queries.stands ∙ (λ k. Stands (record { pass = i; view = view_of (sym doer_stays k) }))

    begun_then : is_any reader_then.session ≡ true
    begun_then =
        ap (λ (one : Reader (store_of config)). is_any one.session)
        (changed_same state.core.readers i
        (told_on (store_of config) reader answer (view_told (store_of config) state.core.world reader) stage))
        ∙ any_pushed reader.session _

  pub query_steps : (zones : List ZoneSpec) (new : Store) (now : Sight) (turn : QueryTurn) (own : Actor)
      (how : Option Stepped)
      → zones ≡ config.topology → QueriesSo config state.core i querying new sight now turn
      → QueriedSo zones turn now begun own how → ActorSteps config state i new before own how
  query_steps zones new now (turn.Went next) own how same went h =
      subst (λ (o : Option Stepped). ActorSteps config state i new before own o) (sym h.1) (record {
        fault = no_fault config state i store before here refl;
        after = then' went.answer went.stage;
        steps = subst (λ (role : Role). StepsIn (store_of config) role state i stepped.Went
            (then' went.answer went.stage))
            (sym role_is)
            (inr (record {
              answer = went.answer;
              stage = went.stage;
              can = went.can;
              went = sym (ap (λ (q : Query). query_stepped config.topology q.stage) went.reader.now
                  ∙ query_stays config.topology next.machine.setting next.machine.stage went.goes_on);
              becomes = refl;
            }));
        shared = went.shared;
        actor = subst (λ (one : Actor). IsActorSo config i (doer_then went.answer went.stage)
            (reader_then went.answer went.stage) (state.roles i) (Some one)) (sym h.0)
            (subst (λ (role : Role). IsTaskSo config i (doer_then went.answer went.stage)
            (reader_then went.answer went.stage)
            role (task.Queries next) true now) (sym role_is) (record {
              reader_so = went.reader;
              planned = went.planned;
              stands = stands_then went.answer went.stage;
              goes_on = went.goes_on;
              begun_is = sym (begun_then went.answer went.stage);
            }));
      })
  query_steps zones new now (turn.Waits next) own how same waits h =
      subst (λ (o : Option Stepped). ActorSteps config state i new before own o) (sym h.1) (record {
        fault = no_fault config state i store before here refl;
        after = state;
        steps = subst (λ (role : Role). StepsIn (store_of config) role state i stepped.Waits state) (sym role_is)
            (inl (record {
              other = waits.1.other;
              holds = ap (holder_in (store_of config) state i) role_is ∙ waits.1.holds;
              another = waits.1.another;
              waits = refl;
              same = refl;
            }));
        shared = waits.1.shared;
        actor = subst (λ (one : Actor). IsActorSo config i doer reader (state.roles i) (Some one))
            (sym (h.0 ∙ (λ k. record {
              task = task.Queries (waits.0 k);
              sight = waits.1.sight_is k;
              begun =
                  begun;
            })))
            here.actor;
      })
  query_steps zones new now (turn.Ended end) own how same ended h =
      subst (λ (o : Option Stepped). ActorSteps config state i new before own o) (sym h.1) (record {
        fault = no_fault config state i store before here refl;
        after = then' ended.answer (at.Ended end);
        steps = subst (λ (role : Role). StepsIn (store_of config) role state i (stepped.Ended (query_text zones end))
            (then' ended.answer (at.Ended end))) (sym role_is)
            (inr (record {
              answer = ended.answer;
              stage = at.Ended end;
              can = ended.can;
              went = ap (λ (z : List ZoneSpec). stepped.Ended (query_text z end)) same
                  ∙ sym (ap (query_stepped config.topology) ended.stage_is);
              becomes = refl;
            }));
        shared = ended.shared;
        actor = subst (λ (one : Actor). IsActorSo config i (doer_then ended.answer (at.Ended end))
            (reader_then ended.answer (at.Ended end)) (state.roles i) (Some one)) (sym h.0)
            (subst (λ (role : Role). IsTaskSo config i (doer_then ended.answer (at.Ended end))
            (reader_then ended.answer (at.Ended end)) role task.Ended true now) (sym role_is) (record {
              ended = ap (query.ask_of (reader_then ended.answer (at.Ended end)).setting) ended.stage_is;
              begun_is = begun_then ended.answer (at.Ended end);
              stands = stands_then ended.answer (at.Ended end);
              seen = ended.sight_is;
            }));
      })
