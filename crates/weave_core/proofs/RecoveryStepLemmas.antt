-- A step of an actor that recovers a range.
use Rattle.std.proofs.Common.{◌≡◌, ◌≢◌, ◌∙◌, ℕ, Bool, true, Option, Some, List, refl}
use Rattle.std.proofs.Common.{sym, ap, subst, inl, inr}
use Rattle.core_theory.specs.Core.{Happens}
use Rattle.mon_config.specs.declared.config.Config.{Config}
use Rattle.mon_topo.specs.declared.sights.Sight.{Sight}
use Rattle.mon_topo.specs.declared.zones.ZoneSpec.{ZoneSpec}
use Rattle.weave_core.proofs.TaskLemmas.{no_fault}
use Rattle.weave_core.specs.ActorAgreements.{IsActorSo, IsRecovering, IsTaskSo}
use Rattle.weave_core.specs.ActorSteps.{ActorSteps, IsIn, RecoveredSo}
use Rattle.weave_core.specs.EndTexts.{recover_text}
use Rattle.core_store.specs.Recoverers.{recovery_of}
use Rattle.core_store.specs.RecoverTurns.{IsOpening, RecoversSo}
use Rattle.weave_core.specs.States.{Asking, Dismissed, Eventless, Recovering, Retiring, Role, State, Switching}
use Rattle.weave_core.specs.States.{Undeclared, Writing}
use Rattle.core_store.specs.NextAsks.{copy_asks, recovers_begun}
use Rattle.weave_core.specs.States.{holder_in}
use Rattle.core_store.specs.Agreements.{store_of}
use Rattle.weave_core.specs.Steps.{StepsIn, recover_stepped, recovery_stepped, with_event}
use Rattle.weave_core.specs.declared.actors.Actor.{Actor}
use Rattle.weave_core.specs.declared.actors.Task.TheVariants as task
use Rattle.weave_core.specs.declared.stepped.Stepped.{Stepped}
use Rattle.weave_core.specs.declared.stepped.Stepped.TheVariants as stepped
use Rattle.core_store.specs.declared.recoveries.RecoverTurn.{RecoverTurn}
use Rattle.core_store.specs.declared.recoveries.RecoverTurn.TheVariants as turn
use Rattle.core_store.specs.declared.recoveries.Recovering.{Recovering as Recover}
use Rattle.core_store.specs.declared.store.Store.{Store}
use Rattle.write_core.specs.CopyPhases.{copy_ask_of}
use Rattle.write_core.specs.Events.{Copies}
use Rattle.write_core.specs.Recovering.{Beginning, Carrying, CopyStage, Copying, Nearing, Over, Telling, Within}
use Rattle.write_core.specs.declared.copies.CopyTold.{CopyTold}
use Rattle.write_core.specs.World.{Actor as Doer, Recovery, view_of}
use Rattle.write_core.specs.declared.copies.CopyAsk.TheVariants as ask

stays_by : (zones : List ZoneSpec) (who : Recovery) (stage : CopyStage) → copy_ask_of stage ≢ ask.Finished
    → recovery_stepped zones who stage ≡ stepped.Went
stays_by zones who Beginning going = refl
stays_by zones who (Copying founds sources) going = refl
stays_by zones who (Carrying rows) going = refl
stays_by zones who (Nearing rows) going = refl
stays_by zones who (Within rows at_root in_zone) going = refl
stays_by zones who (Telling outcome) going = refl
stays_by zones who (Over outcome) going = absurd (going refl)

-- ---- a recovery's step

module _ (config : Config) (state : State (store_of config)) (i : ℕ) (store : Store) (recovering : Recover)
    (sight : Sight) (begun : Bool)
    (here : IsIn config state i store (record { task = task.Recovers recovering; sight = sight; begun = begun })) where
  abbrev doer : Doer
  doer = state.core.world.actors i

  recovering_by : (role : Role)
      → IsTaskSo config i doer (state.core.readers i) role (task.Recovers recovering) begun sight → role ≡ Recovering
  recovering_by Undeclared h = absurd h
  recovering_by (Eventless text) h = absurd h
  recovering_by (Switching leaf down) h = absurd h
  recovering_by (Retiring range leaf) h = absurd h
  recovering_by Dismissed h = absurd h
  recovering_by Recovering h = refl
  recovering_by Writing h = absurd h
  recovering_by Asking h = absurd h

  role_is : state.roles i ≡ Recovering
  role_is = recovering_by (state.roles i) here.actor

  pub recovers : IsRecovering config i doer (state.core.readers i) recovering begun sight
  recovers = subst (λ (role : Role). IsTaskSo config i doer (state.core.readers i) role (task.Recovers recovering)
      begun sight) role_is here.actor

  pub opens : IsOpening config state.core.world i store recovering sight
  opens = record {
    kept = here.woven.world;
    holders = here.holders;
    shared = here.shared;
    recoverer = recovers.recoverer;
    goes_on = recovers.goes_on;
  }

  abbrev before : Actor
  before = record { task = task.Recovers recovering; sight = sight; begun = begun }

  -- its event came
  module _ (answer : CopyTold) where
    abbrev then' : State (store_of config)
    then' = with_event (store_of config) state (Happens (Copies i answer))

    abbrev doer_then : Doer
    doer_then = then'.core.world.actors i

  pub recover_steps : (zones : List ZoneSpec) (new : Store) (now : Sight) (turn : RecoverTurn) (own : Actor)
      (how : Option Stepped) → zones ≡ config.topology
      → RecoversSo config state.core.world i recovering new sight now turn
      → RecoveredSo zones turn now begun own how
      → ActorSteps config state i new (record { task = task.Recovers recovering; sight = sight; begun = begun }) own how
  recover_steps zones new now (turn.Went next) own how same went h =
      subst (λ (o : Option Stepped). ActorSteps config state i new before own o) (sym h.1) (record {
        fault = no_fault config state i store before here refl;
        after = then' went.answer;
        steps = subst (λ (role : Role). StepsIn (store_of config) role state i stepped.Went (then' went.answer))
            (sym role_is)
            (inr (record {
              answer = went.answer;
              can = went.came.can;
              went = sym (ap (recover_stepped config.topology) went.recoverer.recovers
                  ∙ stays_by config.topology (recovery_of i next (view_of (doer_then went.answer))) next.machine
                  went.goes_on);
              becomes = refl;
            }));
        shared = went.came.shared;
        actor = subst (λ (one : Actor). IsActorSo config i (doer_then went.answer) (state.core.readers i)
            (state.roles i) (Some one))
            (sym h.0)
            (subst (λ (role : Role). IsTaskSo config i (doer_then went.answer) (state.core.readers i) role
            (task.Recovers next) true now) (sym role_is) (record {
              recoverer = went.recoverer;
              goes_on = went.goes_on;
              begun_is = sym (ap recovers_begun went.recoverer.recovers ∙ went.past);
            }));
      })
  recover_steps zones new now (turn.Waits next) own how same waits h =
      subst (λ (o : Option Stepped). ActorSteps config state i new before own o) (sym h.1) (record {
        fault = no_fault config state i store before here refl;
        after = state;
        steps = subst (λ (role : Role). StepsIn (store_of config) role state i stepped.Waits state) (sym role_is)
            (inl (record {
              other = waits.1.other;
              holds = ap (holder_in (store_of config) state i) role_is ∙ waits.1.holds;
              another = waits.1.another;
              waits = refl;
              same = refl;
            }));
        shared = waits.1.shared;
        actor = subst (λ (one : Actor). IsActorSo config i doer (state.core.readers i) (state.roles i) (Some one))
            (sym (h.0 ∙ (λ k. record { task = task.Recovers (waits.0 k); sight = waits.1.seen k; begun = begun })))
            here.actor;
      })
  recover_steps zones new now (turn.Ended range leaf outcome) own how same ended h =
      subst (λ (o : Option Stepped). ActorSteps config state i new before own o) (sym h.1) (record {
        fault = no_fault config state i store before here refl;
        after = then' ended.answer;
        steps = subst (λ (role : Role). StepsIn (store_of config) role state i
            (stepped.Ended (recover_text zones range leaf outcome)) (then' ended.answer)) (sym role_is)
            (inr (record {
              answer = ended.answer;
              can = ended.came.can;
              went = (λ k. stepped.Ended (recover_text (same k) (ended.range_is k) (ended.leaf_is k) outcome))
                  ∙ sym (ap (recover_stepped config.topology) ended.over);
              becomes = refl;
            }));
        shared = ended.came.shared;
        actor = subst (λ (one : Actor). IsActorSo config i (doer_then ended.answer) (state.core.readers i)
            (state.roles i) (Some one))
            (sym h.0)
            (subst (λ (role : Role). IsTaskSo config i (doer_then ended.answer) (state.core.readers i) role
            task.Ended true now) (sym role_is) (record {
              ended = ap copy_asks ended.over;
              begun_is = ap recovers_begun ended.over;
              seen = ended.came.sight_is;
            }));
      })
