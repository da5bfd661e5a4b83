-- A step of an actor that writes.
use Rattle.std.proofs.Common.{◌≡◌, ◌≢◌, ℕ, Bool, true, false, cond, Option, Some, List, [], ◌∷◌, map, refl}
use Rattle.std.proofs.Common.{sym, ap, subst, ◌∙◌, inl, inr}
use Rattle.mon_config.specs.declared.config.Config.{Config}
use Rattle.mon_topo.specs.Settings.{Setting}
use Rattle.mon_topo.specs.declared.zones.ZoneSpec.{ZoneSpec}
use Rattle.mon_value.specs.declared.positions.Range.{Range}
use Rattle.weave_core.proofs.TaskLemmas.{no_fault}
use Rattle.weave_core.specs.ActorAgreements.{IsActorSo, IsTaskSo, IsWriting}
use Rattle.weave_core.specs.ActorSteps.{ActorSteps, IsIn, WrittenSo}
use Rattle.core_theory.specs.Core.{Happens}
use Rattle.weave_core.specs.EndTexts.{deed_of, write_end_text}
use Rattle.weave_core.specs.States.{Asking, Dismissed, Eventless, Recovering, Retiring, Role, State, Switching}
use Rattle.weave_core.specs.States.{Undeclared, Writing}
use Rattle.weave_core.specs.States.{holder_in}
use Rattle.core_store.specs.NextAsks.{is_past_lock, write_asks, writes_begun}
use Rattle.core_store.specs.Agreements.{store_of}
use Rattle.weave_core.specs.Steps.{StepsIn, with_event, write_stepped, writer_stepped}
use Rattle.core_store.specs.WriteTurns.{IsAtWork, WritesSo}
use Rattle.core_store.specs.Writers.{change_turn, writer_of}
use Rattle.weave_core.specs.declared.actors.Actor.{Actor}
use Rattle.weave_core.specs.declared.actors.Task.TheVariants as task
use Rattle.weave_core.specs.declared.stepped.Stepped.{Stepped}
use Rattle.weave_core.specs.declared.stepped.Stepped.TheVariants as stepped
use Rattle.weave_core.specs.declared.texts.Deed.{Deed}
use Rattle.mon_topo.specs.declared.sights.Sight.{Sight}
use Rattle.core_store.specs.declared.store.Store.{Store}
use Rattle.core_store.specs.declared.writes.WriteTurn.{WriteTurn}
use Rattle.core_store.specs.declared.writes.WriteTurn.TheVariants as turn
use Rattle.core_store.specs.declared.writes.Writing.{Writing as Write}
use Rattle.write_core.specs.Events.{Goes}
use Rattle.write_core.specs.Program.{Acking, Ended, Entering, Inside, Locking, Marked, Reserving, Stage, after, ask_of}
use Rattle.write_core.specs.Program.{end_of_verdict, entering, reserving}
use Rattle.write_core.specs.Program as write
use Rattle.write_core.specs.Marks.{waiting}
use Rattle.write_core.specs.Rounds.{Round, again, is_through, after_look, round_marks, round_of, after_skip}
use Rattle.write_core.specs.Steps.{CanComeAt, CanGo}
use Rattle.write_core.specs.World.{Actor as Doer, World, Writer, view_of}
use Rattle.write_core.specs.declared.asks.WriteAsk.TheVariants as ask
use Rattle.write_core.specs.declared.asks.WriteTold.{WriteTold}
use Rattle.write_core.specs.declared.asks.WriteTold.TheVariants as told
use Rattle.write_core.specs.declared.marks.Fate.TheVariants as fate

-- ---- stages behind the lock

past_entering_by : (b : Bool) (round : Round)
    → is_past_lock (cond b (Acking (Marked (round_marks round))) (Entering round)) ≡ true
past_entering_by true round = refl
past_entering_by false round = refl

past_entering : (round : Round) → is_past_lock (entering round) ≡ true
past_entering round = past_entering_by (is_through (after_skip round)) (after_skip round)

past_reserving_by : (b : Bool) (round : Round) → is_past_lock (cond b (entering (again round)) (Reserving round)) ≡ true
past_reserving_by true round = past_entering (again round)
past_reserving_by false round = refl

past_reserving : (round : Round) → is_past_lock (reserving round) ≡ true
past_reserving round = past_reserving_by (is_through round) round

past_done : (round : Round) (at_root in_zone : List ℕ) → is_past_lock (write.done_inside round at_root in_zone) ≡ true
past_done round (bucket ∷ at_root) in_zone = refl
past_done round [] (bucket ∷ in_zone) = refl
past_done round [] [] = past_entering (after_look round fate.Took)

-- once an event came, it is behind the lock
past_after : (setting : Setting) (world : World) (who : Writer) (stage : Stage) (answer : WriteTold)
    → CanComeAt setting world who stage answer → is_past_lock (after stage answer) ≡ true
past_after setting world who Locking (told.Slots replicas) can = past_reserving (round_of (map waiting replicas))
past_after setting world who Locking (told.OldPoint last) can = refl
past_after setting world who Locking (told.RangeFull count) can = refl
past_after setting world who Locking (told.Up buckets) can = absurd can.1
past_after setting world who Locking (told.Down cut) can = absurd can.1
past_after setting world who Locking told.Done can = absurd can.1
past_after setting world who (Reserving round) (told.Slots replicas) can = refl
past_after setting world who (Reserving round) (told.OldPoint last) can = refl
past_after setting world who (Reserving round) (told.RangeFull count) can = refl
past_after setting world who (Reserving round) (told.Up buckets) can = past_reserving (after_look round fate.Ready)
past_after setting world who (Reserving round) (told.Down cut) can = past_reserving (after_look round (fate.Missed cut))
past_after setting world who (Reserving round) told.Done can = refl
past_after setting world who (Entering round) (told.Slots replicas) can = refl
past_after setting world who (Entering round) (told.OldPoint last) can = refl
past_after setting world who (Entering round) (told.RangeFull count) can = refl
past_after setting world who (Entering round) (told.Up buckets) can = refl
past_after setting world who (Entering round) (told.Down cut) can = past_entering (after_look round (fate.Missed cut))
past_after setting world who (Entering round) told.Done can = refl
past_after setting world who (Inside round at_root in_zone) (told.Slots replicas) can = refl
past_after setting world who (Inside round at_root in_zone) (told.OldPoint last) can = refl
past_after setting world who (Inside round at_root in_zone) (told.RangeFull count) can = refl
past_after setting world who (Inside round at_root in_zone) (told.Up buckets) can = refl
past_after setting world who (Inside round at_root in_zone) (told.Down cut) can = refl
past_after setting world who (Inside round at_root in_zone) told.Done can = past_done round at_root in_zone
past_after setting world who (Acking verdict) (told.Slots replicas) can = refl
past_after setting world who (Acking verdict) (told.OldPoint last) can = refl
past_after setting world who (Acking verdict) (told.RangeFull count) can = refl
past_after setting world who (Acking verdict) (told.Up buckets) can = refl
past_after setting world who (Acking verdict) (told.Down cut) can = refl
past_after setting world who (Acking verdict) told.Done can = refl
past_after setting world who (Ended verdict) answer can = absurd can

-- ---- what a step prints

stays_by : (zones : List ZoneSpec) (who : Writer) (stage : Stage) → ask_of stage ≢ ask.Finished
    → writer_stepped zones who stage ≡ stepped.Went
stays_by zones who Locking going = refl
stays_by zones who (Reserving round) going = refl
stays_by zones who (Entering round) going = refl
stays_by zones who (Inside round at_root in_zone) going = refl
stays_by zones who (Acking verdict) going = refl
stays_by zones who (Ended verdict) going = absurd (going refl)

-- ---- a write's step

module _ (config : Config) (state : State (store_of config)) (i : ℕ) (store : Store) (writing : Write) (sight : Sight)
    (begun : Bool)
    (here : IsIn config state i store (record { task = task.Writes writing; sight = sight; begun = begun })) where
  abbrev doer : Doer
  doer = state.core.world.actors i

  writing_by : (role : Role) → IsTaskSo config i doer (state.core.readers i) role (task.Writes writing) begun sight
      → role ≡ Writing
  writing_by Undeclared h = absurd h
  writing_by (Eventless text) h = absurd h
  writing_by (Switching leaf down) h = absurd h
  writing_by (Retiring range leaf) h = absurd h
  writing_by Dismissed h = absurd h
  writing_by Recovering h = absurd h
  writing_by Writing h = refl
  writing_by Asking h = absurd h

  role_is : state.roles i ≡ Writing
  role_is = writing_by (state.roles i) here.actor

  pub writes : IsWriting config i doer (state.core.readers i) writing begun sight
  writes = subst (λ (role : Role). IsTaskSo config i doer (state.core.readers i) role (task.Writes writing) begun
      sight)
      role_is here.actor

  pub at_work : IsAtWork config state.core.world i store writing sight
  at_work = record {
    kept = here.woven.world;
    holders = here.holders;
    shared = here.shared;
    writer = writes.writer;
    goes_on = writes.goes_on;
  }

  abbrev before : Actor
  before = record { task = task.Writes writing; sight = sight; begun = begun }

  -- its event came
  module _ (answer : WriteTold) where
    abbrev then' : State (store_of config)
    then' = with_event (store_of config) state (Happens (Goes i answer))

    abbrev doer_then : Doer
    doer_then = then'.core.world.actors i

  pub write_steps : (zones : List ZoneSpec) (done : Deed) (new : Store) (now : Sight) (turn : WriteTurn) (own : Actor)
      (how : Option Stepped)
      → zones ≡ config.topology → done ≡ deed_of (change_turn writing.change)
      → WritesSo config state.core.world i writing new sight now turn
      → WrittenSo zones done turn now begun own how
      → ActorSteps config state i new (record { task = task.Writes writing; sight = sight; begun = begun }) own how
  write_steps zones done new now (turn.Went next) own how same is went h =
      subst (λ (o : Option Stepped). ActorSteps config state i new before own o) (sym h.1) (record {
        fault = no_fault config state i store before here refl;
        after = then' went.answer;
        steps = subst (λ (role : Role). StepsIn (store_of config) role state i stepped.Went (then' went.answer))
            (sym role_is)
            (inr (record {
              answer = went.answer;
              can = went.came.can;
              went = sym (ap (write_stepped config.topology) went.writer.writer
                  ∙ stays_by config.topology (writer_of i next (view_of (doer_then went.answer))) next.machine.stage
                  went.goes_on);
              becomes = refl;
            }));
        shared = went.came.shared;
        actor = subst (λ (one : Actor). IsActorSo config i (doer_then went.answer) (state.core.readers i)
            (state.roles i) (Some one))
            (sym h.0)
            (subst (λ (role : Role). IsTaskSo config i (doer_then went.answer) (state.core.readers i) role
            (task.Writes next)
            true now) (sym role_is) (record {
              writer = went.writer;
              goes_on = went.goes_on;
              begun_is = sym (ap writes_begun went.writer.writer ∙ ap is_past_lock went.stage
                  ∙ past_after (store_of config) state.core.world (writer_of i writing (view_of doer))
                  writing.machine.stage
                  went.answer (subst (λ (who : Doer). CanGo (store_of config) state.core.world who went.answer)
                  writes.writer.writer went.came.can));
            }));
      })
  write_steps zones done new now (turn.Waits next) own how same is waits h =
      subst (λ (o : Option Stepped). ActorSteps config state i new before own o) (sym h.1) (record {
        fault = no_fault config state i store before here refl;
        after = state;
        steps = subst (λ (role : Role). StepsIn (store_of config) role state i stepped.Waits state) (sym role_is)
            (inl (record {
              other = waits.other;
              holds = ap (holder_in (store_of config) state i) role_is ∙ waits.holds;
              another = waits.another;
              waits = refl;
              same = refl;
            }));
        shared = waits.shared;
        actor = subst (λ (one : Actor). IsActorSo config i doer (state.core.readers i) (state.roles i) (Some one))
            (sym (h.0 ∙ (λ k. record { task = task.Writes (waits.writer k); sight = waits.seen k; begun = begun })))
            here.actor;
      })
  write_steps zones done new now (turn.Ended range last) own how same is ended h =
      subst (λ (o : Option Stepped). ActorSteps config state i new before own o) (sym h.1) (record {
        fault = no_fault config state i store before here refl;
        after = then' ended.answer;
        steps = subst (λ (role : Role). StepsIn (store_of config) role state i
            (stepped.Ended (write_end_text zones done range last))
            (then' ended.answer)) (sym role_is)
            (inr (record {
              answer = ended.answer;
              can = ended.came.can;
              went = (λ k. stepped.Ended (write_end_text (same k) (is k) (ended.range_is k)
                  ((ended.end_is ∙ ap (λ (r : Range). end_of_verdict r ended.verdict) ended.range_is) k)))
                  ∙ sym (ap (write_stepped config.topology) ended.writer);
              becomes = refl;
            }));
        shared = ended.came.shared;
        actor = subst (λ (one : Actor). IsActorSo config i (doer_then ended.answer) (state.core.readers i)
            (state.roles i) (Some one))
            (sym h.0)
            (subst (λ (role : Role). IsTaskSo config i (doer_then ended.answer) (state.core.readers i) role
            task.Ended true now)
            (sym role_is) (record {
              ended = ap write_asks ended.writer;
              begun_is = ap writes_begun ended.writer;
              seen = ended.sight_is;
            }));
      })
