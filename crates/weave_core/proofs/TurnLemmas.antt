-- That an actor whose step went has a next one, and actors that go on.
use Rattle.std.proofs.Common.{◌≡◌, ◌∙◌, inl, inr, ℕ, zero, suc, ◌+◌, ◌<◌, true, not, is_some, List, []}
use Rattle.std.proofs.Common.{◌∷◌, Option, Some, None, Err, refl, sym, ap, subst, arith}
use Rattle.mon_config.specs.declared.config.Config.{Config}
use Rattle.mon_topo.specs.Settings.{Setting}
use Rattle.mon_topo.specs.declared.zones.ZoneSpec.{ZoneSpec}
use Rattle.mon_value.specs.declared.refusals.Refusal.{Refusal}
use Rattle.mon_value.specs.declared.refusals.Refusal.TheVariants as refusal
use Rattle.query_core.specs.Program.{ask_of}
use Rattle.query_traces.specs.Rounds.{QuerySetting}
use Rattle.query_core.specs.declared.stages.Stage.{Stage}
use Rattle.query_core.specs.declared.stages.Stage.TheVariants as query
use Rattle.weave_core.proofs.TaskLemmas.{unended}
use Rattle.weave_core.specs.ActorAgreements.{Agrees}
use Rattle.core_theory.specs.Core.{query_now}
use Rattle.weave_core.specs.EndTexts.{retire_text, switch_text}
use Rattle.weave_core.specs.AskedEvents.{event_of_copy, event_of_query, event_of_write}
use Rattle.weave_core.specs.ScheduleTurns.{GoesSo, HasGone}
use Rattle.weave_core.specs.Schedules.{IsNextEvent, Went}
use Rattle.weave_core.specs.States.{Asking, Dismissed, Eventless, Recovering, Retiring, Role, State, Switching}
use Rattle.weave_core.specs.States.{Undeclared, Writing}
use Rattle.core_store.specs.NextAsks.{copy_asks}
use Rattle.weave_core.specs.States.{role_fault, next_in}
use Rattle.weave_core.specs.States.{step_fault}
use Rattle.core_store.specs.Agreements.{store_of}
use Rattle.core_store.specs.NextAsks.{write_asks}
use Rattle.weave_core.specs.Steps.{Steps, StepsIn, query_stepped, recover_stepped, recovery_stepped, write_stepped}
use Rattle.weave_core.specs.Steps.{writer_stepped}
use Rattle.weave_core.specs.WeaveCalls as call
use Rattle.weave_core.specs.declared.stepped.Stepped.{Stepped}
use Rattle.weave_core.specs.declared.stepped.Stepped.TheVariants as stepped
use Rattle.schedule_lines.specs.declared.calls.WeaveFault.{WeaveFault}
use Rattle.schedule_lines.specs.declared.events.Event.{Event}
use Rattle.schedule_lines.specs.declared.limits.TheConstants.{MOST_EVENTS}
use Rattle.weave_core.specs.declared.weave.Weave.{Weave}
use Rattle.write_core.specs.Program.{Acking, Ended, Entering, Inside, Locking, Reserving, enter, inside, reserve}
use Rattle.write_core.specs.Program as write
use Rattle.write_core.specs.CopyPhases.{copy_ask_of}
use Rattle.write_core.specs.Recovering.{Beginning, Carrying, CopyStage, Copying, Nearing, Over, Telling}
use Rattle.write_core.specs.Recovering as copy
use Rattle.write_core.specs.World.{Actor, Recovers, Recovery, Stands, Writer, Writes}
use Rattle.write_core.specs.declared.marks.Mark.{Mark}

-- ---- a step that went leaves a next event

reserves_on : (left : List Mark) → is_some (event_of_write (reserve left)) ≡ true
reserves_on [] = refl
reserves_on (mark ∷ left) = refl

enters_on : (left : List Mark) → is_some (event_of_write (enter left)) ≡ true
enters_on [] = refl
enters_on (mark ∷ left) = refl

inside_on : (left : List Mark) (at_root in_zone : List ℕ) → is_some (event_of_write (inside left at_root in_zone))
    ≡ true
inside_on left (bucket ∷ at_root) in_zone = refl
inside_on left [] (bucket ∷ in_zone) = refl
inside_on [] [] [] = refl
inside_on (mark ∷ left) [] [] = refl

writer_on : (zones : List ZoneSpec) (writer : Writer) (stage : write.Stage) → stepped.Went ≡ writer_stepped zones
    writer stage
    → is_some (event_of_write (write.ask_of stage)) ≡ true
writer_on zones writer Locking e = refl
writer_on zones writer (Reserving round) e = reserves_on round.left
writer_on zones writer (Entering round) e = enters_on round.left
writer_on zones writer (Inside round at_root in_zone) e = inside_on round.left at_root in_zone
writer_on zones writer (Acking verdict) e = refl
writer_on zones writer (Ended verdict) e = absurd cc

write_on : (zones : List ZoneSpec) (actor : Actor) → stepped.Went ≡ write_stepped zones actor
    → is_some (event_of_write (write_asks actor)) ≡ true
write_on zones (Writes writer) e = writer_on zones writer writer.stage e
write_on zones (Recovers recovery) e = absurd cc
write_on zones (Stands stander) e = absurd cc

recovery_on : (zones : List ZoneSpec) (recovery : Recovery) (stage : CopyStage)
    → stepped.Went ≡ recovery_stepped zones recovery stage → is_some (event_of_copy (copy_ask_of stage)) ≡ true
recovery_on zones recovery Beginning e = refl
recovery_on zones recovery (Copying founds []) e = refl
recovery_on zones recovery (Copying founds (source ∷ left)) e = refl
recovery_on zones recovery (Carrying rows) e = refl
recovery_on zones recovery (Nearing rows) e = refl
recovery_on zones recovery (copy.Within rows (bucket ∷ at_root) in_zone) e = refl
recovery_on zones recovery (copy.Within rows [] (bucket ∷ in_zone)) e = refl
recovery_on zones recovery (copy.Within rows [] []) e = refl
recovery_on zones recovery (Telling outcome) e = refl
recovery_on zones recovery (Over outcome) e = absurd cc

recover_on : (zones : List ZoneSpec) (actor : Actor) → stepped.Went ≡ recover_stepped zones actor
    → is_some (event_of_copy (copy_asks actor)) ≡ true
recover_on zones (Writes writer) e = absurd cc
recover_on zones (Recovers recovery) e = recovery_on zones recovery recovery.stage e
recover_on zones (Stands stander) e = absurd cc

query_on : (zones : List ZoneSpec) (setting : QuerySetting) (stage : Stage) → stepped.Went ≡ query_stepped zones stage
    → is_some (event_of_query (ask_of setting stage)) ≡ true
query_on zones setting (query.Rooting loading) e = refl
query_on zones setting (query.Entering course round loading) e = refl
query_on zones setting (query.Resolving course round range) e = refl
query_on zones setting (query.Reloading course round loading) e = refl
query_on zones setting (query.Visiting course round visits leaf) e = refl
query_on zones setting (query.Ended end) e = absurd cc

module _ (store : Setting) (k : ℕ) where
  went_in : (role : Role) (state after : State store) → StepsIn store role state k stepped.Went after
      → role_fault store after k role ≡ None
  went_in Undeclared state after steps = absurd steps
  went_in (Eventless text) state after steps = refl
  went_in (Switching leaf down) state after steps = refl
  went_in (Retiring range leaf) state after steps = refl
  went_in Dismissed state after steps = absurd steps
  went_in Recovering state after (inl waits) = let no : stepped.Went ≡ stepped.Waits = waits.waits in absurd cc
  went_in Recovering state after (inr goes) =
      unended (ap not (recover_on store.zones (after.core.world.actors k) goes.went))
  went_in Writing state after (inl waits) = let no : stepped.Went ≡ stepped.Waits = waits.waits in absurd cc
  went_in Writing state after (inr goes) =
      unended (ap not (write_on store.zones (after.core.world.actors k) goes.went))
  went_in Asking state after (inl waits) = let no : stepped.Went ≡ stepped.Waits = waits.waits in absurd cc
  went_in Asking state after (inr goes) =
      unended (ap not (query_on store.zones (after.core.readers k).setting
      (query_now store (after.core.readers k)).stage goes.went))

  -- a step that went leaves the roles as they were
  same_role : (role : Role) (state after : State store) → StepsIn store role state k stepped.Went after → after.roles k
      ≡ state.roles k
  same_role Undeclared state after steps = absurd steps
  same_role (Eventless text) state after steps = let no : stepped.Went ≡ stepped.Ended text = steps.0 in absurd cc
  same_role (Switching leaf down) state after (inl waits) = ap (λ (s : State store). s.roles k) waits.same
  same_role (Switching leaf down) state after (inr goes) =
      let no : stepped.Went ≡ stepped.Ended (switch_text store.zones leaf down goes.answer) = goes.went in absurd cc
  same_role (Retiring range leaf) state after (inl waits) = ap (λ (s : State store). s.roles k) waits.same
  same_role (Retiring range leaf) state after (inr goes) =
      let no : stepped.Went ≡ stepped.Ended (retire_text store.zones range leaf goes.answer) = goes.went in absurd cc
  same_role Dismissed state after steps = absurd steps
  same_role Recovering state after (inl waits) = ap (λ (s : State store). s.roles k) waits.same
  same_role Recovering state after (inr goes) = ap (λ (s : State store). s.roles k) goes.becomes
  same_role Writing state after (inl waits) = ap (λ (s : State store). s.roles k) waits.same
  same_role Writing state after (inr goes) = ap (λ (s : State store). s.roles k) goes.becomes
  same_role Asking state after (inl waits) = ap (λ (s : State store). s.roles k) waits.same
  same_role Asking state after (inr goes) = ap (λ (s : State store). s.roles k) goes.becomes

  -- it can be stepped again
  pub went_on : (state after : State store) → Steps store state k stepped.Went after → step_fault store after k ≡ None
  went_on state after steps =
      ap (role_fault store after k) (same_role (state.roles k) state after steps) ∙ went_in (state.roles k) state after
      steps

  next_free_in : (role : Role) (state : State store) (event : Event) → next_in store state k role ≡ Some event
      → role_fault store state k role ≡ None
  next_free_in Undeclared state event e = absurd cc
  next_free_in (Eventless text) state event e = refl
  next_free_in (Switching leaf down) state event e = refl
  next_free_in (Retiring range leaf) state event e = refl
  next_free_in Dismissed state event e = absurd cc
  next_free_in Recovering state event e = unended (ap (λ (o : Option Event). not (is_some o)) e)
  next_free_in Writing state event e = unended (ap (λ (o : Option Event). not (is_some o)) e)
  next_free_in Asking state event e = unended (ap (λ (o : Option Event). not (is_some o)) e)

  -- who has a next event can be stepped
  pub next_free : (state : State store) (goal : Option Event) → IsNextEvent store state k goal
      → step_fault store state k ≡ None
  next_free state None next = absurd next
  next_free state (Some event) next = next_free_in (state.roles k) state event next

-- ---- an actor that goes on

-- so many events went so far
pub record Going (config : Config) (start : State (store_of config)) (k : ℕ) (goal : Option Event) (count : ℕ)
    (weave : Weave)
    : Type 0 where
  pub state : State (store_of config)
  pub went : Went (store_of config) k goal start count state
  pub agrees : Agrees config weave state
  pub free : 0 < count → (step_fault (store_of config) start k ≡ None) × (step_fault (store_of config) state k ≡ None)

module _ (config : Config) (start : State (store_of config)) (k : ℕ) (goal : Option Event) where
  abbrev Store' : Setting
  Store' = store_of config

  -- what hinders a step now hindered the first
  free_at : (count : ℕ) (state : State Store') → Went Store' k goal start count state
      → (0 < count → (step_fault Store' start k ≡ None) × (step_fault Store' state k ≡ None))
      → step_fault Store' state k ≡ None → step_fault Store' start k ≡ None
  free_at zero state went free e = subst (λ (s : State Store'). step_fault Store' s k ≡ None) went e
  free_at (suc count) state went free e = (free (omega arith)).0

  fault_at : (count : ℕ) (state : State Store') (why : WeaveFault) → Went Store' k goal start count state
      → (0 < count → (step_fault Store' start k ≡ None) × (step_fault Store' state k ≡ None))
      → step_fault Store' state k ≡ Some why → step_fault Store' start k ≡ Some why
  fault_at zero state why went free e = subst (λ (s : State Store'). step_fault Store' s k ≡ Some why) went e
  fault_at (suc count) state why went free e =
      let none : None ≡ Some why = sym (free (omega arith)).1 ∙ e in absurd cc

  one_more : (count : ℕ) (before state : State Store') → Went Store' k goal start count before
      → (IsNextEvent Store' before k goal → ⊥) → Steps Store' before k stepped.Went state → Went Store' k goal start
      (count + 1) state
  one_more count before state went other steps =
      let next : suc count ≡ count + 1 = omega arith in
      subst (λ (n : ℕ). Went Store' k goal start n state) next (before, went, other, steps)

  pub going_more : (count : ℕ) (weave new : Weave) (so_far : Going config start k goal count weave)
      → (IsNextEvent Store' so_far.state k goal → ⊥) → call.StepsSo config so_far.state k stepped.Went new
      → Going config start k goal (count + 1) new
  going_more count weave new so_far other steps = record {
    state = steps.after;
    went = one_more count so_far.state steps.after so_far.went other steps.steps;
    agrees = steps.agrees;
    free = λ some. (
      free_at count so_far.state so_far.went so_far.free steps.fault,
      went_on Store' k so_far.state
          steps.after steps.steps,
    );
  }

  pub gone_before : (count : ℕ) (weave : Weave) (so_far : Going config start k goal count weave)
      → IsNextEvent Store' so_far.state k goal
      → HasGone config start k goal stepped.Went weave
  gone_before count weave so_far next = record {
    fault = free_at count so_far.state so_far.went so_far.free (next_free Store' k so_far.state goal next);
    after = so_far.state;
    goes = record { count = count; state = so_far.state; went = so_far.went; ends = inl (next, refl, refl) };
    agrees = so_far.agrees;
  }

  pub gone_by : (count : ℕ) (how : Stepped) (weave new : Weave) (so_far : Going config start k goal count weave)
      → (IsNextEvent Store' so_far.state k goal → ⊥) → (how ≡ stepped.Went → ⊥)
      → call.StepsSo config so_far.state k how new → HasGone config start k goal how new
  gone_by count how weave new so_far other last steps = record {
    fault = free_at count so_far.state so_far.went so_far.free steps.fault;
    after = steps.after;
    goes = record {
      count = count;
      state = so_far.state;
      went = so_far.went;
      ends =
          inr (inl (other, steps.steps, last));
    };
    agrees = steps.agrees;
  }

  pub gone_rests : (count : ℕ) (weave : Weave) (so_far : Going config start k goal count weave) → count ≡ MOST_EVENTS
      → HasGone config start k goal stepped.Went weave
  gone_rests count weave so_far all = record {
    fault = (so_far.free (omega (arith, all))).0;
    after = so_far.state;
    goes = record { count = count; state = so_far.state; went = so_far.went; ends = inr (inr (all, refl, refl)) };
    agrees = so_far.agrees;
  }

  pub gone_refused : (count : ℕ) (why : WeaveFault) (weave : Weave) (so_far : Going config start k goal count weave)
      → step_fault Store' so_far.state k ≡ Some why → step_fault Store' start k ≡ Some why
  gone_refused count why weave so_far e = fault_at count so_far.state why so_far.went so_far.free e

  pub goes_refused : (count : ℕ) (why : Refusal WeaveFault) (weave new : Weave) (so_far : Going config start k goal
      count weave)
      → call.IsStepped config so_far.state k new (Err why) → GoesSo config start k goal (Err why) new
  goes_refused count (refusal.Fault why) weave new so_far refused = gone_refused count why weave so_far refused.fault
  goes_refused count refusal.OutOfMemory weave new so_far refused = tt
