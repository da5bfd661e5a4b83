-- Refusals that are passed on.
use Rattle.std.proofs.Common.{◌≡◌, ◌∙◌, ℕ, List, [], ◌++◌, Option, Some, None, Result, Ok, Err, append-nil, refl, sym}
use Rattle.std.proofs.Common.{ap, subst}
use Rattle.mon_config.specs.declared.config.Config.{Config}
use Rattle.mon_value.specs.declared.refusals.Refusal.{Refusal}
use Rattle.mon_value.specs.declared.refusals.Refusal.TheVariants as refusal
use Rattle.weave_core.specs.ScheduleTurns.{FormSo, GoesSo, LineBy}
use Rattle.weave_core.specs.Schedules.{line_fault}
use Rattle.weave_core.specs.States.{State, step_fault}
use Rattle.core_store.specs.Agreements.{store_of}
use Rattle.weave_core.specs.WeaveCalls.{IsStepped}
use Rattle.schedule_lines.specs.declared.events.Event.{Event}
use Rattle.schedule_lines.specs.declared.calls.WeaveFault.{WeaveFault}
use Rattle.schedule_lines.specs.declared.lines.LineForm.{LineForm}
use Rattle.schedule_lines.specs.declared.lines.LineForm.TheVariants as form
use Rattle.weave_core.specs.declared.weave.Weave.{Weave}

-- what is claimed of a refusal is claimed of the answer that passes it on
pub passed_on : {X F : Type 0} (P : Result X (Refusal F) → Type 0) (answer : Result X (Refusal F)) (why : Refusal F)
    → (passed : Refusal F) × (answer ≡ Err passed) × (passed ≡ why) → P (Err why) → P answer
passed_on {X} {F} P answer why (passed, is, same) holds =
    subst P (sym is) (subst (λ (r : Refusal F). P (Err r)) (sym same) holds)

module _ (config : Config) (state : State (store_of config)) where
  -- a step that is refused is a line that is
  pub step_refused : (X : Type 0) (k : ℕ) (new : Weave) (text : List ℕ) (why : Refusal WeaveFault)
      → IsStepped config state k new (Err why) → FormSo config state (form.Step k) {X = X} (Err why) new text text
  step_refused X k new text (refusal.Fault why) refused = record { fault = refused.fault; prints = refl }
  step_refused X k new text refusal.OutOfMemory refused = tt

  -- so are steps until an event, or to the end
  pub turn_refused : (X : Type 0) (k : ℕ) (goal : Option Event) (what : LineForm) (new : Weave) (text : List ℕ)
      (why : Refusal WeaveFault)
      → line_fault (store_of config) state what ≡ step_fault (store_of config) state k
      → GoesSo config state k goal (Err why) new → FormSo config state what {X = X} (Err why) new text text
  turn_refused X k goal what new text (refusal.Fault why) same refused = record {
    fault = same ∙ refused;
    prints =
        refl;
  }
  turn_refused X k goal what new text refusal.OutOfMemory same refused = tt

  -- nothing is claimed where memory ran out
  pub line_starved : (X : Type 0) (what : Option LineForm) (new : Weave) (text : List ℕ)
      → LineBy config state what {X = X} (Err refusal.OutOfMemory) new text text
  line_starved X None new text = tt
  line_starved X (Some what) new text = tt

  -- a line that prints nothing does so behind any text
  pub silent : (X : Type 0) (what : LineForm) (answer : Result X (Refusal WeaveFault)) (new : Weave) (text : List ℕ)
      → FormSo config state what answer new [] [] → FormSo config state what answer new text text
  silent X what (Ok x) new text done = record {
    fault = done.fault;
    said = done.said;
    left = done.left;
    does = done.does;
    agrees = done.agrees;
    prints = sym (append-nil text) ∙ ap (λ (said : List ℕ). text ++ said) done.prints;
  }
  silent X what (Err (refusal.Fault why)) new text refused = record { fault = refused.fault; prints = refl }
  silent X what (Err refusal.OutOfMemory) new text starved = tt
