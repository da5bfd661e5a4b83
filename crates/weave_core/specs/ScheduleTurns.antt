-- How the lines of a schedule go over a weave, whichever state of the core it agrees with.
use Rattle.std.specs.Prelude.{ℕ, ◌+◌, ◌≡◌, List, [], ◌∷◌, ◌++◌, Option, Some, None, Result, Ok, Err}
use Rattle.mon_config.specs.declared.config.Config.{Config}
use Rattle.mon_script.specs.Lines.{lines_of}
use Rattle.mon_value.specs.declared.refusals.Refusal.{Refusal}
use Rattle.mon_value.specs.declared.refusals.Refusal.TheVariants as refusal
use Rattle.weave_core.specs.ActorAgreements.{Agrees}
use Rattle.schedule_lines.specs.ScheduleLines.{schedule_form}
use Rattle.weave_core.specs.Schedules.{Does, ActorGoesOn, Printed, RunsFrom, line_fault, said_before}
use Rattle.weave_core.specs.States.{State, step_fault}
use Rattle.core_store.specs.Agreements.{store_of}
use Rattle.schedule_lines.specs.declared.calls.ScheduleFault.{ScheduleFault}
use Rattle.weave_core.specs.declared.stepped.Stepped.{Stepped}
use Rattle.schedule_lines.specs.declared.calls.WeaveFault.{WeaveFault}
use Rattle.schedule_lines.specs.declared.calls.WeaveFault.TheVariants as fault
use Rattle.schedule_lines.specs.declared.events.Event.{Event}
use Rattle.schedule_lines.specs.declared.lines.LineForm.{LineForm}
use Rattle.weave_core.specs.declared.weave.Weave.{Weave}

module _ (config : Config) (state : State (store_of config)) where
  -- ---- an actor that goes on

  pub record HasGone (k : ℕ) (goal : Option Event) (how : Stepped) (new : Weave) : Type 0 where
    pub fault : step_fault (store_of config) state k ≡ None
    pub after : State (store_of config)
    pub goes : ActorGoesOn (store_of config) k goal state how after
    pub agrees : Agrees config new after

  abbrev pub GoesSo : ℕ → Option Event → Result Stepped (Refusal WeaveFault) → Weave → Type 0
  GoesSo k goal (Ok how) new = HasGone k goal how new
  GoesSo k goal (Err (refusal.Fault why)) new = step_fault (store_of config) state k ≡ Some why
  GoesSo k goal (Err refusal.OutOfMemory) new = Unit {0}

  -- ---- a line that says this

  -- it was done, and the weave is as the core then
  pub record IsDone (what : LineForm) (new : Weave) (before after : List ℕ) : Type 0 where
    pub fault : line_fault (store_of config) state what ≡ None
    pub said : List ℕ
    pub left : State (store_of config)
    pub does : Does config state what said left
    pub agrees : Agrees config new left
    pub prints : after ≡ before ++ said

  -- or it was refused, and printed nothing
  pub record IsLineRefused (what : LineForm) (why : WeaveFault) (before after : List ℕ) : Type 0 where
    pub fault : line_fault (store_of config) state what ≡ Some why
    pub prints : after ≡ before

  abbrev pub FormSo : LineForm → {X : Type 0} → Result X (Refusal WeaveFault) → Weave → List ℕ → List ℕ → Type 0
  FormSo what (Ok x) new before after = IsDone what new before after
  FormSo what (Err (refusal.Fault why)) new before after = IsLineRefused what why before after
  FormSo what (Err refusal.OutOfMemory) new before after = Unit {0}

  -- ---- a line of bytes

  -- by what it says
  abbrev pub LineBy : Option LineForm → {X : Type 0} → Result X (Refusal WeaveFault) → Weave → List ℕ → List ℕ → Type 0
  LineBy None (Ok x) new before after = ⊥
  LineBy None (Err (refusal.Fault why)) new before after = (why ≡ fault.BadLine) × (after ≡ before)
  LineBy None (Err refusal.OutOfMemory) new before after = Unit {0}
  LineBy (Some what) result new before after = FormSo what result new before after

  abbrev pub LineSo : List ℕ → {X : Type 0} → Result X (Refusal WeaveFault) → Weave → List ℕ → List ℕ → Type 0
  LineSo line result new before after =
      LineBy (schedule_form config.schemas config.topology line) result new before after

  -- ---- a line of a number

  -- it was done: whatever the lines behind it print, it prints this in front
  pub record HasRun (number : ℕ) (line : List ℕ) (new : Weave) (before after : List ℕ) : Type 0 where
    pub said : List ℕ
    pub left : State (store_of config)
    pub runs : (lines : List (List ℕ)) (more : Printed) → RunsFrom config (number + 1) lines left more
        → RunsFrom config number (line ∷ lines) state (said_before said more)
    pub agrees : Agrees config new left
    pub prints : after ≡ before ++ said

  -- or it ends the run
  pub record HasStopped (number : ℕ) (line : List ℕ) (why : ScheduleFault) (before after : List ℕ) : Type 0 where
    pub runs : (lines : List (List ℕ))
        → RunsFrom config number (line ∷ lines) state (record { text = []; fault = Some why })
    pub prints : after ≡ before

  abbrev pub NumberedSo : ℕ → List ℕ → {X : Type 0} → Result X (Refusal ScheduleFault) → Weave → List ℕ → List ℕ
      → Type 0
  NumberedSo number line (Ok x) new before after = HasRun number line new before after
  NumberedSo number line (Err (refusal.Fault why)) new before after = HasStopped number line why before after
  NumberedSo number line (Err refusal.OutOfMemory) new before after = Unit {0}

  -- ---- all lines

  pub record HavePrinted (text : List ℕ) (why : Option ScheduleFault) (before after : List ℕ) : Type 0 where
    pub said : List ℕ
    pub runs : RunsFrom config 1 (lines_of text) state (record { text = said; fault = why })
    pub prints : after ≡ before ++ said

  abbrev pub LinesSo : List ℕ → {X : Type 0} → Result X (Refusal ScheduleFault) → List ℕ → List ℕ → Type 0
  LinesSo text (Ok x) before after = HavePrinted text None before after
  LinesSo text (Err (refusal.Fault why)) before after = HavePrinted text (Some why) before after
  LinesSo text (Err refusal.OutOfMemory) before after = Unit {0}
