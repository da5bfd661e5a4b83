-- What the calls of a weave come to, whichever state of the core it agrees with.
use Rattle.std.specs.Prelude.{ℕ, ◌≡◌, Some, None, Result, Ok, Err}
use Rattle.mon_config.specs.declared.config.Config.{Config}
use Rattle.mon_value.specs.declared.refusals.Refusal.{Refusal}
use Rattle.mon_value.specs.declared.refusals.Refusal.TheVariants as refusal
use Rattle.weave_core.specs.ActorAgreements.{Agrees}
use Rattle.weave_core.specs.Declarations.{Declares, Meets}
use Rattle.schedule_lines.specs.LawfulLines.{IsLawfulCall}
use Rattle.weave_core.specs.Schedules.{IsFirstState, declare_fault}
use Rattle.weave_core.specs.States.{State, step_fault}
use Rattle.core_store.specs.Agreements.{store_of}
use Rattle.weave_core.specs.Steps.{Steps}
use Rattle.schedule_lines.specs.declared.calls.Call.{Call}
use Rattle.weave_core.specs.declared.stepped.Stepped.{Stepped}
use Rattle.schedule_lines.specs.declared.calls.WeaveFault.{WeaveFault}
use Rattle.weave_core.specs.declared.weave.Weave.{Weave}

-- there is such a core: what every call asks for that is not the first, and leaves unless memory ran out
pub record IsWeaveKept (weave : Weave) : Type 0 where
  pub config : Config
  pub state : State (store_of config)
  pub agrees : Agrees config weave state

abbrev pub IsKeptUnless : {X : Type 0} → Result X (Refusal WeaveFault) → Weave → Type 0
IsKeptUnless (Ok x) new = IsWeaveKept new
IsKeptUnless (Err (refusal.Fault why)) new = IsWeaveKept new
IsKeptUnless (Err refusal.OutOfMemory) new = Unit {0}

-- a new weave is as a core in which nobody is declared
pub record BeginsSo (config : Config) (weave : Weave) : Type 0 where
  pub state : State (store_of config)
  pub first : IsFirstState config state
  pub agrees : Agrees config weave state

module _ (config : Config) (state : State (store_of config)) (k : ℕ) where
  pub record MayDeclare (call : Call) : Type 0 where
    pub lawful : IsLawfulCall config.schemas config.topology call
    pub fault : declare_fault (store_of config) state k ≡ None

  -- an actor is declared, and the weave is as the core then
  pub record DeclaresSo (call : Call) (new : Weave) : Type 0 where
    pub after : State (store_of config)
    pub declares : Declares config state k call after
    pub agrees : Agrees config new after

  -- an actor has done its step, and the weave is as the core then
  pub record StepsSo (how : Stepped) (new : Weave) : Type 0 where
    pub fault : step_fault (store_of config) state k ≡ None
    pub after : State (store_of config)
    pub steps : Steps (store_of config) state k how after
    pub agrees : Agrees config new after

  -- or it has none, and the weave is as it was
  pub record IsRefusedSo (why : WeaveFault) (new : Weave) : Type 0 where
    pub fault : step_fault (store_of config) state k ≡ Some why
    pub agrees : Agrees config new state

  abbrev pub IsStepped : Weave → Result Stepped (Refusal WeaveFault) → Type 0
  IsStepped new (Ok how) = StepsSo how new
  IsStepped new (Err (refusal.Fault why)) = IsRefusedSo why new
  IsStepped new (Err refusal.OutOfMemory) = Unit {0}

  -- an actor has seen and knows what another one does, too
  pub record MeetsSo (j : ℕ) (new : Weave) : Type 0 where
    pub after : State (store_of config)
    pub meets : Meets (store_of config) state k j after
    pub agrees : Agrees config new after
