-- What a line comes to that takes a leaf down or up, opens or retires a range's replica on a leaf, or trims a range.
use Rattle.std.specs.Prelude.{◌≡◌, ℕ, Bool, true, false, List, Option, Some, None, Result, Ok, Err}
use Rattle.leaf_cell.specs.declared.controls.Control.{Control}
use Rattle.leaf_cell.specs.declared.controls.Control.TheVariants as going
use Rattle.leaf_cell.specs.declared.controls.ControlFault.{ControlFault}
use Rattle.leaf_cell.specs.declared.controls.ControlFault.TheVariants as unswitched
use Rattle.line_runs.specs.Questions.{refused_for}
use Rattle.line_runs.specs.declared.lines.LineRan.{LineRan}
use Rattle.mon_topo.specs.declared.zones.ZoneSpec.{ZoneSpec}
use Rattle.mon_value.specs.declared.histories.Ack.{Ack}
use Rattle.mon_value.specs.declared.positions.Slot.{Slot}
use Rattle.range_cell.specs.declared.answers.RecoverFault.{RecoverFault}
use Rattle.range_cell.specs.declared.answers.RecoverFault.TheVariants as unopened
use Rattle.range_cell.specs.declared.answers.RetireFault.{RetireFault}
use Rattle.range_cell.specs.declared.answers.RetireFault.TheVariants as unretired
use Rattle.range_cell.specs.declared.answers.TrimFault.{TrimFault}
use Rattle.range_cell.specs.declared.answers.TrimFault.TheVariants as untrimmed
use Rattle.run_traces.specs.LineAsks.{Bound, Recovery, Switch, Withdrawal}
use Rattle.run_traces.specs.LineSwitches.{recovery_text, switch_text}
use Rattle.run_traces.specs.LineTrims.{retire_text, trim_text}
use Rattle.run_traces.specs.declared.traces.ControlDone.TheVariants as did
use Rattle.run_traces.specs.declared.traces.ControlFault.TheVariants as undone
use Rattle.run_traces.specs.declared.traces.LineFault.{LineFault}
use Rattle.run_traces.specs.declared.traces.LineFault.TheVariants as why
use Rattle.run_traces.specs.declared.traces.LineTrace.TheVariants as came
use Rattle.run_traces.specs.declared.traces.RecoveryFault.{RecoveryFault}
use Rattle.run_traces.specs.declared.traces.RecoveryFault.TheVariants as closed
use Rattle.run_traces.specs.declared.traces.RetireRefusal.{RetireRefusal}
use Rattle.run_traces.specs.declared.traces.RetireRefusal.TheVariants as serving
use Rattle.run_traces.specs.declared.traces.SwitchFault.{SwitchFault}
use Rattle.run_traces.specs.declared.traces.SwitchFault.TheVariants as kept
use Rattle.run_traces.specs.declared.traces.TrimRefusal.{TrimRefusal}
use Rattle.run_traces.specs.declared.traces.TrimRefusal.TheVariants as unavailable

-- ---- switches

-- which way a leaf goes
abbrev pub way : Bool → Control
way true = going.Down
way false = going.Up

-- why a leaf isn't switched
abbrev pub switch_told : ControlFault → SwitchFault
switch_told (unswitched.AlreadyDown cut) = kept.AlreadyDown cut
switch_told (unswitched.AlreadyUp cut) = kept.AlreadyUp cut
switch_told (unswitched.SwitchesSpent count) = kept.SwitchesSpent count

abbrev pub control_told : ControlFault → LineFault
control_told fault = why.Control (undone.Switch (switch_told fault))

-- a leaf that was switched, with the length of its history then; or a refusal
abbrev pub switch_ran : List ZoneSpec → Switch → Result ℕ ControlFault → LineRan
switch_ran zones switch (Ok cut) = record { trace = came.Controlled (did.Switched cut); text = switch_text zones (Some switch) }
switch_ran zones switch (Err fault) = refused_for zones (control_told fault)

-- ---- recoveries

-- why no replica is opened, unless memory ran out
abbrev pub recover_told : RecoverFault → Option RecoveryFault
recover_told (unopened.Serving slot) = Some (closed.Serving slot)
recover_told unopened.ThreeServing = Some closed.ThreeServing
recover_told (unopened.SlotsSpent count) = Some (closed.SlotsSpent count)
recover_told (unopened.SourceDown founds) = Some (closed.SourceDown founds)
recover_told (unopened.TargetDown cut) = Some (closed.TargetDown cut)
recover_told unopened.OutOfMemory = None

abbrev pub recovery_told : RecoveryFault → LineFault
recovery_told fault = why.Control (undone.Recovery fault)

-- a slot that was opened
abbrev pub recovery_ran : List ZoneSpec → Recovery → Slot → LineRan
recovery_ran zones recovery slot =
    record { trace = came.Controlled (did.Recovered slot); text = recovery_text zones (Some recovery) slot }

-- a refusal
pub record IsNotOpenedFor (zones : List ZoneSpec) (fault : RecoverFault) (ran : LineRan) : Type 0 where
  pub told : RecoveryFault
  pub told_is : recover_told fault ≡ Some told
  pub ran_is : ran ≡ refused_for zones (recovery_told told)

-- by the answer
abbrev pub IsRecoveryRan : List ZoneSpec → Recovery → Result Slot RecoverFault → LineRan → Type 0
IsRecoveryRan zones recovery (Ok slot) ran = ran ≡ recovery_ran zones recovery slot
IsRecoveryRan zones recovery (Err fault) ran = IsNotOpenedFor zones fault ran

-- ---- trims

-- why a range isn't trimmed, unless memory ran out
abbrev pub trim_told : TrimFault → Option TrimRefusal
trim_told (untrimmed.Unavailable range founds) = Some (unavailable.Unavailable range founds)
trim_told untrimmed.OutOfMemory = None

abbrev pub untrimmed_told : TrimRefusal → LineFault
untrimmed_told fault = why.Control (undone.Trim fault)

-- a range that was trimmed
abbrev pub trim_ran : List ZoneSpec → Bound → Ack → LineRan
trim_ran zones bound ack =
    record { trace = came.Controlled (did.Trimmed ack); text = trim_text zones (Some bound) ack }

-- a refusal
pub record IsNotTrimmedFor (zones : List ZoneSpec) (fault : TrimFault) (ran : LineRan) : Type 0 where
  pub told : TrimRefusal
  pub told_is : trim_told fault ≡ Some told
  pub ran_is : ran ≡ refused_for zones (untrimmed_told told)

-- by the answer
abbrev pub IsTrimRan : List ZoneSpec → Bound → Result Ack TrimFault → LineRan → Type 0
IsTrimRan zones bound (Ok ack) ran = ran ≡ trim_ran zones bound ack
IsTrimRan zones bound (Err fault) ran = IsNotTrimmedFor zones fault ran

-- ---- retirements

-- why a replica isn't retired
abbrev pub retire_told : RetireFault → RetireRefusal
retire_told unretired.NotServing = serving.NotServing
retire_told (unretired.LastServing slot) = serving.LastServing slot

abbrev pub unretired_told : RetireFault → LineFault
unretired_told fault = why.Control (undone.Retirement (retire_told fault))

-- a slot that was retired, or a refusal
abbrev pub retire_ran : List ZoneSpec → Withdrawal → Result Slot RetireFault → LineRan
retire_ran zones withdrawal (Ok slot) =
    record { trace = came.Controlled (did.Retired slot); text = retire_text zones (Some withdrawal) slot }
retire_ran zones withdrawal (Err fault) = refused_for zones (unretired_told fault)
