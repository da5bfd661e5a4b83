-- What holds of each line of a schedule that is of a form.
use Rattle.std.specs.Prelude.{ℕ, ℤ, pos, ◌≡◌, ◌<◌, ◌≤◌, ◌≤ℤ◌, true, List, length}
use Rattle.mon_schema.specs.Fits.{fits}
use Rattle.mon_schema.specs.Names.{SchemaLists}
use Rattle.mon_script.specs.Controls.{IsRecoverable}
use Rattle.mon_topo.specs.Zones.{leaves_in, ranges_in}
use Rattle.mon_topo.specs.declared.zones.ZoneSpec.{ZoneSpec}
use Rattle.schedule_lines.specs.declared.calls.Call.{Call}
use Rattle.schedule_lines.specs.declared.calls.Call.TheVariants as call
use Rattle.schedule_lines.specs.declared.limits.TheConstants.{LAST_ACTOR}
use Rattle.schedule_lines.specs.declared.lines.LineForm.{LineForm}
use Rattle.schedule_lines.specs.declared.lines.LineForm.TheVariants as form

-- actors are numbered from 1 on
pub record IsActorNumber (k : ℕ) : Type 0 where
  pub from : 1 ≤ k
  pub to : k ≤ LAST_ACTOR

abbrev pub IsMoment : ℤ → Type 0
IsMoment moment = pos 0 ≤ℤ moment

-- a row is of the schemas, a moment is no less than 0, and a leaf or a range is there
abbrev pub IsLawfulCall : SchemaLists → List ZoneSpec → Call → Type 0
IsLawfulCall held zones (call.Write row) = fits held row ≡ true
IsLawfulCall held zones (call.Query moment text) = IsMoment moment
IsLawfulCall held zones (call.Down leaf) = leaf.0 < length (leaves_in zones)
IsLawfulCall held zones (call.Up leaf) = leaf.0 < length (leaves_in zones)
IsLawfulCall held zones (call.Recover range leaf) = IsRecoverable zones range leaf
IsLawfulCall held zones (call.Trim range before) = (range.0 < length (ranges_in zones)) × IsMoment before
IsLawfulCall held zones (call.Retire range leaf) =
    (range.0 < length (ranges_in zones)) × (leaf.0 < length (leaves_in zones))

abbrev pub IsLawfulForm : SchemaLists → List ZoneSpec → LineForm → Type 0
IsLawfulForm held zones (form.Declare k what) = IsActorNumber k × IsLawfulCall held zones what
IsLawfulForm held zones (form.Meet k j) = IsActorNumber k × IsActorNumber j
IsLawfulForm held zones (form.Step k) = IsActorNumber k
IsLawfulForm held zones (form.Until k event) = IsActorNumber k
IsLawfulForm held zones (form.Finish k) = IsActorNumber k
