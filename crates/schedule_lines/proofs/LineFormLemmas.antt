-- What a line of a schedule says of a leaf or a range is lawful.
use Rattle.mon_schema.specs.Names.{SchemaLists}
use Rattle.mon_script.specs.Controls.{IsLawfulControl}
use Rattle.mon_script.specs.declared.controls.ControlForm.{ControlForm}
use Rattle.mon_script.specs.declared.controls.ControlForm.TheVariants as control
use Rattle.mon_topo.specs.declared.zones.ZoneSpec.{ZoneSpec}
use Rattle.std.proofs.Common.{List}
use Rattle.schedule_lines.specs.LawfulLines.{IsLawfulCall}
use Rattle.schedule_lines.specs.ScheduleLines.{call_of}

pub call_lawful : (held : SchemaLists) (zones : List ZoneSpec) (what : ControlForm) → IsLawfulControl zones what
    → IsLawfulCall held zones (call_of what)
call_lawful held zones (control.Down leaf) lawful = lawful
call_lawful held zones (control.Up leaf) lawful = lawful
call_lawful held zones (control.Recover range leaf) lawful = lawful
call_lawful held zones (control.Trim range before) lawful = lawful
call_lawful held zones (control.Retire range leaf) lawful = lawful
