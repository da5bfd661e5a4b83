-- What holds of each line of a script that was read.
use Rattle.std.specs.Prelude.{pos, ◌≤ℤ◌, List}
use Rattle.mon_topo.specs.declared.zones.ZoneSpec.{ZoneSpec}
use Rattle.mon_script.specs.Controls.{IsLawfulControl}
use Rattle.mon_script.specs.Follows.{AreLawfulMoments}
use Rattle.mon_script.specs.StandingLines.{IsLawfulStanding}
use Rattle.mon_script.specs.declared.forms.LineForm.{LineForm}
use Rattle.mon_script.specs.declared.forms.LineForm.TheVariants as form
use Rattle.mon_script.specs.declared.script.ScriptLine.{ScriptLine}

-- the moment of a question is no less than 0, and moments, a control and what stands alone are lawful
abbrev pub IsLawfulForm : List ZoneSpec → LineForm → Type 0
IsLawfulForm zones (form.Feed name) = Unit {0}
IsLawfulForm zones (form.Pour first second) = Unit {0}
IsLawfulForm zones (form.Ask question) = pos 0 ≤ℤ question.moment
IsLawfulForm zones (form.Follow moments text) = AreLawfulMoments moments
IsLawfulForm zones (form.Control control) = IsLawfulControl zones control
IsLawfulForm zones (form.Standing line) = IsLawfulStanding line
IsLawfulForm zones (form.Block mark) = Unit {0}

abbrev pub IsLawfulLine : List ZoneSpec → ScriptLine → Type 0
IsLawfulLine zones line = IsLawfulForm zones line.what
