-- What a script spells.
use Rattle.std.specs.Prelude.{◌+◌, ◌∷◌, ◌++◌, ℕ, nat_lt, Bool, true, false, List, [], Option, Some, None, Result, Ok}
use Rattle.std.specs.Prelude.{Err, if◌then◌else◌}
use Rattle.mon_script.specs.Lines.{is_remark, lines_of}
use Rattle.mon_topo.specs.declared.zones.ZoneSpec.{ZoneSpec}
use Rattle.mon_value.specs.Answers.{◌>>=◌}
use Rattle.mon_script.specs.Forms.{Said, form_of}
use Rattle.mon_script.specs.Blocks.{mark_of, stand_at}
use Rattle.mon_script.specs.declared.faults.ScriptFault.{ScriptFault}
use Rattle.mon_script.specs.declared.faults.ScriptKind.{ScriptKind}
use Rattle.mon_script.specs.declared.faults.ScriptKind.TheVariants as kind
use Rattle.mon_script.specs.declared.forms.LineForm.{LineForm}
use Rattle.mon_script.specs.declared.places.TheConstants.{MOST_LINES}
use Rattle.mon_script.specs.declared.script.LineRead.{LineRead}
use Rattle.mon_script.specs.declared.script.ScriptLine.{ScriptLine}

-- ---- a line where it stands

abbrev pub read_as : Option LineForm → Option ℕ → LineRead
read_as what next = record { what = what; next = next }

-- a line that does nothing leaves the next one where it stands
abbrev pub remark_read : ℕ → Option ℕ → Result LineRead ScriptKind
remark_read number place =
    if nat_lt MOST_LINES number then Err kind.TooManyLines else Ok (read_as None place)

abbrev pub form_read : ℕ → Option ℕ → LineForm → List (List ℕ) → Result LineRead ScriptKind
form_read number place form left = do
  next ← stand_at number place (mark_of form) left
  Ok (read_as (Some form) next)

abbrev pub said_read : ℕ → Option ℕ → Said → List (List ℕ) → Result LineRead ScriptKind
said_read number place (Ok form) left = form_read number place form left
said_read number place (Err why) left = Err why

-- what a line says, which stands at a place in front of others
abbrev pub line_read : List ZoneSpec → ℕ → Option ℕ → List ℕ → List (List ℕ) → Result LineRead ScriptKind
line_read zones number place line left =
    if is_remark line then remark_read number place else said_read number place (form_of zones line) left

-- ---- lines

-- a fault in the line of a number
abbrev pub fault_at : ℕ → ScriptKind → ScriptFault
fault_at number why = record { line = number; kind = why }

abbrev pub numbered : {X : Type 0} → ℕ → Result X ScriptKind → Result X ScriptFault
numbered number (Ok x) = Ok x
numbered number (Err why) = Err (fault_at number why)

abbrev pub line_at : List ZoneSpec → ℕ → Option ℕ → List ℕ → List (List ℕ) → Result LineRead ScriptFault
line_at zones number place line left = numbered number (line_read zones number place line left)

abbrev pub script_line : ℕ → LineForm → ScriptLine
script_line number what = record { number = number; what = what }

-- the line of a number, if it does something
abbrev pub lines_read : ℕ → Option LineForm → List ScriptLine
lines_read number None = []
lines_read number (Some what) = script_line number what ∷ []

-- the lines that are numbered on from one, of which the first stands at a place; or the first that is refused
abbrev pub script_from : List ZoneSpec → ℕ → Option ℕ → List (List ℕ) → Result (List ScriptLine) ScriptFault
script_from zones number place [] = Ok []
script_from zones number place (line ∷ left) =
    line_at zones number place line left >>= λ read. script_from zones (number + 1) read.next left
    >>= λ rest. Ok (lines_read number read.what ++ rest)

-- the script that a text spells over these zones
abbrev pub script_in : List ZoneSpec → List ℕ → Result (List ScriptLine) ScriptFault
script_in zones text = script_from zones 1 None (lines_of text)
