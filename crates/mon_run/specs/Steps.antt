-- The steps of a run, and the texts of its own that it ends with.
use Rattle.std.specs.Prelude.{◌<◌, ◌≤◌, ◌⊎◌, ℕ, ◌-◌, ◌^◌, List, ◌++◌, codes, nat_lt, Bool, true, false, [], ◌∷◌, length}
use Rattle.std.specs.Prelude.{if◌then◌else◌}
use Rattle.std.specs.Fmt.{decimal}
use Rattle.mon_config.specs.Configs.{config_fault_text}
use Rattle.mon_config.specs.declared.faults.ConfigFault.{ConfigFault}
use Rattle.mon_script.specs.declared.faults.ScriptFault.{ScriptFault}
use Rattle.mon_script.specs.declared.faults.ScriptKind.{ScriptKind}
use Rattle.mon_script.specs.declared.faults.ScriptKind.TheVariants as kind
use Rattle.mon_table.specs.Tables.{newline}
use Rattle.schedule_lines.specs.FaultTexts.{schedule_fault_text}
use Rattle.schedule_lines.specs.declared.calls.ScheduleFault.{ScheduleFault}
use Rattle.mon_value.specs.declared.limits.TheConstants.{LONGEST_FILE}
use Rattle.run_traces.specs.declared.traces.LineTrace.{LineTrace}
use Rattle.mon_run.specs.Outside.{Files}

-- Counts of faults.

-- a count of faults rose: it is greater, or it stands at its last value
abbrev pub Rose : ℕ → ℕ → Type 0
Rose before after = (before < after) ⊎ (2 ^ 64 - 1 ≤ after)

-- Every text of its own that a run ends with, but for what its lines and its schedule print.

abbrev pub usage_text : List ℕ
usage_text = codes "usage: mon run CONFIG SCRIPT | weave CONFIG SCHEDULE | gen N | trial N" ++ newline

abbrev pub config_text : ConfigFault → List ℕ
config_text fault = codes "config: " ++ (config_fault_text fault ++ newline)

abbrev pub kind_text : ScriptKind → List ℕ
kind_text kind.BadWord = codes "BadWord"
kind_text kind.BadNumber = codes "BadNumber"
kind_text kind.UnknownLeaf = codes "UnknownLeaf"
kind_text kind.UnknownRange = codes "UnknownRange"
kind_text kind.NotInZone = codes "NotInZone"
kind_text kind.Nested = codes "Nested"
kind_text kind.NoEnd = codes "NoEnd"
kind_text kind.BlockFull = codes "BlockFull"
kind_text kind.TooManyLines = codes "TooManyLines"
kind_text kind.NotInBlock = codes "NotInBlock"

abbrev pub script_text : ScriptFault → List ℕ
script_text fault = codes "script line " ++ (decimal fault.line ++ (codes ": " ++ (kind_text fault.kind ++ newline)))

abbrev pub schedule_text : ScheduleFault → List ℕ
schedule_text fault = schedule_fault_text fault ++ newline

abbrev pub read_text : List ℕ → List ℕ
read_text name = codes "cannot read " ++ (name ++ newline)

abbrev pub too_long_text : List ℕ → List ℕ
too_long_text name = codes "too long: " ++ (name ++ newline)

-- The steps of a run, and plans of them.

-- A file is read, and gives this; or it is asked for, and gives nothing; or its read fails. A line has run, and came to
-- this; its text is written; or another text is
pub data Step : Type 0 where
  Ask : (name content : List ℕ) → Step
  Seek : (name : List ℕ) → Step
  Miss : (name : List ℕ) → Step
  End : (trace : LineTrace) → Step
  Print : (text : List ℕ) → Step
  Write : (text : List ℕ) → Step

-- whether a line of the script ends there, or its text is written
abbrev pub is_of_line : Step → Bool
is_of_line (Ask name content) = false
is_of_line (Seek name) = false
is_of_line (Miss name) = false
is_of_line (End trace) = true
is_of_line (Print text) = true
is_of_line (Write text) = false

-- the steps of a run, and the status that it ends with
pub record Plan : Type 0 where
  pub steps : List Step
  pub status : ℕ

abbrev pub plan : List Step → ℕ → Plan
plan steps status = record { steps = steps; status = status }

-- steps, and then a plan
abbrev pub plan_behind : List Step → Plan → Plan
plan_behind steps rest = plan (steps ++ rest.steps) rest.status

-- a run ends with a text of its own and a status
abbrev pub ending : ℕ → List ℕ → Plan
ending status text = plan (Write text ∷ []) status

-- a run reads no file of more than 64 MiB
abbrev pub is_too_long : List ℕ → Bool
is_too_long content = nat_lt LONGEST_FILE (length content)

-- a file that gave this is read before the rest of a plan; one that is too long ends the run
abbrev pub read_plan : List ℕ → List ℕ → Plan → Plan
read_plan name content rest =
    plan_behind (Ask name content ∷ []) (if is_too_long content then ending 8 (too_long_text name) else rest)

-- nothing more, for want of memory
abbrev pub starved_plan : Plan
starved_plan = plan [] 6

-- A file is read, by what the next of the reads gave, and the rest goes by that and by those behind it; where there is no
-- other read, the file is asked for, and nothing comes of it
abbrev pub next_read : Files → List ℕ → (List ℕ → Files → Plan) → Plan
next_read [] name rest = plan (Seek name ∷ []) 6
next_read (read ∷ reads) name rest = read_plan name read.1 (rest read.1 reads)

-- the status of a run that came to its end: whether a line was refused
abbrev pub end_status : Bool → ℕ
end_status true = 7
end_status false = 0
