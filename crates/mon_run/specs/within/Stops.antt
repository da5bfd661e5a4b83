-- How a part of a run leaves it: it did its steps, or it stopped.
use Rattle.std.specs.Prelude.{◌≡◌, ◌≤◌, ◌<◌, ◌⊎◌, ℕ, Bool, true, false, List, [], ◌∷◌, ◌++◌, length, Option, IfSome}
use Rattle.std.specs.Prelude.{None, Some, Result, Ok, Err, IfOk, IfErr}
use Rattle.std.specs.Bool.{⊤}
use Rattle.mon_value.specs.declared.histories.Histories.{Histories}
use Rattle.mon_value.specs.declared.refusals.Refusal.{Refusal}
use Rattle.mon_value.specs.declared.refusals.Refusal.TheVariants as refusal
use Rattle.mon_config.specs.Configs.{config_in}
use Rattle.mon_config.specs.declared.config.Config.{Config}
use Rattle.mon_config.specs.declared.faults.ConfigFault.{ConfigFault}
use Rattle.mon_script.specs.declared.faults.ScriptFault.{ScriptFault}
use Rattle.mon_run.specs.Endings.{CutShort, Did, LastFailed, Progress, Starved, progress, seen_by}
use Rattle.mon_run.specs.Steps.{Rose, Ask, Miss, Plan, Seek, Step, Write, end_status, ending, is_too_long, next_read}
use Rattle.mon_run.specs.Steps.{plan_behind, config_text, read_text, schedule_text, script_text, too_long_text}
use Rattle.mon_run.specs.Steps.{usage_text}
use Rattle.mon_run.specs.Outside.{Files, FolderState, SinkState}
use Rattle.mon_run.specs.Plans.{Came, Command, came, command, command_plan, file_plan, run_plan}
use Rattle.mon_run.specs.declared.runs.Run.{Run}
use Rattle.mon_run.specs.declared.schedules.Woven.{Woven}
use Rattle.mon_run.specs.declared.stop.Stop.{Stop}
use Rattle.mon_run.specs.declared.stop.Stop.TheVariants as stop
use Rattle.mon_run.specs.declared.words.Verb.{Verb}
use Rattle.run_traces.specs.declared.traces.LineTrace.{LineTrace}
use Rattle.weave_core.specs.Schedules.{Printed}

-- ---- runs

-- the counts of faults never fall
pub record Counts (before after : Progress) : Type 0 where
  pub reads : before.folder.faults ≤ after.folder.faults
  pub writes : before.sink.faults ≤ after.sink.faults

-- what the script's caller had seen at its end, once that was noted
abbrev pub noted : {F O : Type 0} → Run F O → Option Histories
noted run = seen_by run.log.now.ended

module _ {F O : Type 0} (folder : F → FolderState) (sink : O → SinkState) where
  -- what a run has come to
  abbrev pub seen : Run F O → Progress
  seen run = progress (folder run.folder.now) (sink run.out.now) run.log.now.traces.items

  -- what holds of all that a run had come to before and has come to after, and where it stops
  abbrev pub Between : (Progress → Progress → Type 0) → Run F O → Run F O → Type 0
  Between claim before after = claim (seen before) (seen after)

  abbrev pub StopsBetween : (Stop → Progress → Progress → Type 0) → Run F O → Run F O → Stop → Type 0
  StopsBetween claim before after = λ stopped. claim stopped (seen before) (seen after)

  -- a part of a run goes on where the run was: it reads of the same folder, writes to the same sink and notes in
  -- the same log, and no count of faults falls
  pub record Continues (before after : Run F O) : Type 0 where
    pub folder_kept : after.folder.ghost_name ≡ before.folder.ghost_name
    pub out_kept : after.out.ghost_name ≡ before.out.ghost_name
    pub log_kept : after.log.ghost_name ≡ before.log.ghost_name
    pub counts : Counts (seen before) (seen after)

-- ---- stops

abbrev pub status_of : Stop → ℕ
status_of stop.Usage = 1
status_of (stop.Config fault) = 2
status_of (stop.Script fault) = 3
status_of (stop.Schedule fault) = 3
status_of (stop.CannotRead name) = 4
status_of stop.WriteFailed = 5
status_of stop.OutOfMemory = 6
status_of (stop.TooLong name) = 8

-- the text of its own that a run ends with
abbrev pub own_text : Stop → List ℕ
own_text stop.Usage = usage_text
own_text (stop.Config fault) = config_text fault
own_text (stop.Script fault) = script_text fault
own_text (stop.Schedule fault) = schedule_text fault
own_text (stop.CannotRead name) = read_text name
own_text stop.WriteFailed = []
own_text stop.OutOfMemory = []
own_text (stop.TooLong name) = too_long_text name

-- a run that stopped by a failed write or for want of memory says nothing
abbrev pub is_silent : Stop → Bool
is_silent stop.Usage = false
is_silent (stop.Config fault) = false
is_silent (stop.Script fault) = false
is_silent (stop.Schedule fault) = false
is_silent (stop.CannotRead name) = false
is_silent stop.WriteFailed = true
is_silent stop.OutOfMemory = true
is_silent (stop.TooLong name) = false

-- a configuration or a script that is refused stops a run
abbrev pub config_stop : Refusal ConfigFault → Stop
config_stop (refusal.Fault fault) = stop.Config fault
config_stop refusal.OutOfMemory = stop.OutOfMemory

abbrev pub script_stop : Refusal ScriptFault → Stop
script_stop (refusal.Fault fault) = stop.Script fault
script_stop refusal.OutOfMemory = stop.OutOfMemory

-- ---- where a run stops in its plan

-- at its own text, which is still to be written
pub record StopsBefore (plan : Plan) (status : ℕ) (text : List ℕ) (before after : Progress) : Type 0 where
  pub done : List Step
  pub split : plan ≡ plan_behind done (ending status text)
  pub did : Did done before after

-- at a read that failed
pub record StopsAtRead (steps : List Step) (name : List ℕ) (before after : Progress) : Type 0 where
  pub done : List Step
  pub left : List Step
  pub split : steps ≡ done ++ Seek name ∷ left
  pub did : Did (done ++ Miss name ∷ []) before after

abbrev pub Stops : Plan → Stop → Progress → Progress → Type 0
Stops plan (stop.CannotRead name) before after = StopsAtRead plan.steps name before after
Stops plan stop.WriteFailed before after = CutShort plan.steps before after
Stops plan stop.OutOfMemory before after = Starved plan.steps before after
Stops plan stop.Usage before after = StopsBefore plan 1 usage_text before after
Stops plan (stop.Config fault) before after = StopsBefore plan 2 (config_text fault) before after
Stops plan (stop.Script fault) before after = StopsBefore plan 3 (script_text fault) before after
Stops plan (stop.Schedule fault) before after = StopsBefore plan 3 (schedule_text fault) before after
Stops plan (stop.TooLong name) before after = StopsBefore plan 8 (too_long_text name) before after

-- why, over any folder and sink: the last read failed, or a write did
abbrev pub Causes : Stop → Progress → Progress → Type 0
Causes (stop.CannotRead name) before after = (after.folder.last ≡ name) × LastFailed before.folder after.folder
Causes stop.WriteFailed before after = Rose before.sink.faults after.sink.faults
Causes stop.OutOfMemory before after = ⊤
Causes stop.Usage before after = ⊤
Causes (stop.Config fault) before after = ⊤
Causes (stop.Script fault) before after = ⊤
Causes (stop.Schedule fault) before after = ⊤
Causes (stop.TooLong name) before after = ⊤

-- ---- parts of a run

-- a plan stops, and there is a cause
pub record Halts (p : Plan) (stopped : Stop) (before after : Progress) : Type 0 where
  pub stops : Stops p stopped before after
  pub causes : Causes stopped before after

-- by what was read of the folder, a plan stops
pub record HaltsBy (plan : Files → Plan) (stopped : Stop) (before after : Progress) : Type 0 where
  pub reads : Files
  pub gave : after.folder.gave ≡ before.folder.gave ++ reads
  pub halts : Halts (plan reads) stopped before after

-- a read stops, whatever comes behind it
abbrev pub ReadStops : List ℕ → Stop → Progress → Progress → Type 0
ReadStops name stopped before after =
    (rest : List ℕ → Files → Plan) → HaltsBy (λ reads. next_read reads name rest) stopped before after

-- a part of a plan was done, before any rest
pub record Ran (part : Plan → Plan) (before after : Progress) : Type 0 where
  pub steps : List Step
  pub same : (rest : Plan) → part rest ≡ plan_behind steps rest
  pub did : Did steps before after

-- all of a plan was done, and its status says whether a line was refused
pub record Done (plan : Plan) (refused : Bool) (before after : Progress) : Type 0 where
  pub status : end_status refused ≡ plan.status
  pub did : Did plan.steps before after

-- a part of a run did all that its plan says, or stops in it
pub record Ends (p : Plan) (ended : Result Bool Stop) (before after : Progress) : Type 0 where
  pub completes : IfOk ended (λ refused. Done p refused before after)
  pub halts : IfErr ended (λ stopped. Halts p stopped before after)

-- what the lines of a script tell of what its caller had seen at the end, or early
abbrev pub Tells : Type 1
Tells = Type 0 → Files → Histories → List LineTrace → Type 0

-- By what was read of the folder, a part of a run ends so, a schedule printed something that it may, and lines over a
-- store tell what they should
pub record Weaves (plan : Came → Files → Plan) (may : Files → Printed → Type 0) (tells : Tells)
    (known : Option Histories) (ended : Result Bool Stop) (before after : Progress) : Type 0 where
  pub reads : Files
  pub gave : after.folder.gave ≡ before.folder.gave ++ reads
  pub woven : Option Printed
  pub printed : IfSome woven (may reads)
  pub told : IfSome known (λ histories. tells (ended ≡ Err stop.OutOfMemory) reads histories after.ends)
  pub ends : Ends (plan (came woven known after.ends) reads) ended before after

-- a file was read, and is this configuration
pub record HasConfig (name : List ℕ) (config : Config) (before after : Progress) : Type 0 where
  pub content : List ℕ
  pub short : is_too_long content ≡ false
  pub is : config_in content ≡ Ok config
  pub did : Did (Ask name content ∷ []) before after

-- what a schedule printed, and the first of its lines that is refused
abbrev pub printed_by : Woven → Printed
printed_by woven = record { text = woven.text; fault = woven.fault }

-- the plan of a command
abbrev pub files_plan : Command → Came → Files → Plan
files_plan what of reads = command_plan of reads (Some what)

-- the configuration of a command stops it, whatever it does with which second file
abbrev pub ConfigStops : List ℕ → Stop → Progress → Progress → Type 0
ConfigStops name stopped before after =
    (verb : Verb) (file : List ℕ) (of : Came) → HaltsBy (files_plan (command verb name file) of) stopped before after

-- the second file of a command, under a configuration
abbrev pub named_plan : Config → Verb → List ℕ → Came → Files → Plan
named_plan config verb name of reads = next_read reads name (file_plan of config verb)

abbrev pub words_plan : List (List ℕ) → Came → Files → Plan
words_plan words of reads = run_plan of reads words

-- a text was taken in part: a front, and not all
pub record WroteFront (text : List ℕ) (before after : Progress) : Type 0 where
  pub front : List ℕ
  pub rest : List ℕ
  pub split : text ≡ front ++ rest
  pub some : 0 < length rest
  pub did : Did (Write front ∷ []) before after

-- a write of a text stops: the sink failed behind a front of it
pub record WriteStops (text : List ℕ) (stopped : Stop) (before after : Progress) : Type 0 where
  pub failed : stopped ≡ stop.WriteFailed
  pub front : WroteFront text before after
  pub rose : Rose before.sink.faults after.sink.faults

-- ---- the end of a run

-- a text is written and a run has its status; or the text was taken in part (status 5); or memory ran out (status 6)
abbrev pub SaysText : ℕ → List ℕ → ℕ → Progress → Progress → Type 0
SaysText code text status before after =
    ((status ≡ code) × Did (Write text ∷ []) before after)
    ⊎ (((status ≡ 5) × WroteFront text before after × Rose before.sink.faults after.sink.faults)
    ⊎ ((status ≡ 6) × Did [] before after))

-- a run says its own text, and has the status of its stop
abbrev pub Says : Stop → ℕ → Progress → Progress → Type 0
Says stopped status before after = SaysText (status_of stopped) (own_text stopped) status before after

-- a run that stopped by a failed write or for want of memory says nothing
abbrev pub Closes : Result Bool Stop → ℕ → Progress → Progress → Type 0
Closes (Ok refused) status before after = (status ≡ end_status refused) × Did [] before after
Closes (Err stop.WriteFailed) status before after = (status ≡ 5) × Did [] before after
Closes (Err stop.OutOfMemory) status before after = (status ≡ 6) × Did [] before after
Closes (Err stop.Usage) status before after = Says stop.Usage status before after
Closes (Err (stop.Config fault)) status before after = Says (stop.Config fault) status before after
Closes (Err (stop.Script fault)) status before after = Says (stop.Script fault) status before after
Closes (Err (stop.Schedule fault)) status before after = Says (stop.Schedule fault) status before after
Closes (Err (stop.CannotRead name)) status before after = Says (stop.CannotRead name) status before after
Closes (Err (stop.TooLong name)) status before after = Says (stop.TooLong name) status before after
