-- What a run does, step by step, where no read and no write fails and memory is there.
use Rattle.std.specs.Prelude.{ℕ, List, [], ◌∷◌, ◌++◌, drop, length, map, take, Option, Some, None, Result, Ok, Err}
use Rattle.std.specs.Prelude.{if◌then◌else◌, ◌≡◌, ◌^◌, nat_lt, ◌&&◌, false, codes, option_map}
use Rattle.std.specs.Str.{all_ascii_digits}
use Rattle.std.specs.Str.Parse.{digits_value}
use Rattle.mon_config.specs.declared.config.Config.{Config}
use Rattle.mon_script.specs.Blocks.{ends_block, mark_of}
use Rattle.mon_script.specs.declared.faults.ScriptFault.{ScriptFault}
use Rattle.mon_script.specs.declared.forms.LineForm.{LineForm}
use Rattle.mon_script.specs.declared.places.Mark.{Mark}
use Rattle.mon_script.specs.declared.places.Mark.TheVariants as mark
use Rattle.mon_script.specs.declared.script.ScriptLine.{ScriptLine}
use Rattle.mon_value.specs.declared.histories.Histories.{Histories}
use Rattle.run_theory.specs.Parts.{Alone, Beside, Part}
use Rattle.run_traces.specs.LineAsks.{FileNames, files_of}
use Rattle.run_traces.specs.LineDues.{lines_status}
use Rattle.run_traces.specs.LineTexts.{line_text}
use Rattle.run_traces.specs.RanLines.{RanLine, parts_of, ran_lines}
use Rattle.run_traces.specs.declared.line_files.LineFiles.{LineFiles}
use Rattle.run_traces.specs.declared.traces.LineTrace.{LineTrace}
use Rattle.run_traces.specs.declared.traces.LineTrace.TheVariants as a_trace
use Rattle.mon_value.specs.Same.{same_text}
use Rattle.mon_config.specs.Configs.{config_in}
use Rattle.mon_config.specs.declared.faults.ConfigFault.{ConfigFault}
use Rattle.mon_script.specs.Made.{made_pieces}
use Rattle.mon_script.specs.Scripts.{script_in}
use Rattle.weave_core.specs.Schedules.{IsPrinted, Printed}
use Rattle.schedule_lines.specs.declared.calls.ScheduleFault.{ScheduleFault}
use Rattle.mon_run.specs.Outside.{Files}
use Rattle.mon_run.specs.Steps.{End, Plan, Print, Step, Write, ending, next_read, plan, plan_behind, read_plan}
use Rattle.mon_run.specs.Steps.{config_text, end_status, schedule_text, script_text, starved_plan, usage_text}
use Rattle.mon_run.specs.declared.words.Verb.{Verb}
use Rattle.mon_run.specs.declared.words.Verb.TheVariants as verb

-- What a run of a script does, step by step: by its lines, the files, what the lines came to, and the histories at the
-- end.

-- the lines of a block end, with what begins and what ends it, and then their texts are written
abbrev pub block_steps : (RanLine → List ℕ) → List RanLine → List Step
block_steps text lines = End a_trace.Done ∷ (map (λ line. End line.trace) lines ++ End a_trace.Done
    ∷ map (λ line. Print (text line)) lines)

-- what lines say
abbrev pub forms_of : List ScriptLine → List LineForm
forms_of = map (λ line. line.what)

-- ---- the files of lines that ran

abbrev pub one_read : Option (List ℕ) → List ℕ → Plan → Plan
one_read None content rest = rest
one_read (Some name) content rest = read_plan name content rest

-- the first file, and then the second
abbrev pub named_read : FileNames → LineFiles → Plan → Plan
named_read names content rest = one_read names.first content.first (one_read names.second content.second rest)

-- the files that a line names, and which held this, are read before the rest
abbrev pub line_read : LineForm → LineFiles → Plan → Plan
line_read what = named_read (files_of what)

-- the files of lines, in line order
abbrev pub lines_read : List LineForm → List LineFiles → Plan → Plan
lines_read [] contents rest = rest
lines_read (what ∷ forms) [] rest = rest
lines_read (what ∷ forms) (content ∷ contents) rest = line_read what content (lines_read forms contents rest)

-- ---- what reads gave, line by line

abbrev pub one_next : Option (List ℕ) → Files → (List ℕ → Files → List LineFiles) → List LineFiles
one_next None reads rest = rest [] reads
one_next (Some name) [] rest = []
one_next (Some name) (read ∷ reads) rest = rest read.1 reads

abbrev pub content_next : FileNames → Files → (Files → List LineFiles) → List LineFiles
content_next names reads rest = one_next names.first reads
    (λ one left. one_next names.second left (λ other behind. record { first = one; second = other } ∷ rest behind))

-- what the files of each line held: what the next of the reads gave, where the line names files, as far as they go
abbrev pub contents_of : List LineForm → Files → List LineFiles
contents_of [] reads = []
contents_of (what ∷ forms) reads = content_next (files_of what) reads (contents_of forms)

-- the reads behind the first
abbrev pub behind_first : Files → Files
behind_first [] = []
behind_first (read ∷ reads) = reads

abbrev pub one_behind : Option (List ℕ) → Files → (Files → Files) → Files
one_behind None reads rest = rest reads
one_behind (Some name) reads rest = rest (behind_first reads)

abbrev pub reads_next : FileNames → Files → (Files → Files) → Files
reads_next names reads rest = one_behind names.first reads (λ left. one_behind names.second left rest)

-- the reads behind those of lines
abbrev pub reads_behind : List LineForm → Files → Files
reads_behind [] reads = reads
reads_behind (what ∷ forms) reads = reads_next (files_of what) reads (reads_behind forms)

-- ---- lines that are left

abbrev pub seek_one : Option (List ℕ) → Files → (Files → Plan) → Plan
seek_one None reads rest = rest reads
seek_one (Some name) reads rest = next_read reads name (λ content. rest)

abbrev pub seek : FileNames → Files → (Files → Plan) → Plan
seek names reads rest = seek_one names.first reads (λ left. seek_one names.second left rest)

-- the files of lines are read, in line order, and then memory runs out
abbrev pub sought : List LineForm → Files → Plan
sought [] reads = starved_plan
sought (what ∷ forms) reads = seek (files_of what) reads (sought forms)

-- what the lines of a block say, up to its end
abbrev pub block_forms : List ScriptLine → List LineForm
block_forms [] = []
block_forms (line ∷ lines) = if ends_block line then [] else line.what ∷ block_forms lines

-- what the lines of the next part say: a line alone, or the lines of a block
abbrev pub next_forms : Mark → LineForm → List ScriptLine → List LineForm
next_forms mark.Opens what lines = block_forms lines
next_forms mark.Closes what lines = []
next_forms mark.Acts what lines = what ∷ []
next_forms mark.Lone what lines = what ∷ []

-- where all lines ran, the run has a status; else the files of the next line or block are read, and memory runs out
abbrev pub left_plan : ℕ → List ScriptLine → Files → Plan
left_plan status [] reads = plan [] status
left_plan status (line ∷ lines) reads = sought (next_forms (mark_of line.what) line.what lines) reads

-- ---- lines that ran

module _ (text : RanLine → List ℕ) where
  -- the files of a part are read, its lines end, and their texts are written, before the rest
  abbrev pub part_plan : Part RanLine → Plan → Plan
  part_plan (Alone line) rest =
      line_read line.what line.content (plan_behind (End line.trace ∷ Print (text line) ∷ []) rest)
  part_plan (Beside lines) rest =
      lines_read (map (λ line. line.what) lines) (map (λ line. line.content) lines)
      (plan_behind (block_steps text lines) rest)

  abbrev pub parts_plan : List (Part RanLine) → Plan → Plan
  parts_plan [] rest = rest
  parts_plan (part ∷ parts) rest = part_plan part (parts_plan parts rest)

-- ---- scripts

module _ (config : Config) (reads : Files) where
  -- the lines that ran, by what the reads gave; neither their plan nor their status asks for the places of their entries
  abbrev pub lines_by : List ScriptLine → List LineTrace → List RanLine
  lines_by lines traces = ran_lines lines (contents_of (forms_of lines) reads) traces []

  -- the lines that ran, and those that are left
  abbrev pub lines_plan : Histories → ℕ → List ScriptLine → List LineTrace → Plan
  lines_plan ended status lines traces =
      parts_plan (line_text config ended) (parts_of (lines_by lines traces))
      (left_plan status (drop (length traces) lines) (reads_behind (forms_of (take (length traces) lines)) reads))

  -- the lines of a script, where a store was made
  abbrev pub store_plan : Option Histories → List ScriptLine → List LineTrace → Plan
  store_plan None lines traces = starved_plan
  store_plan (Some ended) lines traces = lines_plan ended (lines_status (lines_by lines traces)) lines traces

  abbrev pub script_plan : Option Histories → List LineTrace → Result (List ScriptLine) ScriptFault → Plan
  script_plan ended traces (Err fault) = ending 3 (script_text fault)
  script_plan ended traces (Ok script) = store_plan ended script traces

-- What a run does, step by step, where no read and no write fails and memory is there.

-- ---- words

-- a command: what it does with its second file, and the names of its configuration and of that file
pub record Command : Type 0 where
  pub verb : Verb
  pub config : List ℕ
  pub file : List ℕ

abbrev pub command : Verb → List ℕ → List ℕ → Command
command what config file = record { verb = what; config = config; file = file }

abbrev pub verb_named : List ℕ → Option Verb
verb_named word =
    if same_text word (codes "run") then Some verb.Run
    else if same_text word (codes "weave") then Some verb.Weave else None

-- `run`, a configuration's file and a script's; or `weave`, a configuration's and a schedule's
abbrev pub command_of : List (List ℕ) → Option Command
command_of (word ∷ config ∷ file ∷ []) = option_map (λ what. command what config file) (verb_named word)
command_of words = None

-- ---- what came of a run

-- what its schedule printed, if it came to its end; what its script's caller had seen at the end, if a store was made;
-- and what the lines that ran came to
pub record Came : Type 0 where
  pub woven : Option Printed
  pub ended : Option Histories
  pub traces : List LineTrace

abbrev pub came : Option Printed → Option Histories → List LineTrace → Came
came woven ended traces = record { woven = woven; ended = ended; traces = traces }

-- ---- schedules

-- a schedule runs to its end, or a line of it is refused, and the run says so
abbrev pub schedule_end : Option ScheduleFault → Plan
schedule_end None = plan [] (end_status false)
schedule_end (Some fault) = ending 3 (schedule_text fault)

-- what a schedule printed is written; where memory ran out before its end, nothing of it is
abbrev pub schedule_plan : Option Printed → Plan
schedule_plan None = plan [] 6
schedule_plan (Some woven) = plan_behind (Write woven.text ∷ []) (schedule_end woven.fault)

-- what the first of the reads gave
abbrev pub first_content : Files → List ℕ
first_content [] = []
first_content (read ∷ reads) = read.1

-- a schedule printed this, under its configuration: the second file that was read, and the first
abbrev pub IsWovenBy : Files → Printed → Type 0
IsWovenBy reads woven =
    (config : Config) → config_in (first_content reads) ≡ Ok config
    → IsPrinted config (first_content (behind_first reads)) woven

-- ---- made input

-- the number that a word of one or more digits spells, where that is below 2 ^ 64
abbrev pub number_in : List ℕ → Option ℕ
number_in word =
    if nat_lt 0 (length word) && (all_ascii_digits word && nat_lt (digits_value 10 word) (2 ^ 64))
    then Some (digits_value 10 word) else None

-- `gen` and a number
abbrev pub made_number : List (List ℕ) → Option ℕ
made_number (word ∷ number ∷ []) = if same_text word (codes "gen") then number_in number else None
made_number words = None

-- the input of a number is written, piece by piece
abbrev pub made_plan : ℕ → Plan
made_plan number = plan (map (λ piece. Write piece) (made_pieces number)) (end_status false)

-- ---- the whole run, by what came of it

-- the second file, under a configuration, and the reads behind it
abbrev pub file_plan : Came → Config → Verb → List ℕ → Files → Plan
file_plan came config verb.Run content reads =
    script_plan config reads came.ended came.traces (script_in config.topology content)
file_plan came config verb.Weave content reads = schedule_plan came.woven

abbrev pub config_plan : Came → Command → Result Config ConfigFault → Files → Plan
config_plan came what (Err fault) reads = ending 2 (config_text fault)
config_plan came what (Ok config) reads = next_read reads what.file (file_plan came config what.verb)

abbrev pub command_plan : Came → Files → Option Command → Plan
command_plan came reads None = ending 1 usage_text
command_plan came reads (Some what) =
    next_read reads what.config (λ content. config_plan came what (config_in content))

abbrev pub number_plan : Came → Files → Option ℕ → Option Command → Plan
number_plan came reads (Some number) what = made_plan number
number_plan came reads None what = command_plan came reads what

-- what a run of these words does, whose reads gave this
abbrev pub run_plan : Came → Files → List (List ℕ) → Plan
run_plan came reads words = number_plan came reads (made_number words) (command_of words)
