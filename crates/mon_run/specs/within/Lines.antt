-- How the lines of a script run, one part after another.
use Rattle.std.specs.Prelude.{◌≡◌, ◌⊎◌, ℕ, Bool, List, [], ◌∷◌, ◌++◌, drop, length, map, take, Option, IfSome, Result, Err, ◌≤◌}
use Rattle.history_book.specs.Histories.{AreFronts}
use Rattle.mon_config.specs.declared.config.Config.{Config}
use Rattle.mon_script.specs.Scripts.{script_in}
use Rattle.mon_script.specs.declared.forms.LineForm.{LineForm}
use Rattle.mon_script.specs.declared.script.ScriptLine.{ScriptLine}
use Rattle.mon_value.specs.declared.histories.Histories.{Histories}
use Rattle.mon_run.specs.Endings.{Progress, LinesTell, ScriptTells}
use Rattle.mon_run.specs.Outside.{Files}
use Rattle.mon_run.specs.Plans.{behind_first, contents_of, first_content, forms_of, left_plan, lines_read}
use Rattle.mon_run.specs.Plans.{part_plan, parts_plan, reads_behind, script_plan, sought, store_plan}
use Rattle.mon_run.specs.Steps.{Plan, Print, Step, plan_behind}
use Rattle.mon_run.specs.declared.stop.Stop.{Stop}
use Rattle.mon_run.specs.declared.stop.Stop.TheVariants as stop
use Rattle.mon_run.specs.declared.words.Verb.{Verb}
use Rattle.mon_run.specs.declared.words.Verb.TheVariants as verb
use Rattle.mon_run.specs.within.Stops.{Causes, Ends, HaltsBy, Ran, Stops}
use Rattle.run_theory.specs.Parts.{Alone, Beside, Part, lines_of}
use Rattle.run_traces.specs.LineClaims.{AllRan, HaveGrown}
use Rattle.run_traces.specs.LineDues.{asked_part, asked_parts}
use Rattle.run_traces.specs.LineTexts.{line_text}
use Rattle.run_traces.specs.RanLines.{OwnPlace, RanLine, parts_of, ran_lines}
use Rattle.run_traces.specs.declared.line_files.LineFiles.{LineFiles}
use Rattle.run_traces.specs.declared.traces.LineTrace.{LineTrace}
use Rattle.run_traces.specs.declared.traces.LineTrace.TheVariants as came

-- ---- files

-- These reads gave what the files of lines held, in line order, whatever is read behind them; and by them their files are
-- read before any others
pub record HaveGiven (forms : List LineForm) (contents : List LineFiles) (given : Files) : Type 0 where
  pub count : length contents ≡ length forms
  pub held : (others : List LineForm) (more : Files)
      → contents_of (forms ++ others) (given ++ more) ≡ contents ++ contents_of others more
  pub behind : (more : Files) → reads_behind forms (given ++ more) ≡ more
  pub seeks : (others : List LineForm) (more : Files)
      → sought (forms ++ others) (given ++ more) ≡ lines_read forms contents (sought others more)

-- the files of lines were read, and held this
pub record HaveRead (forms : List LineForm) (contents : List LineFiles) (before after : Progress) : Type 0 where
  pub given : Files
  pub gave : after.folder.gave ≡ before.folder.gave ++ given
  pub have : HaveGiven forms contents given
  pub read : Ran (lines_read forms contents) before after

-- those of one line, if it names any
abbrev pub FileRead : LineForm → LineFiles → Progress → Progress → Type 0
FileRead what content before after = HaveRead (what ∷ []) (content ∷ []) before after

abbrev pub FilesRead : List ScriptLine → List LineFiles → Progress → Progress → Type 0
FilesRead lines contents before after = HaveRead (forms_of lines) contents before after

-- a read of a line's files stops, whatever lines come behind it
abbrev pub FileStops : LineForm → Stop → Progress → Progress → Type 0
FileStops what stopped before after =
    (others : List LineForm) → HaltsBy (sought (what ∷ others)) stopped before after

abbrev pub FilesStop : List ScriptLine → Stop → Progress → Progress → Type 0
FilesStop lines stopped before after = HaltsBy (sought (forms_of lines)) stopped before after

-- ---- texts

abbrev pub prints : List (List ℕ) → List Step
prints = map (λ text. Print text)

-- texts stop, before any rest, and there is a cause
pub record TextsStop (texts : List (List ℕ)) (stopped : Stop) (before after : Progress) : Type 0 where
  pub stops : (rest : Plan) → Stops (plan_behind (prints texts) rest) stopped before after
  pub causes : Causes stopped before after

-- ---- lines

-- what lines came to was noted, and nothing else was done
pub record Noted (traces : List LineTrace) (before after : Progress) : Type 0 where
  pub folder : after.folder ≡ before.folder
  pub sink : after.sink ≡ before.sink
  pub ends : after.ends ≡ before.ends ++ traces

-- the parts of lines are those of themselves, whatever stands behind them
abbrev pub StandApart : List RanLine → Type 0
StandApart lines = (more : List RanLine) → parts_of (lines ++ more) ≡ parts_of lines ++ parts_of more

-- lines that ran, by what the reads gave and by the places of their own entries
abbrev pub placed_by : Files → List (List OwnPlace) → List ScriptLine → List LineTrace → List RanLine
placed_by reads places lines traces = ran_lines lines (contents_of (forms_of lines) reads) traces places

module _ (config : Config) where
  -- their plan, and that of those that are left
  abbrev pub placed_plan : Files → List (List OwnPlace) → Histories → ℕ → List ScriptLine → List LineTrace → Plan
  placed_plan reads places later status lines traces =
      parts_plan (line_text config later) (parts_of (placed_by reads places lines traces))
      (left_plan status (drop (length traces) lines) (reads_behind (forms_of (take (length traces) lines)) reads))

  -- Lines ran, from what the script's caller had seen to what it has seen: what they came to was noted; they ran in
  -- their places, behind whatever ran before, each with the places of its own entries; and what they print is so over
  -- all that is seen later
  pub record LinesRan (lines : List ScriptLine) (from known : Histories) (before after : Progress) : Type 0 where
    pub contents : List LineFiles
    pub traces : List LineTrace
    pub places : List (List OwnPlace)
    pub ends : after.ends ≡ before.ends ++ traces
    pub count : length traces ≡ length lines
    pub placed : length places ≡ length lines
    pub given : Files
    pub gave : after.folder.gave ≡ before.folder.gave ++ given
    pub have : HaveGiven (forms_of lines) contents given
    pub apart : StandApart (ran_lines lines contents traces places)
    pub grown : HaveGrown from known
    pub ran : (parts : List (Part RanLine)) → AllRan config from parts
        → AllRan config known (parts ++ asked_parts (parts_of (ran_lines lines contents traces places)))
    pub did : (later : Histories) → HaveGrown known later
        → Ran (parts_plan (line_text config later) (parts_of (ran_lines lines contents traces places))) before after

  -- Lines stopped: those that ran did so, and the run stopped in what their plan says over all that is seen later.
  -- Where memory ran out, more may have been seen in the end than the lines that ran had seen
  pub record LinesStopped (lines : List ScriptLine) (stopped : Stop) (from ended : Histories)
      (before after : Progress) : Type 0 where
    pub traces : List LineTrace
    pub places : List (List OwnPlace)
    pub ends : after.ends ≡ before.ends ++ traces
    pub few : length traces ≤ length lines
    pub reads : Files
    pub gave : after.folder.gave ≡ before.folder.gave ++ reads
    pub known : Histories
    pub grown : HaveGrown from known
    pub front : AreFronts known ended
    pub whole : (stopped ≡ stop.OutOfMemory) ⊎ (known ≡ ended)
    pub ran : (parts : List (Part RanLine)) → AllRan config from parts
        → AllRan config known (parts ++ asked_parts (parts_of (placed_by reads places lines traces)))
    pub stops : (later : Histories) → HaveGrown known later → (status : ℕ)
        → Stops (placed_plan reads places later status lines traces) stopped before after

  -- the lines up to some that are left ran
  pub record LinesRanTo (lines left : List ScriptLine) (from known : Histories) (before after : Progress) : Type 0
    where
      pub part : List ScriptLine
      pub split : lines ≡ part ++ left
      pub ran : LinesRan part from known before after

-- lines stopped, and there is a cause
pub record LinesHalt (config : Config) (lines : List ScriptLine) (from ended : Histories) (stopped : Stop)
    (before after : Progress) : Type 0 where
  pub told : LinesStopped config lines stopped from ended before after
  pub causes : Causes stopped before after

-- ---- parts

-- what the lines of a part say, and what their files held
abbrev pub part_forms : Part RanLine → List LineForm
part_forms part = map (λ (line : RanLine). line.what) (lines_of part)

abbrev pub part_contents : Part RanLine → List LineFiles
part_contents part = map (λ (line : RanLine). line.content) (lines_of part)

module _ (config : Config) (part : Part RanLine) (traces : List LineTrace) (from known : Histories)
    (before after : Progress) where
  -- what the lines of a part came to was noted, and they ran in their place, behind whatever ran before
  pub record PartDone : Type 0 where
    pub ends : after.ends ≡ before.ends ++ traces
    pub given : Files
    pub gave : after.folder.gave ≡ before.folder.gave ++ given
    pub have : HaveGiven (part_forms part) (part_contents part) given
    pub grown : HaveGrown from known
    pub ran : (parts : List (Part RanLine)) → AllRan config from parts → AllRan config known (parts ++ asked_part part)

  -- all of it was done, and what its lines print is so over all that is seen later
  pub record PartWent : Type 0 where
    pub done : PartDone
    pub did : (later : Histories) → HaveGrown known later
        → Ran (part_plan (line_text config later) part) before after

  -- the run stopped in its texts
  pub record PartCut (stopped : Stop) : Type 0 where
    pub done : PartDone
    pub stops : (later : Histories) → HaveGrown known later → (rest : Plan)
        → Stops (part_plan (line_text config later) part rest) stopped before after

-- A run stopped in front of what a part came to: in the reads of its files, or for want of memory, where more may have
-- been seen
pub record StoppedEarly (forms : List LineForm) (from ended : Histories) (stopped : Stop) (before after : Progress)
    : Type 0 where
  pub ends : after.ends ≡ before.ends
  pub front : AreFronts from ended
  pub whole : (stopped ≡ stop.OutOfMemory) ⊎ (from ≡ ended)
  pub halts : HaltsBy (sought forms) stopped before after

-- ---- a line alone

-- what a line is that came to something
abbrev pub alone_in : LineForm → LineFiles → LineTrace → List OwnPlace → Part RanLine
alone_in what content trace own = Alone (record { what = what; content = content; trace = trace; own = own })

pub record AloneRan (config : Config) (what : LineForm) (from known : Histories) (before after : Progress) : Type 0
  where
    pub content : LineFiles
    pub trace : LineTrace
    pub own : List OwnPlace
    pub went : PartWent config (alone_in what content trace own) (trace ∷ []) from known before after

pub record AloneCut (config : Config) (what : LineForm) (from ended : Histories) (stopped : Stop)
    (before after : Progress) : Type 0 where
  pub content : LineFiles
  pub trace : LineTrace
  pub own : List OwnPlace
  pub cut : PartCut config (alone_in what content trace own) (trace ∷ []) from ended before after stopped

pub record AloneHalts (config : Config) (what : LineForm) (from ended : Histories) (stopped : Stop)
    (before after : Progress) : Type 0 where
  pub told : StoppedEarly (what ∷ []) from ended stopped before after
      ⊎ AloneCut config what from ended stopped before after
  pub causes : Causes stopped before after

-- ---- a block

-- what the lines of a block came to, with what begins it and what ends it
abbrev pub block_traces : List LineTrace → List LineTrace
block_traces traces = came.Done ∷ (traces ++ came.Done ∷ [])

abbrev pub block_in : List ScriptLine → List LineFiles → List LineTrace → List (List OwnPlace) → Part RanLine
block_in lines contents traces places = Beside (ran_lines lines contents traces places)

pub record BlockRan (config : Config) (lines : List ScriptLine) (from known : Histories) (before after : Progress)
    : Type 0 where
  pub contents : List LineFiles
  pub traces : List LineTrace
  pub places : List (List OwnPlace)
  pub held : length contents ≡ length lines
  pub count : length traces ≡ length lines
  pub placed : length places ≡ length lines
  pub went : PartWent config (block_in lines contents traces places) (block_traces traces) from known before after

pub record BlockCut (config : Config) (lines : List ScriptLine) (from ended : Histories) (stopped : Stop)
    (before after : Progress) : Type 0 where
  pub contents : List LineFiles
  pub traces : List LineTrace
  pub places : List (List OwnPlace)
  pub held : length contents ≡ length lines
  pub count : length traces ≡ length lines
  pub placed : length places ≡ length lines
  pub cut : PartCut config (block_in lines contents traces places) (block_traces traces) from ended before after stopped

pub record BlockHalts (config : Config) (lines : List ScriptLine) (from ended : Histories) (stopped : Stop)
    (before after : Progress) : Type 0 where
  pub told : StoppedEarly (forms_of lines) from ended stopped before after
      ⊎ BlockCut config lines from ended stopped before after
  pub causes : Causes stopped before after

-- ---- a script

-- By what was read of the folder, the lines of a script ended so, and what they came to is told of what the script's
-- caller had seen at its end
pub record ScriptEnds (config : Config) (lines : List ScriptLine) (known : Option Histories)
    (ended : Result Bool Stop) (before after : Progress) : Type 0 where
  pub reads : Files
  pub gave : after.folder.gave ≡ before.folder.gave ++ reads
  pub ends : Ends (store_plan config reads known lines after.ends) ended before after
  pub tells : IfSome known
      (λ histories. LinesTell (ended ≡ Err stop.OutOfMemory) config reads lines histories after.ends)

-- so did a text that is read as one
pub record TextEnds (config : Config) (text : List ℕ) (known : Option Histories) (ended : Result Bool Stop)
    (before after : Progress) : Type 0 where
  pub reads : Files
  pub gave : after.folder.gave ≡ before.folder.gave ++ reads
  pub ends : Ends (script_plan config reads known after.ends (script_in config.topology text)) ended before after
  pub tells : IfSome known
      (λ histories. ScriptTells config text (ended ≡ Err stop.OutOfMemory) reads histories after.ends)

-- a text that is run as a script
abbrev pub TextTells : Verb → Config → List ℕ → Type 0 → Files → Histories → List LineTrace → Type 0
TextTells what config text early reads ended traces =
    (what ≡ verb.Run) × ScriptTells config text early reads ended traces

abbrev pub NamedTells : Verb → Config → Type 0 → Files → Histories → List LineTrace → Type 0
NamedTells what config early reads ended traces =
    TextTells what config (first_content reads) early (behind_first reads) ended traces
