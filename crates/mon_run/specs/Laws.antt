-- What the status of a run says to whoever started it.
use Rattle.std.specs.Prelude.{◌≡◌, ◌⊎◌, ℕ, List, [], ◌++◌, length, Option, Some, None, Ok}
use Rattle.std.specs.List.{flat_map}
use Rattle.mon_config.specs.Configs.{config_in}
use Rattle.mon_config.specs.declared.config.Config.{Config}
use Rattle.mon_script.specs.Scripts.{script_in}
use Rattle.mon_script.specs.declared.script.ScriptLine.{ScriptLine}
use Rattle.mon_value.specs.declared.histories.Histories.{Histories}
use Rattle.mon_run.specs.Endings.{Progress, Runs}
use Rattle.mon_run.specs.Outside.{Files, written_then}
use Rattle.mon_run.specs.Plans.{Command, behind_first, command_of, first_content, lines_by, made_number}
use Rattle.mon_run.specs.Steps.{usage_text}
use Rattle.mon_run.specs.declared.words.Verb.TheVariants as verb
use Rattle.run_theory.specs.Parts.{all_lines}
use Rattle.run_traces.specs.LineDues.{lines_status}
use Rattle.run_traces.specs.LineTexts.{line_text}
use Rattle.run_traces.specs.RanLines.{RanLine, parts_of}

-- the texts of lines that ran, one after another
abbrev pub lines_text : Config → Histories → List RanLine → List ℕ
lines_text config seen lines = flat_map (line_text config seen) (all_lines (parts_of lines))

-- A script came to its end: each of its lines came to something, just their texts were written, and the status says
-- whether one of them was refused. The configuration is the first file that was read, and the script the second
pub record CameToItsEnd (status : ℕ) (ended : Option Histories) (before after : Progress) : Type 0 where
  pub reads : Files
  pub gave : after.folder.gave ≡ before.folder.gave ++ reads
  pub config : Config
  pub config_is : config_in (first_content reads) ≡ Ok config
  pub script : List ScriptLine
  pub script_is : script_in config.topology (first_content (behind_first reads)) ≡ Ok script
  pub seen : Histories
  pub ended_is : ended ≡ Some seen
  pub each : length after.ends ≡ length script
  pub wrote : after.sink.written
      ≡ written_then (lines_text config seen (lines_by config (behind_first (behind_first reads)) script after.ends))
      before.sink.written
  pub status_is : status ≡ lines_status (lines_by config (behind_first (behind_first reads)) script after.ends)

-- the words run a script, and the status is 0 or 7
abbrev pub EndsAreReached : Type 0
EndsAreReached = (words : List (List ℕ)) (what : Command) (status : ℕ) (ended : Option Histories)
    (before after : Progress) → command_of words ≡ Some what → what.verb ≡ verb.Run → before.ends ≡ []
    → Runs words status ended before after → (status ≡ 0) ⊎ (status ≡ 7)
    → CameToItsEnd status ended before after

-- the words were none, so nothing was read, no line came to anything, and the usage was written
pub record WasNone (words : List (List ℕ)) (before after : Progress) : Type 0 where
  pub number : made_number words ≡ None
  pub command : command_of words ≡ None
  pub asked : after.folder.asked ≡ before.folder.asked
  pub ends : after.ends ≡ before.ends
  pub wrote : after.sink.written ≡ written_then usage_text before.sink.written

-- the status is 1
abbrev pub WordsAreNone : Type 0
WordsAreNone = (words : List (List ℕ)) (ended : Option Histories) (before after : Progress)
    → Runs words 1 ended before after → WasNone words before after
