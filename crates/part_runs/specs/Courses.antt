-- The lines of a block on their way, each under a caller of its own.
use Rattle.std.specs.Prelude.{◌≡◌, ℕ, zero, suc, List, [], ◌∷◌, ◌++◌, length, Option, None, IfSome, slice_get, Some}
use Rattle.std.specs.Prelude.{option_to_list}
use Rattle.history_book.specs.Histories.{AreFronts}
use Rattle.know.specs.Knowledge.{Knowledge, after_numbering, meeting, numbered_knowledge}
use Rattle.line_runs.specs.LineWrites.{LineRanSo}
use Rattle.line_runs.specs.declared.lines.LineRan.{LineRan}
use Rattle.mon_config.specs.declared.config.Config.{Config}
use Rattle.mon_store.specs.Passes.{IsPass}
use Rattle.mon_topo.specs.HeldHistories.{AreHeld}
use Rattle.mon_topo.specs.Settings.{Setting}
use Rattle.mon_script.specs.declared.forms.LineForm.{LineForm}
use Rattle.mon_script.specs.declared.script.ScriptLine.{ScriptLine}
use Rattle.run_traces.specs.declared.line_files.LineFiles.{LineFiles}

-- what the caller of a line knows, and what the line came to, once it has run and memory was enough
pub record Way : Type 0 where
  pub know : Knowledge
  pub done : Option LineRan

-- ---- as the lines begin

-- so many callers, one split off after the other
abbrev pub begun : ℕ → Knowledge → List Way
begun zero know = []
begun (suc count) know =
    record { know = numbered_knowledge know; done = None } ∷ begun count (after_numbering know)

-- what the script's caller has then
abbrev pub after_begun : ℕ → Knowledge → Knowledge
after_begun zero know = know
after_begun (suc count) know = after_begun count (after_numbering know)

-- ---- as they run

module _ (setting : Setting) (config : Config) where
  -- a line of a block has run
  pub record HasRun (what : LineForm) (content : LineFiles) (before after : Way) : Type 0 where
    pub began : IsPass setting before.know
    pub wrote : IfSome after.done (λ ran. LineRanSo config what content ran before.know after.know)
    pub fronts : AreFronts before.know.seen after.know.seen
    pub ended : IsPass setting after.know
    pub held : AreHeld setting.held setting.zones setting.points after.know.seen

  -- the line of a place has
  abbrev pub HasRunAt : List ScriptLine → List LineFiles → ℕ → Way → Way → Type 0
  HasRunAt lines contents place before after = (line : ScriptLine) (content : LineFiles)
      → slice_get lines place ≡ Some line → slice_get contents place ≡ Some content
      → HasRun line.what content before after

  abbrev pub EachHasRun : List ScriptLine → List LineFiles → List Way → List Way → Type 0
  EachHasRun [] contents before after = Unit {0}
  EachHasRun (line ∷ lines) [] before after = ⊥
  EachHasRun (line ∷ lines) (content ∷ contents) [] after = ⊥
  EachHasRun (line ∷ lines) (content ∷ contents) (b ∷ before) [] = ⊥
  EachHasRun (line ∷ lines) (content ∷ contents) (b ∷ before) (a ∷ after) =
      HasRun line.what content b a × EachHasRun lines contents before after

-- ---- as they are met

-- the script's caller met those of the lines, one after another
abbrev pub HaveMet : List Way → Knowledge → Knowledge → Type 0
HaveMet [] before after = after ≡ before
HaveMet (way ∷ ways) before after =
    AreFronts before.seen (meeting way.know before).seen × AreFronts way.know.seen (meeting way.know before).seen
    × HaveMet ways (meeting way.know before) after

-- what the lines came to that had memory enough
abbrev pub ended_in : List Way → List LineRan
ended_in [] = []
ended_in (way ∷ ways) = option_to_list way.done ++ ended_in ways

-- ---- a block

-- The lines of a block ran under callers that were split off the script's, which met them then
pub record BlockRan (setting : Setting) (config : Config) (lines : List ScriptLine) (contents : List LineFiles)
    (rans : List LineRan) (before after : Knowledge) : Type 0 where
  pub ways : List Way
  pub count : length ways ≡ length lines
  pub each : EachHasRun setting config lines contents (begun (length lines) before) ways
  pub met : HaveMet ways (after_begun (length lines) before) after
  pub rans_are : rans ≡ ended_in ways
