-- What a part of a script did, by what the script's caller knew before it and knows behind it.
use Rattle.std.specs.Prelude.{◌≡◌, ◌≤◌, ◌+◌, ◌*◌, ◌^◌, ℕ, List, [], ◌∷◌, ◌++◌, length, map}
use Rattle.history_book.specs.Seats.{HasEveryNumber}
use Rattle.know.specs.Knowledge.{Knowledge}
use Rattle.line_runs.specs.LineWrites.{ran_line}
use Rattle.line_runs.specs.declared.lines.LineRan.{LineRan}
use Rattle.mon_config.specs.declared.config.Config.{Config}
use Rattle.mon_script.specs.Blocks.{mark_of}
use Rattle.mon_script.specs.declared.forms.LineForm.{LineForm}
use Rattle.mon_script.specs.declared.places.Mark.TheVariants as mark
use Rattle.mon_script.specs.declared.script.ScriptLine.{ScriptLine}
use Rattle.mon_value.specs.declared.histories.Histories.{Histories}
use Rattle.run_theory.specs.Parts.{Alone, Beside, Part, lines_of}
use Rattle.run_traces.specs.LineClaims.{AllRan, HasWritten, HaveGrown}
use Rattle.run_traces.specs.LineDues.{IsDueBy, asked_part, stands_behind}
use Rattle.run_traces.specs.LineTexts.{line_text}
use Rattle.run_traces.specs.RanLines.{OwnPlace, RanLine, ran_lines}
use Rattle.run_traces.specs.declared.line_files.LineFiles.{LineFiles}
use Rattle.standing.specs.DueLists.{StandingState}

-- a line may stand in a block
abbrev pub ActsThere : ScriptLine → Type 0
ActsThere line = mark_of line.what ≡ mark.Acts

-- so many callers more can be split off: each takes no more than 2 ^ 32 + 1 numbers of the stock
pub record CanSplit (count : ℕ) (know : Knowledge) : Type 0 where
  pub room : know.purse.stock.from + count * (2 ^ 32 + 1) ≤ know.purse.stock.to

-- The lines of a part wrote what they made and found what they owe; these are their texts, by the histories that the
-- script's caller has seen then; and it keeps every number
pub record PartDid (config : Config) (part : Part RanLine) (texts : List (List ℕ)) (before after : Knowledge)
    : Type 0 where
  pub written : HasWritten config before.seen after.seen part
  pub prints : texts ≡ map (line_text config after.seen) (lines_of part)
  pub every : HasEveryNumber after.purse

-- A part ran behind whatever ran before, where a tick counts as the queries that it asked; these are the texts of its
-- lines, by whatever is seen later; and the script's caller keeps every number
pub record PartTells (config : Config) (part : Part RanLine) (texts : List (List ℕ)) (before after : Knowledge)
    : Type 0 where
  pub grown : HaveGrown before.seen after.seen
  pub ran : (parts : List (Part RanLine)) → AllRan config before.seen parts
      → AllRan config after.seen (parts ++ asked_part part)
  pub prints : (later : Histories) → HaveGrown after.seen later → map (line_text config later) (lines_of part) ≡ texts
  pub every : HasEveryNumber after.purse

-- A line alone did so, with the places of its own entries
pub record ActedAlone (config : Config) (what : LineForm) (content : LineFiles) (ran : LineRan)
    (before after : Knowledge) : Type 0 where
  pub own : List OwnPlace
  pub tells : PartTells config (Alone (ran_line what content ran.trace own)) (ran.text ∷ []) before after

-- The lines of a block did, each with the places of its own entries
pub record ActedBeside (config : Config) (lines : List ScriptLine) (contents : List LineFiles) (rans : List LineRan)
    (before after : Knowledge) : Type 0 where
  pub places : List (List OwnPlace)
  pub count : length places ≡ length lines
  pub tells : PartTells config
      (Beside (ran_lines lines contents (map (λ (ran : LineRan). ran.trace) rans) places))
      (map (λ (ran : LineRan). ran.text) rans) before after

-- A line alone did so, and did with the queries that stand what is to be done with them
pub record AloneDid (config : Config) (what : LineForm) (content : LineFiles) (ran : LineRan) (before after : Knowledge)
    (state stands : StandingState) : Type 0 where
  pub acted : ActedAlone config what content ran before after
  pub due : IsDueBy config.schemas state what ran.trace
  pub stood : stands ≡ stands_behind state what ran.trace
