-- Standing queries that were due and were asked one after another, by what their caller knew before and knows then.
use Rattle.std.specs.Prelude.{◌≡◌, ℕ, List, [], ◌∷◌, ◌++◌, map}
use Rattle.std.specs.List.{flat_map}
use Rattle.history_book.specs.Seats.{HasEveryNumber}
use Rattle.know.specs.Knowledge.{Knowledge}
use Rattle.line_runs.specs.declared.lines.LineRan.{LineRan}
use Rattle.mon_config.specs.declared.config.Config.{Config}
use Rattle.mon_value.specs.declared.histories.Histories.{Histories}
use Rattle.part_runs.specs.PartsDone.{PartTells}
use Rattle.run_theory.specs.Parts.{Alone, Part}
use Rattle.run_traces.specs.LineClaims.{AllRan, HaveGrown}
use Rattle.run_traces.specs.LineDues.{due_line, end_trace}
use Rattle.run_traces.specs.LineTexts.{due_heading, due_text}
use Rattle.run_traces.specs.RanLines.{RanLine}
use Rattle.run_traces.specs.declared.traces.DueTrace.{DueTrace}
use Rattle.run_traces.specs.declared.traces.LineTrace.TheVariants as came
use Rattle.standing.specs.declared.dues.Due.{Due}

-- queries as lines alone
abbrev pub due_parts : List DueTrace → List (Part RanLine)
due_parts dues = map (λ (line : RanLine). Alone line) (map due_line dues)

-- Queries ran one after another behind whatever ran before, and this is what they print, by whatever is seen later
pub record DuesAsked (config : Config) (dues : List DueTrace) (text : List ℕ) (before after : Knowledge) : Type 0 where
  pub grown : HaveGrown before.seen after.seen
  pub ran : (parts : List (Part RanLine)) → AllRan config before.seen parts
      → AllRan config after.seen (parts ++ due_parts dues)
  pub prints : (later : Histories) → HaveGrown after.seen later → flat_map (due_text config later) dues ≡ text
  pub every : HasEveryNumber after.purse
  pub stock : after.purse.stock ≡ before.purse.stock

-- what a query came to stands behind what others came to
pub record IsKept (due : Due) (ran : LineRan) (old new : List DueTrace) : Type 0 where
  pub one : DueTrace
  pub due_is : one.due ≡ due
  pub end_is : end_trace due.at one.end ≡ ran.trace
  pub pushed : new ≡ old ++ one ∷ []

-- one more query ran, behind others
pub record DueAsked (config : Config) (due : Due) (old new : List DueTrace) (text more : List ℕ)
    (before after : Knowledge) : Type 0 where
  pub one : DueTrace
  pub due_is : one.due ≡ due
  pub pushed : new ≡ old ++ one ∷ []
  pub told : List ℕ
  pub printed : more ≡ text ++ (due_heading due ++ told)
  pub tells : PartTells config (Alone (due_line one)) (told ∷ []) before after
  pub stock : after.purse.stock ≡ before.purse.stock

-- a tick came to these queries
pub record TickRan (config : Config) (dues : List Due) (ran : LineRan) (before after : Knowledge) : Type 0 where
  pub traces : List DueTrace
  pub trace_is : ran.trace ≡ came.Ticked traces
  pub all : map (λ (one : DueTrace). one.due) traces ≡ dues
  pub asked : DuesAsked config traces ran.text before after
