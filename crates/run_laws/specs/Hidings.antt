-- Which rows no trim of a run hides: those that end before no bound that was trimmed in their range.
use Rattle.std.specs.Prelude.{◌≡◌, false, List, [], Contains, Option, Some, None}
use Rattle.std.specs.List.{AllByRecursion}
use Rattle.mon_config.specs.Configs.{range_of_key}
use Rattle.mon_config.specs.declared.config.Config.{Config}
use Rattle.mon_script.specs.declared.forms.LineForm.{LineForm}
use Rattle.mon_value.specs.Turns.{ends_before}
use Rattle.mon_value.specs.declared.histories.Histories.{Histories}
use Rattle.mon_value.specs.declared.rows.Row.{Row}
use Rattle.query_traces.specs.Traces.{source_of}
use Rattle.query_traces.specs.declared.answers.Trace.{Trace}
use Rattle.run_theory.specs.Parts.{Each, Part, all_lines}
use Rattle.run_traces.specs.Headline.{RunHolds}
use Rattle.run_traces.specs.LineAsks.{Bound, bound_of}
use Rattle.run_traces.specs.RanLines.{RanLine, accepted_rows}
use Rattle.run_traces.specs.declared.traces.ControlDone.{ControlDone}
use Rattle.run_traces.specs.declared.traces.ControlDone.TheVariants as did
use Rattle.run_traces.specs.declared.traces.LineTrace.{LineTrace}
use Rattle.run_traces.specs.declared.traces.LineTrace.TheVariants as came

-- the bound of a line that trimmed a range
abbrev pub done_bound : LineForm → ControlDone → Option Bound
done_bound what (did.Switched cut) = None
done_bound what (did.Recovered slot) = None
done_bound what (did.Trimmed ack) = bound_of what
done_bound what (did.Retired slot) = None

abbrev pub trimmed_bound : LineForm → LineTrace → Option Bound
trimmed_bound what (came.Controlled done) = done_bound what done
trimmed_bound what other = None

-- a line trimmed the range of a row no farther than to the row's end
abbrev pub Spares : Config → Row → RanLine → Type 0
Spares config row line = (bound : Bound) → trimmed_bound line.what line.trace ≡ Some bound
    → range_of_key config row.key ≡ Some bound.range → ends_before bound.before row ≡ false

module _ (config : Config) (ended : Histories) (lines : List RanLine) where
  -- a table stands on each row that these lines accepted and that all lines of the run spare
  abbrev pub StandsOnSpared : List RanLine → Trace → Type 0
  StandsOnSpared seen trace = AllByRecursion (λ line. AllByRecursion
      (λ (row : Row). AllByRecursion (Spares config row) lines → Contains (source_of ended trace) row)
      (accepted_rows line)) seen

  abbrev pub HoldsSpared : List RanLine → LineTrace → Type 0
  HoldsSpared seen (came.Asked moment trace) = StandsOnSpared seen trace
  HoldsSpared seen (came.Followed moment trace) = StandsOnSpared seen trace
  HoldsSpared seen other = Unit {0}

  -- of each line, with those that its caller had seen
  abbrev pub LineHoldsSpared : List RanLine → List RanLine → RanLine → Type 0
  LineHoldsSpared seen later line = HoldsSpared seen line.trace

-- in every run
abbrev pub NoSparedRowIsHidden : Type 0
NoSparedRowIsHidden = (config : Config) (ended : Histories) (parts : List (Part RanLine)) → RunHolds config ended parts
    → Each (LineHoldsSpared config ended (all_lines parts)) [] parts
