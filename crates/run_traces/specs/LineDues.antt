-- Standing queries: which of them each tick asked; and the status of a run whose lines all ran.
use Rattle.std.specs.Prelude.{ℕ, Bool, true, false, List, if◌then◌else◌, ◌≡◌, ℤ, [], ◌∷◌, map, Option, Some, None}
use Rattle.std.specs.Prelude.{option_map, Result, Ok, Err}
use Rattle.std.specs.List.{list_any, flat_map}
use Rattle.mon_schema.specs.Names.{SchemaLists}
use Rattle.mon_script.specs.declared.forms.LineForm.{LineForm}
use Rattle.mon_script.specs.declared.forms.LineForm.TheVariants as form
use Rattle.mon_script.specs.declared.script.ScriptLine.{ScriptLine}
use Rattle.mon_script.specs.declared.standing_lines.StandingLine.{StandingLine}
use Rattle.mon_script.specs.declared.standing_lines.StandingLine.TheVariants as line
use Rattle.run_theory.specs.Parts.{Alone, Beside, Part}
use Rattle.standing.specs.DueLists.{add_fault, due_answer, StandingState, at_moment, standing_query, with_query}
use Rattle.standing.specs.declared.dues.Due.{Due}
use Rattle.standing.specs.declared.faults.DueFault.{DueFault}
use Rattle.run_traces.specs.LineAsks.{query_form}
use Rattle.run_traces.specs.RanLines.{RanLine, no_files}
use Rattle.run_traces.specs.declared.traces.DueEnd.{DueEnd}
use Rattle.run_traces.specs.declared.traces.DueEnd.TheVariants as end
use Rattle.run_traces.specs.declared.traces.DueTrace.{DueTrace}
use Rattle.run_traces.specs.declared.traces.LineTrace.{LineTrace}
use Rattle.run_traces.specs.declared.traces.LineTrace.TheVariants as came
use Rattle.run_traces.specs.declared.traces.LineFault.{LineFault}
use Rattle.run_traces.specs.declared.traces.LineFault.TheVariants as why

-- The status of a run whose lines all ran.

-- whether a query that was due was refused
abbrev pub is_due_refused : DueEnd → Bool
is_due_refused (end.Answered trace) = false
is_due_refused (end.Refused fault) = true

-- whether a line was refused, or a query that it asked
abbrev pub is_refused : LineTrace → Bool
is_refused (came.Ticked dues) = list_any (λ (one : DueTrace). is_due_refused one.end) dues
is_refused (came.Refused fault) = true
is_refused other = false

-- 7 where a line was refused or a query that was due, and else 0
abbrev pub lines_status : List RanLine → ℕ
lines_status lines = if list_any (λ line. is_refused line.trace) lines then 7 else 0

-- Standing queries: which of them each tick asked, and why a query didn't come to stand or a moment wasn't taken.

-- ---- ticks as the queries that they asked

-- what a query that was due came to, as a line
abbrev pub end_trace : ℤ → DueEnd → LineTrace
end_trace moment (end.Answered trace) = came.Asked moment trace
end_trace moment (end.Refused fault) = came.Refused fault

-- a query that was due, as a line that asks its text at its time
abbrev pub due_line : DueTrace → RanLine
due_line one = record {
  what = query_form one.due.at one.due.text;
  content = no_files;
  trace = end_trace one.due.at one.end;
  own = [];
}

-- a tick as the queries that it asked, one after another, and any other line as it is
abbrev pub asked_by : RanLine → LineTrace → List RanLine
asked_by line (came.Ticked dues) = map due_line dues
asked_by line other = line ∷ []

-- a line alone as such parts; the lines of a block ask no such queries
abbrev pub asked_part : Part RanLine → List (Part RanLine)
asked_part (Alone line) = map (λ (one : RanLine). Alone one) (asked_by line line.trace)
asked_part (Beside lines) = Beside lines ∷ []

abbrev pub asked_parts : List (Part RanLine) → List (Part RanLine)
asked_parts = flat_map asked_part

-- ---- what a line came to, as the answer of those that stand

-- which queries were asked, or why none was
abbrev pub due_told : LineTrace → Option (Result (List Due) LineFault)
due_told (came.Ticked dues) = Some (Ok (map (λ (one : DueTrace). one.due) dues))
due_told (came.Refused fault) = Some (Err fault)
due_told other = None

-- that a query came to stand, or why it didn't
abbrev pub stood_told : LineTrace → Option (Option LineFault)
stood_told (came.Refused fault) = Some (Some fault)
stood_told came.Done = Some None
stood_told other = None

abbrev pub is_ticked : LineTrace → Bool
is_ticked (came.Ticked dues) = true
is_ticked other = false

abbrev pub due_outcome : Result (List Due) DueFault → Result (List Due) LineFault
due_outcome (Ok dues) = Ok dues
due_outcome (Err fault) = Err (why.Due fault)

-- ---- lines one after another

-- what stands behind a line
abbrev pub standing_behind : StandingState → StandingLine → LineTrace → StandingState
standing_behind state (line.Stand name period text) trace =
    if is_refused trace then state else with_query state (standing_query name period text)
standing_behind state (line.Tick moment) trace = if is_ticked trace then at_moment state moment else state

abbrev pub stands_behind : StandingState → LineForm → LineTrace → StandingState
stands_behind state (form.Standing what) trace = standing_behind state what trace
stands_behind state other trace = state

-- A query comes to stand unless its name is taken or its text has a fault; a tick asks just the queries that are due, in
-- their order, unless its moment isn't taken; and no other line asks such queries
abbrev pub StandsBy : SchemaLists → StandingState → StandingLine → LineTrace → Type 0
StandsBy schemas state (line.Stand name period text) trace =
    stood_told trace ≡ Some (option_map why.Standing (add_fault schemas state.queries name text))
StandsBy schemas state (line.Tick moment) trace =
    due_told trace ≡ Some (due_outcome (due_answer state.last moment state.queries))

abbrev pub IsDueBy : SchemaLists → StandingState → LineForm → LineTrace → Type 0
IsDueBy schemas state (form.Standing what) trace = StandsBy schemas state what trace
IsDueBy schemas state other trace = is_ticked trace ≡ false

-- of each line of a script that came to something, with what stands before it
abbrev pub AreDue : SchemaLists → StandingState → List ScriptLine → List LineTrace → Type 0
AreDue schemas state [] traces = Unit {0}
AreDue schemas state (line ∷ lines) [] = Unit {0}
AreDue schemas state (line ∷ lines) (trace ∷ traces) = IsDueBy schemas state line.what trace
    × AreDue schemas (stands_behind state line.what trace) lines traces
