-- What a question of a script comes to: a table by rows that its caller has seen, or why there is none.
use Rattle.std.specs.Prelude.{◌≡◌, ◌≤◌, ℕ, ℤ, true, List, [], Option, Some, None, Result, Ok, Err}
use Rattle.std.specs.List.{AllByRecursion}
use Rattle.know.specs.Knowledge.{Knowledge}
use Rattle.line_runs.specs.LineWrites.{ran_line}
use Rattle.mon_script.specs.declared.questions.How.{How}
use Rattle.mon_script.specs.Forms.{question as asking}
use Rattle.line_runs.specs.declared.lines.LineRan.{LineRan}
use Rattle.mon_config.specs.declared.config.Config.{Config}
use Rattle.mon_meaning.specs.Central.{IsMeant}
use Rattle.mon_schema.specs.Fits.{fits}
use Rattle.mon_store.specs.declared.queries.QueryFault.{QueryFault}
use Rattle.mon_store.specs.declared.queries.QueryFault.TheVariants as fault
use Rattle.mon_table.specs.Tables.{table_text}
use Rattle.mon_topo.specs.declared.zones.ZoneSpec.{ZoneSpec}
use Rattle.mon_value.specs.Tables.{column_names}
use Rattle.mon_value.specs.LeafHistories.{IsSource}
use Rattle.mon_value.specs.declared.rows.Row.{Row}
use Rattle.typed_trees.specs.Plans.{op_levels}
use Rattle.typed_trees.specs.Meaning.{load, meaning}
use Rattle.typed_trees.specs.Nodes.{TypedTree, columns_of}
use Rattle.query_traces.specs.Traces.{IsTraceBetween, Lengths, lengths_of, source_of}
use Rattle.query_traces.specs.declared.answers.Answer.{Answer}
use Rattle.query_traces.specs.declared.answers.Trace.{Trace}
use Rattle.query_texts.specs.TextTypes.{text_type}
use Rattle.query_texts.specs.declared.faults.TextFault.{TextFault}
use Rattle.run_traces.specs.LineTexts.{line_text, refused_line}
use Rattle.run_traces.specs.RanLines.{RanLine, no_files}
use Rattle.run_traces.specs.declared.traces.LineFault.{LineFault}
use Rattle.run_traces.specs.declared.traces.LineFault.TheVariants as why
use Rattle.run_traces.specs.declared.traces.QuestionFault.{QuestionFault}
use Rattle.run_traces.specs.declared.traces.QuestionFault.TheVariants as unanswered
use Rattle.run_traces.specs.declared.traces.LineTrace.{LineTrace}
use Rattle.run_traces.specs.declared.traces.LineTrace.TheVariants as came
use Rattle.mon_script.specs.declared.forms.LineForm.{LineForm}
use Rattle.mon_script.specs.declared.forms.LineForm.TheVariants as form

-- the line that asks so
abbrev pub question : How → ℤ → List ℕ → LineForm
question what moment text = form.Ask (asking what moment text)

-- and what it came to
abbrev pub asked_line : How → ℤ → List ℕ → LineTrace → RanLine
asked_line what moment text trace = ran_line (question what moment text) no_files trace []

-- ---- answers

-- A text is answered by what its caller has seen since some moment: the table is what the text means over the rows of
-- its trace
pub record IsAnswerTo (config : Config) (text : List ℕ) (moment : ℤ) (know : Knowledge) (answer : Answer)
    : Type 0 where
  pub typed : TypedTree
  pub type_is : text_type config.schemas text ≡ Ok typed
  pub since : Lengths
  pub of : IsTraceBetween typed moment since (lengths_of know.seen) know.seen answer.trace
  pub table : IsMeant typed (source_of know.seen answer.trace) moment config.limit answer.table
  pub levels : answer.levels ≡ op_levels typed

-- the answer was printed, as far as its caller had seen then
pub record IsPrinted (config : Config) (what : How) (moment : ℤ) (text : List ℕ) (know : Knowledge) (trace : Trace)
    (ran : LineRan)
    : Type 0 where
  pub trace_is : ran.trace ≡ came.Asked moment trace
  pub prints : ran.text ≡ line_text config know.seen (asked_line what moment text ran.trace)

-- ---- tables that are evaluated in one place

-- A text has a type, rows fit what it was typed over and are a source, and the load over them is within the limit
pub record CanBeChecked (config : Config) (text : List ℕ) (moment : ℤ) (rows : List Row) : Type 0 where
  pub typed : TypedTree
  pub type_is : text_type config.schemas text ≡ Ok typed
  pub fit : AllByRecursion (λ row. fits config.schemas row ≡ true) rows
  pub source : IsSource rows
  pub within : load typed rows moment ≤ config.limit

-- what a typed text means over rows, as it is printed
abbrev pub meant_text : Result TypedTree TextFault → List Row → ℤ → List ℕ
meant_text (Ok typed) rows moment = table_text (column_names (columns_of typed.tree)) (meaning typed rows moment)
meant_text (Err fault) rows moment = []

-- ---- refusals

-- why a query has no table, unless memory ran out
abbrev pub told_fault : QueryFault → Option QuestionFault
told_fault (fault.Parse parse) = Some (unanswered.Parse parse)
told_fault (fault.Typing typing) = Some (unanswered.Typing typing)
told_fault (fault.NoReplica range founds) = Some (unanswered.NoReplica range founds)
told_fault (fault.StepLimit limit trace) = Some (unanswered.StepLimit limit trace)
told_fault fault.OutOfMemory = None

-- a line is refused for a fault
abbrev pub refused_for : List ZoneSpec → LineFault → LineRan
refused_for zones fault = record { trace = came.Refused fault; text = refused_line zones fault }

-- for that of a query
pub record IsRefusedFor (zones : List ZoneSpec) (fault : QueryFault) (ran : LineRan) : Type 0 where
  pub told : QuestionFault
  pub told_is : told_fault fault ≡ Some told
  pub ran_is : ran ≡ refused_for zones (why.Question told)
