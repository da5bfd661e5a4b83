-- What each line prints, by the script, the files, what the lines came to and the histories at the end.
use Rattle.std.specs.Prelude.{ℕ, ℤ, ◌+◌, Bool, false, List, [], ◌∷◌, ◌++◌, codes, length, get_or, Result, Ok, Err}
use Rattle.std.specs.Prelude.{Option, Some, None, if◌then◌else◌}
use Rattle.std.specs.Fmt.{decimal, signed_decimal}
use Rattle.std.specs.List.{flat_map}
use Rattle.mon_config.specs.declared.config.Config.{Config}
use Rattle.mon_points.specs.Records.{row_fault_text}
use Rattle.mon_table.specs.Tables.{newline, table_text}
use Rattle.mon_topo.specs.Zones.{down_text, leaves_in}
use Rattle.mon_topo.specs.declared.zones.ZoneSpec.{ZoneSpec}
use Rattle.mon_value.specs.Tables.{column_names}
use Rattle.mon_value.specs.declared.histories.Histories.{Histories}
use Rattle.mql_parse.specs.Faults.{parse_fault_text}
use Rattle.typed_trees.specs.Plans.{op_levels}
use Rattle.typed_trees.specs.Faults.{limit_text, type_fault_text}
use Rattle.typed_trees.specs.Meaning.{meaning}
use Rattle.typed_trees.specs.Nodes.{TypedTree, columns_of}
use Rattle.typed_trees.specs.declared.explanations.OpLevel.{OpLevel}
use Rattle.typed_trees.specs.declared.explanations.OpWord.{OpWord}
use Rattle.typed_trees.specs.declared.explanations.OpWord.TheVariants as word
use Rattle.typed_trees.specs.declared.levels.Level.{Level}
use Rattle.typed_trees.specs.declared.levels.Level.TheVariants as level
use Rattle.query_traces.specs.Traces.{source_of}
use Rattle.query_traces.specs.declared.answers.Trace.{Trace}
use Rattle.query_texts.specs.TextTypes.{text_type}
use Rattle.query_texts.specs.declared.faults.TextFault.{TextFault}
use Rattle.range_cell.specs.declared.answers.WriteFault.{WriteFault}
use Rattle.range_cell.specs.declared.answers.WriteFault.TheVariants as unwritten
use Rattle.run_traces.specs.LineAsks.{files_of, moments_of, query_form, text_of}
use Rattle.run_traces.specs.LineSwitches.{control_done_text, control_fault_text}
use Rattle.run_traces.specs.RanLines.{RanLine}
use Rattle.run_traces.specs.declared.traces.DueEnd.{DueEnd}
use Rattle.run_traces.specs.declared.traces.DueEnd.TheVariants as end
use Rattle.run_traces.specs.declared.traces.DueTrace.{DueTrace}
use Rattle.run_traces.specs.declared.traces.LineFault.{LineFault}
use Rattle.run_traces.specs.declared.traces.LineFault.TheVariants as why
use Rattle.run_traces.specs.declared.traces.LineTrace.{LineTrace}
use Rattle.run_traces.specs.declared.traces.LineTrace.TheVariants as came
use Rattle.run_traces.specs.declared.traces.QuestionFault.{QuestionFault}
use Rattle.run_traces.specs.declared.traces.QuestionFault.TheVariants as unanswered
use Rattle.ingest_queue.specs.declared.ends.Poured.{Poured}
use Rattle.ingest_queue.specs.declared.refusals.RowRefusal.{RowRefusal}
use Rattle.ingest_queue.specs.declared.refusals.RowRefused.{RowRefused}
use Rattle.ingest_queue.specs.declared.refusals.RowRefused.TheVariants as refused
use Rattle.mon_script.specs.declared.forms.LineForm.{LineForm}
use Rattle.mon_script.specs.declared.forms.LineForm.TheVariants as form
use Rattle.mon_script.specs.declared.questions.How.{How}
use Rattle.mon_script.specs.declared.questions.How.TheVariants as how
use Rattle.mon_script.specs.declared.standing_lines.StandingLine.{StandingLine}
use Rattle.mon_script.specs.declared.standing_lines.StandingLine.TheVariants as line
use Rattle.standing.specs.declared.dues.Due.{Due}
use Rattle.standing.specs.declared.faults.DueFault.{DueFault}
use Rattle.standing.specs.declared.faults.DueFault.TheVariants as undue
use Rattle.standing.specs.declared.faults.StandingFault.{StandingFault}
use Rattle.standing.specs.declared.faults.StandingFault.TheVariants as unstood
use Rattle.write_core.specs.RangeAnswers.{no_zone_text, refused_text}
use Rattle.write_core.specs.declared.refusals.Refused.TheVariants as ranged

-- ---- feeds

abbrev pub unwritten_text : List ZoneSpec → WriteFault → List ℕ
unwritten_text zones unwritten.NoZone = no_zone_text
unwritten_text zones (unwritten.OldPoint last) = refused_text (ranged.OldPoint last)
unwritten_text zones (unwritten.RangeFull limit) = refused_text (ranged.RangeFull limit)
unwritten_text zones (unwritten.Unavailable range founds) = codes "Unavailable " ++ down_text zones range founds
unwritten_text zones unwritten.OutOfMemory = []

abbrev pub row_refused_text : List ZoneSpec → RowRefused → List ℕ
row_refused_text zones (refused.Read fault) = row_fault_text fault
row_refused_text zones (refused.Write fault) = unwritten_text zones fault

abbrev pub refusal_line : List ZoneSpec → RowRefusal → List ℕ
refusal_line zones refusal =
    codes "row " ++ (decimal refusal.number ++ (codes ": " ++ (row_refused_text zones refusal.fault ++ newline)))

abbrev pub feed_summary : List ℕ → ℕ → ℕ → List ℕ
feed_summary name accepted refused =
    codes "feed " ++ (name ++ (codes ": " ++ (decimal accepted
    ++ (codes " accepted, " ++ (decimal refused ++ (codes " refused" ++ newline))))))

-- how many records were accepted and refused, and a line for each that was refused
abbrev pub feed_text : List ZoneSpec → List ℕ → ℕ → List RowRefusal → List ℕ
feed_text zones name accepted refused =
    feed_summary name accepted (length refused) ++ flat_map (refusal_line zones) refused

-- the name of a file, if there is one
abbrev pub file_name : Option (List ℕ) → List ℕ
file_name (Some name) = name
file_name None = []

-- two files that were poured print what two feeds of them do
abbrev pub pour_text : List ZoneSpec → List ℕ → List ℕ → Poured → List ℕ
pour_text zones first second ends = feed_text zones first (length ends.first.accepted) ends.first.refused
    ++ feed_text zones second (length ends.second.accepted) ends.second.refused

-- ---- explanations

abbrev pub word_text : OpWord → List ℕ
word_text word.Fetch = codes "fetch"
word_text word.Filter = codes "filter"
word_text word.Align = codes "align"
word_text word.GroupBy = codes "group_by"
word_text word.Value = codes "value"
word_text word.Top = codes "top"
word_text word.Join = codes "join"
word_text word.Union = codes "union"

abbrev pub level_text : Level → List ℕ
level_text level.Leaf = codes "leaf"
level_text level.Zone = codes "zone"
level_text level.Root = codes "root"

abbrev pub op_line : OpLevel → List ℕ
op_line one = word_text one.word ++ (codes " " ++ (level_text one.level ++ newline))

-- a leaf that was read, with how much it sent; or one that was not
abbrev pub leaf_line : List ℕ → Bool → ℕ → List ℕ
leaf_line name read sent =
    codes "leaf " ++ (name ++ ((if read then codes " read " ++ decimal sent else codes " unread 0") ++ newline))

-- leaves of these names, numbered on from one
abbrev pub leaf_lines : Trace → ℕ → List (List ℕ) → List ℕ
leaf_lines trace n [] = []
leaf_lines trace n (name ∷ names) =
    leaf_line name (get_or trace.read n false) (get_or trace.sent n 0) ++ leaf_lines trace (n + 1) names

abbrev pub explanation : List ZoneSpec → TypedTree → Trace → List ℕ
explanation zones typed trace = flat_map op_line (op_levels typed) ++ leaf_lines trace 0 (leaves_in zones)

-- ---- standing queries

-- a query stands from then on; a line that begins a block or ends it prints nothing
abbrev pub stood_text : StandingLine → List ℕ
stood_text (line.Stand name period text) = codes "standing " ++ (name ++ (codes ": added" ++ newline))
stood_text (line.Tick moment) = []

abbrev pub done_text : LineForm → List ℕ
done_text (form.Standing what) = stood_text what
done_text other = []

-- the name of a query that was due, and when
abbrev pub due_heading : Due → List ℕ
due_heading due = due.name ++ (codes " at " ++ (signed_decimal due.at ++ (codes ":" ++ newline)))

-- ---- queries that are followed

-- a moment at which the table of such a query is told
abbrev pub moment_heading : ℤ → List ℕ
moment_heading at = codes "at " ++ (signed_decimal at ++ (codes ":" ++ newline))

-- ---- lines

abbrev pub question_fault_text : List ZoneSpec → QuestionFault → List ℕ
question_fault_text zones (unanswered.Parse fault) = codes "Parse " ++ parse_fault_text fault
question_fault_text zones (unanswered.Typing fault) = codes "Typing " ++ type_fault_text fault
question_fault_text zones (unanswered.NoReplica range founds) = codes "NoReplica " ++ down_text zones range founds
question_fault_text zones (unanswered.StepLimit limit trace) = limit_text limit

abbrev pub standing_fault_text : StandingFault → List ℕ
standing_fault_text unstood.NameTaken = codes "NameTaken"
standing_fault_text (unstood.Parse fault) = codes "Parse " ++ parse_fault_text fault
standing_fault_text (unstood.Typing fault) = codes "Typing " ++ type_fault_text fault

abbrev pub due_fault_text : DueFault → List ℕ
due_fault_text (undue.TooManyDue most) = codes "TooManyDue " ++ decimal most
due_fault_text (undue.Backwards last) = codes "Backwards " ++ signed_decimal last

abbrev pub line_fault_text : List ZoneSpec → LineFault → List ℕ
line_fault_text zones (why.Question fault) = question_fault_text zones fault
line_fault_text zones (why.Control fault) = control_fault_text zones fault
line_fault_text zones (why.Standing fault) = standing_fault_text fault
line_fault_text zones (why.Due fault) = due_fault_text fault
line_fault_text zones why.NotIncremental = codes "NotIncremental"

abbrev pub refused_line : List ZoneSpec → LineFault → List ℕ
refused_line zones fault = codes "refused: " ++ (line_fault_text zones fault ++ newline)

module _ (config : Config) (ended : Histories) where
  -- the table of a typed query: what it means over the rows of its trace
  abbrev pub trace_table : TypedTree → ℤ → Trace → List ℕ
  trace_table typed moment trace =
      table_text (column_names (columns_of typed.tree)) (meaning typed (source_of ended trace) moment)

  -- as it is asked
  abbrev pub shown_text : How → ℤ → Trace → TypedTree → List ℕ
  shown_text how.Query moment trace typed = trace_table typed moment trace
  shown_text how.Check moment trace typed = trace_table typed moment trace
  shown_text how.Explain moment trace typed =
      trace_table typed moment trace ++ explanation config.topology typed trace

  abbrev pub typed_text : LineForm → ℤ → Trace → TypedTree → List ℕ
  typed_text (form.Ask asked) moment trace typed = shown_text asked.how moment trace typed
  typed_text other moment trace typed = []

  abbrev pub asked_text : LineForm → ℤ → Trace → Result TypedTree TextFault → List ℕ
  asked_text what moment trace (Ok typed) = typed_text what moment trace typed
  asked_text what moment trace (Err fault) = []

  -- what a query prints that was followed: at each moment its table over the same rows
  abbrev pub table_at : Trace → TypedTree → ℤ → List ℕ
  table_at trace typed at = moment_heading at ++ trace_table typed at trace

  abbrev pub followed_text : List ℤ → Trace → Result TypedTree TextFault → List ℕ
  followed_text moments trace (Ok typed) = flat_map (table_at trace typed) moments
  followed_text moments trace (Err fault) = []

  -- what a query that was due prints: its name and its time, and then its table or its refusal
  abbrev pub due_end_text : Due → DueEnd → List ℕ
  due_end_text due (end.Answered trace) =
      asked_text (query_form due.at due.text) due.at trace (text_type config.schemas due.text)
  due_end_text due (end.Refused fault) = refused_line config.topology fault

  abbrev pub due_text : DueTrace → List ℕ
  due_text one = due_heading one.due ++ due_end_text one.due one.end

  abbrev pub text_by : LineForm → List ℕ → LineTrace → List ℕ
  text_by what text (came.Fed pass accepted refused) =
      feed_text config.topology (file_name (files_of what).first) (length accepted) refused
  text_by what text (came.Poured pass ends) =
      pour_text config.topology (file_name (files_of what).first) (file_name (files_of what).second) ends
  text_by what text (came.Asked moment trace) = asked_text what moment trace (text_type config.schemas text)
  text_by what text (came.Followed moment trace) =
      followed_text (moments_of what) trace (text_type config.schemas text)
  text_by what text (came.Ticked dues) = flat_map due_text dues
  text_by what text (came.Controlled done) = control_done_text config.topology what done
  text_by what text (came.Refused fault) = refused_line config.topology fault
  text_by what text came.Done = done_text what

  -- what a line prints
  abbrev pub line_text : RanLine → List ℕ
  line_text line = text_by line.what (text_of line.what) line.trace

  -- what all lines print, one after another
  abbrev pub lines_text : List RanLine → List ℕ
  lines_text = flat_map line_text
