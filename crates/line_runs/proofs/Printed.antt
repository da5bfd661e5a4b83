-- What is printed of an answer.
use Rattle.std.proofs.Common.{◌≡◌, ◌∙◌, ◌++◌, ℕ, ℤ, List, sym, ap, subst}
use Rattle.std.specs.List.{flat_map}
use Rattle.know.specs.Knowledge.{Knowledge}
use Rattle.line_runs.specs.Questions.{IsAnswerTo, IsPrinted, asked_line, meant_text, question}
use Rattle.mon_script.specs.declared.questions.How.{How}
use Rattle.mon_script.specs.declared.questions.How.TheVariants as asked
use Rattle.line_runs.specs.declared.lines.LineRan.{LineRan}
use Rattle.mon_config.specs.declared.config.Config.{Config}
use Rattle.mon_meaning.specs.Central.{IsMeant}
use Rattle.mon_table.specs.Bags.{PrintsAlike}
use Rattle.mon_table.specs.Tables.{printed_table, table_text}
use Rattle.mon_topo.specs.Zones.{leaves_in}
use Rattle.mon_value.specs.Tables.{column_names}
use Rattle.mon_value.specs.declared.rows.Row.{Row}
use Rattle.mon_value.specs.declared.tables.Table.{Table}
use Rattle.mon_value.specs.declared.tables.TimedRow.{TimedRow}
use Rattle.typed_trees.specs.Meaning.{meaning}
use Rattle.typed_trees.specs.Nodes.{TypedTree, columns_of}
use Rattle.query_traces.specs.Traces.{source_of}
use Rattle.query_traces.specs.declared.answers.Answer.{Answer}
use Rattle.query_traces.specs.declared.answers.Trace.{Trace}
use Rattle.query_texts.specs.TextTypes.{text_type}
use Rattle.run_traces.specs.LineTexts.{asked_text, leaf_lines, line_text, op_line}
use Rattle.run_traces.specs.declared.traces.LineTrace.TheVariants as came

-- an answer's text, as that of the line that ran
pub printed_at : (config : Config) (what : How) (at moment : ℤ) (text : List ℕ) (know : Knowledge) (trace : Trace)
    (ran : LineRan) (shown : List ℕ) → at ≡ moment → ran.trace ≡ came.Asked at trace → ran.text ≡ shown
    → shown ≡ line_text config know.seen (asked_line what at text (came.Asked at trace))
    → IsPrinted config what moment text know trace ran
printed_at config what at moment text know trace ran shown same trace_is shows prints =
    subst (λ (m : ℤ). IsPrinted config what m text know trace ran) same (record {
      trace_is = trace_is;
      prints = shows ∙ prints ∙ ap (λ t. line_text config know.seen (asked_line what at text t)) (sym trace_is);
    })

module _ (alike : (names : List (List ℕ)) (rows others : List TimedRow) → PrintsAlike names rows others) where
  -- the table of a query prints as what the query means, whatever the order of its rows
  pub table_prints : (typed : TypedTree) (rows : List Row) (moment : ℤ) (limit : ℕ) (table : Table)
      → IsMeant typed rows moment limit table
      → printed_table table ≡ table_text (column_names (columns_of typed.tree)) (meaning typed rows moment)
  table_prints typed rows moment limit table meant =
      ap (λ columns. table_text (column_names columns) table.rows) meant.columns
      ∙ sym (alike (column_names (columns_of typed.tree)) (meaning typed rows moment) table.rows meant.rows)

  module _ (config : Config) (text : List ℕ) (moment : ℤ) (know : Knowledge) (answer : Answer)
      (is : IsAnswerTo config text moment know answer) where
    own_table : printed_table answer.table
        ≡ table_text (column_names (columns_of is.typed.tree))
        (meaning is.typed (source_of know.seen answer.trace) moment)
    own_table =
        table_prints is.typed (source_of know.seen answer.trace) moment config.limit answer.table is.table

    pub query_prints : printed_table answer.table
        ≡ line_text config know.seen (asked_line asked.Query moment text (came.Asked moment answer.trace))
    query_prints =
        own_table
        ∙ sym (ap (asked_text config know.seen (question asked.Query moment text) moment answer.trace) is.type_is)

    pub check_prints : meant_text (text_type config.schemas text) (source_of know.seen answer.trace) moment
        ≡ line_text config know.seen (asked_line asked.Check moment text (came.Asked moment answer.trace))
    check_prints =
        ap (λ answered. meant_text answered (source_of know.seen answer.trace) moment) is.type_is
        ∙ sym (ap (asked_text config know.seen (question asked.Check moment text) moment answer.trace) is.type_is)

    pub explain_prints : printed_table answer.table
        ++ (flat_map op_line answer.levels ++ leaf_lines answer.trace 0 (leaves_in config.topology))
        ≡ line_text config know.seen (asked_line asked.Explain moment text (came.Asked moment answer.trace))
    explain_prints =
        (λ i. own_table i ++ (flat_map op_line (is.levels i) ++ leaf_lines answer.trace 0 (leaves_in config.topology)))
        ∙ sym (ap (asked_text config know.seen (question asked.Explain moment text) moment answer.trace) is.type_is)
