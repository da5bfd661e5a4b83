-- The summary of a trial, by what its lines came to and by what they printed.
use Rattle.std.specs.Prelude.{ℕ, ℤ, pos, ◌+◌, List, [], ◌∷◌, ◌++◌, codes, drop, length, sum_by, Option, Some, None}
use Rattle.std.specs.Fmt.{decimal, signed_decimal}
use Rattle.mon_script.specs.Lines.{lines_of}
use Rattle.mon_table.specs.Tables.{newline}
use Rattle.run_traces.specs.RanLines.{trace_rows}
use Rattle.run_traces.specs.declared.traces.LineTrace.{LineTrace}
use Rattle.run_traces.specs.declared.traces.LineTrace.TheVariants as came
use Rattle.ingest_queue.specs.declared.refusals.RowRefusal.{RowRefusal}
use Rattle.trials.specs.Tables.{TableRead, table_in}

-- ---- points

-- how many points lines accepted, and how many they refused
abbrev pub accepted_in : List LineTrace → ℕ
accepted_in = sum_by (λ trace. length (trace_rows trace))

abbrev pub refusals_in : LineTrace → List RowRefusal
refusals_in (came.Fed pass accepted refused) = refused
refusals_in (came.Poured pass ends) = ends.first.refused ++ ends.second.refused
refusals_in other = []

abbrev pub refused_in : List LineTrace → ℕ
refused_in = sum_by (λ trace. length (refusals_in trace))

abbrev pub count_line : List ℕ → ℕ → List ℕ
count_line word count = word ++ (decimal count ++ newline)

abbrev pub points_text : ℕ → ℕ → List ℕ
points_text accepted refused =
    count_line (codes "points ") (accepted + refused) ++ (count_line (codes "accepted ") accepted
    ++ count_line (codes "refused ") refused)

-- ---- queries

-- how far the summary has come: the number of the next query, and the printed lines that are left
pub record Place : Type 0 where
  pub number : ℕ
  pub lines : List (List ℕ)

abbrev pub place : ℕ → List (List ℕ) → Place
place number lines = record { number = number; lines = lines }

abbrev pub query_line : ℕ → List ℕ → List ℕ
query_line number text = codes "query " ++ (decimal number ++ (codes ": " ++ (text ++ newline)))

abbrev pub sum_text : Option ℤ → List ℕ
sum_text None = codes ", no sum"
sum_text (Some sum) = codes ", sum " ++ signed_decimal sum

-- the table behind a header
abbrev pub table_behind : List (List ℕ) → TableRead
table_behind lines = table_in (Some (pos 0)) (drop 1 lines)

-- what a table says of its rows, and the sum of its last column
abbrev pub table_text : TableRead → List ℕ
table_text table = table.count ++ sum_text table.sum

abbrev pub first_line : List (List ℕ) → List ℕ
first_line [] = []
first_line (line ∷ lines) = line

-- What is said of a line: of a query with a table how many rows that has and the sum of its last column, and of one that
-- was refused why, as it was printed
abbrev pub line_text : Place → LineTrace → List ℕ
line_text at (came.Asked moment trace) = query_line at.number (table_text (table_behind at.lines))
line_text at (came.Refused fault) = query_line at.number (first_line at.lines)
line_text at other = []

-- a feed printed a line, and one for each record that it refused
abbrev pub behind_feed : List RowRefusal → List (List ℕ) → List (List ℕ)
behind_feed refused lines = drop (length refused) (drop 1 lines)

-- A pour printed what two feeds do; a query its table, or why it was refused
abbrev pub behind : Place → LineTrace → Place
behind at (came.Fed pass accepted refused) = place at.number (behind_feed refused at.lines)
behind at (came.Poured pass ends) =
    place at.number (behind_feed ends.second.refused (behind_feed ends.first.refused at.lines))
behind at (came.Asked moment trace) = place (at.number + 1) (table_behind at.lines).rest
behind at (came.Refused fault) = place (at.number + 1) (drop 1 at.lines)
behind at other = at

abbrev pub queries_text : Place → List LineTrace → List ℕ
queries_text at [] = []
queries_text at (trace ∷ traces) = line_text at trace ++ queries_text (behind at trace) traces

-- ---- the whole

-- how many points there were, how many were accepted and refused, and what each query came to
abbrev pub summary_text : List LineTrace → List ℕ → List ℕ
summary_text traces printed =
    points_text (accepted_in traces) (refused_in traces) ++ queries_text (place 1 (lines_of printed)) traces
