-- The lines of a script that ran, and its parts: lines one after another, and blocks whose lines run beside each other.
use Rattle.std.specs.Prelude.{ℕ, Bool, true, false, List, [], ◌∷◌, ◌++◌, ◌&&◌, nat_eq, Option, Some, None}
use Rattle.std.specs.List.{list_any}
use Rattle.history_book.specs.Histories.{same_history}
use Rattle.history_book.specs.declared.views.History.{History}
use Rattle.mon_value.specs.declared.rows.Row.{Row}
use Rattle.run_theory.specs.Parts.{Alone, Beside, Part}
use Rattle.run_traces.specs.declared.line_files.LineFiles.{LineFiles}
use Rattle.run_traces.specs.declared.traces.LineTrace.{LineTrace}
use Rattle.run_traces.specs.declared.traces.LineTrace.TheVariants as came
use Rattle.mon_script.specs.Blocks.{mark_of}
use Rattle.mon_script.specs.declared.forms.LineForm.{LineForm}
use Rattle.mon_script.specs.declared.places.Mark.{Mark}
use Rattle.mon_script.specs.declared.places.Mark.TheVariants as mark
use Rattle.mon_script.specs.declared.script.ScriptLine.{ScriptLine}

-- a place of a history, counted from 0
pub record OwnPlace : Type 0 where
  pub history : History
  pub place : ℕ

-- whether a place of a history is among these
abbrev pub is_own : List OwnPlace → History → ℕ → Bool
is_own own history place = list_any (λ (one : OwnPlace). same_history one.history history && nat_eq one.place place) own

-- A line that ran: what it says, what its files held, and what it came to; and the places of its entries, where what it
-- came to doesn't tell them from those of an equal line, as of a trim
pub record RanLine : Type 0 where
  pub what : LineForm
  pub content : LineFiles
  pub trace : LineTrace
  pub own : List OwnPlace

-- of a line that names no file, or one
abbrev pub no_files : LineFiles
no_files = record { first = []; second = [] }

abbrev pub one_file : List ℕ → LineFiles
one_file content = record { first = content; second = [] }

-- The lines of a script that have a trace, with what the files of each held, and with the places that are told of each:
-- none where these run out
abbrev pub ran_lines : List ScriptLine → List LineFiles → List LineTrace → List (List OwnPlace) → List RanLine
ran_lines [] contents traces places = []
ran_lines (line ∷ lines) [] traces places = []
ran_lines (line ∷ lines) (content ∷ contents) [] places = []
ran_lines (line ∷ lines) (content ∷ contents) (trace ∷ traces) [] =
    record { what = line.what; content = content; trace = trace; own = [] } ∷ ran_lines lines contents traces []
ran_lines (line ∷ lines) (content ∷ contents) (trace ∷ traces) (own ∷ places) =
    record { what = line.what; content = content; trace = trace; own = own } ∷ ran_lines lines contents traces places

-- ---- parts

-- the block that is under way, if one is
abbrev pub Block : Type 0
Block = Option (List RanLine)

-- the part that ends with a line, by what that does to blocks
abbrev pub part_at : Block → RanLine → Mark → List (Part RanLine)
part_at block line mark.Opens = []
part_at None line mark.Closes = []
part_at (Some lines) line mark.Closes = Beside lines ∷ []
part_at None line mark.Acts = Alone line ∷ []
part_at (Some lines) line mark.Acts = []
part_at None line mark.Lone = Alone line ∷ []
part_at (Some lines) line mark.Lone = []

-- the block that is under way behind it
abbrev pub block_behind : Block → RanLine → Mark → Block
block_behind None line mark.Opens = Some []
block_behind (Some lines) line mark.Opens = Some lines
block_behind block line mark.Closes = None
block_behind None line mark.Acts = None
block_behind (Some lines) line mark.Acts = Some (lines ++ line ∷ [])
block_behind None line mark.Lone = None
block_behind (Some lines) line mark.Lone = Some (lines ++ line ∷ [])

abbrev pub parts_from : Block → List RanLine → List (Part RanLine)
parts_from None [] = []
parts_from (Some lines) [] = Beside lines ∷ []
parts_from block (line ∷ lines) =
    part_at block line (mark_of line.what) ++ parts_from (block_behind block line (mark_of line.what)) lines

-- the parts of a script whose lines ran
abbrev pub parts_of : List RanLine → List (Part RanLine)
parts_of = parts_from None

-- whether a line does more than to begin a block or to end it
abbrev pub acts_by : Mark → Bool
acts_by mark.Opens = false
acts_by mark.Closes = false
acts_by mark.Acts = true
acts_by mark.Lone = true

abbrev pub acts : RanLine → Bool
acts line = acts_by (mark_of line.what)

-- ---- what a line accepted

abbrev pub trace_rows : LineTrace → List Row
trace_rows (came.Fed pass accepted refused) = accepted
trace_rows (came.Poured pass ends) = ends.accepted
trace_rows other = []

abbrev pub accepted_rows : RanLine → List Row
accepted_rows line = trace_rows line.trace
