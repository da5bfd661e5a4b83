-- Plans ask for what lines say, for what their files held, for what they came to and for what they print, and not for the
-- places of their own entries.
use Rattle.std.proofs.Common.{◌≡◌, ◌∙◌, List, [], ◌∷◌, ◌++◌, map, Some, None, refl, sym, ap}
use Rattle.std.proofs.lemmas.List.{map-append}
use Rattle.mon_config.specs.declared.config.Config.{Config}
use Rattle.mon_script.specs.Blocks.{mark_of}
use Rattle.mon_script.specs.declared.places.Mark.{Mark}
use Rattle.mon_script.specs.declared.places.Mark.TheVariants as mark
use Rattle.mon_script.specs.declared.script.ScriptLine.{ScriptLine}
use Rattle.mon_value.specs.declared.histories.Histories.{Histories}
use Rattle.mon_run.specs.Plans.{lines_read, part_plan, parts_plan}
use Rattle.mon_run.specs.Steps.{End, Plan, Print, Step, plan_behind}
use Rattle.run_theory.specs.Parts.{Alone, Beside, Part}
use Rattle.run_traces.specs.LineTexts.{line_text}
use Rattle.run_traces.specs.RanLines.{Block, OwnPlace, RanLine, block_behind, part_at, parts_from, parts_of, ran_lines}
use Rattle.run_traces.specs.declared.line_files.LineFiles.{LineFiles}
use Rattle.run_traces.specs.declared.traces.LineTrace.{LineTrace}
use Rattle.run_traces.specs.declared.traces.LineTrace.TheVariants as came

-- a line without its places
abbrev plain : RanLine → RanLine
plain line = record { what = line.what; content = line.content; trace = line.trace; own = [] }

plain_lines : (lines : List ScriptLine) (contents : List LineFiles) (traces : List LineTrace)
    (places : List (List OwnPlace)) → ran_lines lines contents traces [] ≡ map plain (ran_lines lines contents traces places)
plain_lines [] contents traces places = refl
plain_lines (line ∷ lines) [] traces places = refl
plain_lines (line ∷ lines) (content ∷ contents) [] places = refl
plain_lines (line ∷ lines) (content ∷ contents) (trace ∷ traces) [] =
    ap (λ (ran : List RanLine). record { what = line.what; content = content; trace = trace; own = [] } ∷ ran)
    (plain_lines lines contents traces [])
plain_lines (line ∷ lines) (content ∷ contents) (trace ∷ traces) (own ∷ places) =
    ap (λ (ran : List RanLine). record { what = line.what; content = content; trace = trace; own = [] } ∷ ran)
    (plain_lines lines contents traces places)

-- ---- parts

abbrev plain_part : Part RanLine → Part RanLine
plain_part (Alone line) = Alone (plain line)
plain_part (Beside lines) = Beside (map plain lines)

abbrev plain_block : Block → Block
plain_block None = None
plain_block (Some lines) = Some (map plain lines)

at_plain : (block : Block) (line : RanLine) (what : Mark)
    → part_at (plain_block block) (plain line) what ≡ map plain_part (part_at block line what)
at_plain None line mark.Opens = refl
at_plain None line mark.Closes = refl
at_plain None line mark.Acts = refl
at_plain None line mark.Lone = refl
at_plain (Some lines) line mark.Opens = refl
at_plain (Some lines) line mark.Closes = refl
at_plain (Some lines) line mark.Acts = refl
at_plain (Some lines) line mark.Lone = refl

abbrev some_block : List RanLine → Block
some_block lines = Some lines

behind_plain : (block : Block) (line : RanLine) (what : Mark)
    → block_behind (plain_block block) (plain line) what ≡ plain_block (block_behind block line what)
behind_plain None line mark.Opens = refl
behind_plain None line mark.Closes = refl
behind_plain None line mark.Acts = refl
behind_plain None line mark.Lone = refl
behind_plain (Some lines) line mark.Opens = refl
behind_plain (Some lines) line mark.Closes = refl
behind_plain (Some lines) line mark.Acts = ap some_block (sym (map-append plain lines (line ∷ [])))
behind_plain (Some lines) line mark.Lone = ap some_block (sym (map-append plain lines (line ∷ [])))

from_plain : (block : Block) (lines : List RanLine)
    → parts_from (plain_block block) (map plain lines) ≡ map plain_part (parts_from block lines)
from_plain None [] = refl
from_plain (Some before) [] = refl
from_plain None (line ∷ lines) =
    (λ i. at_plain None line (mark_of line.what) i
    ++ parts_from (behind_plain None line (mark_of line.what) i) (map plain lines))
    ∙ ap (λ (rest : List (Part RanLine)). map plain_part (part_at None line (mark_of line.what)) ++ rest)
    (from_plain (block_behind None line (mark_of line.what)) lines)
    ∙ sym (map-append plain_part (part_at None line (mark_of line.what))
    (parts_from (block_behind None line (mark_of line.what)) lines))
from_plain (Some before) (line ∷ lines) =
    (λ i. at_plain (Some before) line (mark_of line.what) i
    ++ parts_from (behind_plain (Some before) line (mark_of line.what) i) (map plain lines))
    ∙ ap (λ (rest : List (Part RanLine)). map plain_part (part_at (Some before) line (mark_of line.what)) ++ rest)
    (from_plain (block_behind (Some before) line (mark_of line.what)) lines)
    ∙ sym (map-append plain_part (part_at (Some before) line (mark_of line.what))
    (parts_from (block_behind (Some before) line (mark_of line.what)) lines))

-- ---- plans

-- what doesn't ask for places is the same of lines without them
same_of : {X : Type 0} (f : RanLine → X) → ((line : RanLine) → f (plain line) ≡ f line) → (lines : List RanLine)
    → map f (map plain lines) ≡ map f lines
same_of f same [] = refl
same_of {X} f same (line ∷ lines) = λ i. same line i ∷ same_of f same lines i

module _ (config : Config) (later : Histories) where
  part_same : (part : Part RanLine) (rest : Plan)
      → part_plan (line_text config later) (plain_part part) rest ≡ part_plan (line_text config later) part rest
  part_same (Alone line) rest = refl
  part_same (Beside lines) rest = λ i.
      lines_read (same_of (λ (line : RanLine). line.what) (λ line. refl) lines i)
      (same_of (λ (line : RanLine). line.content) (λ line. refl) lines i)
      (plan_behind (End came.Done ∷ (same_of (λ (line : RanLine). End line.trace) (λ line. refl) lines i
      ++ End came.Done ∷ same_of (λ (line : RanLine). Print (line_text config later line)) (λ line. refl) lines i)) rest)

  parts_same : (parts : List (Part RanLine)) (rest : Plan)
      → parts_plan (line_text config later) (map plain_part parts) rest ≡ parts_plan (line_text config later) parts rest
  parts_same [] rest = refl
  parts_same (part ∷ parts) rest =
      part_same part (parts_plan (line_text config later) (map plain_part parts) rest)
      ∙ ap (part_plan (line_text config later) part) (parts_same parts rest)

  -- lines that ran have the same plan with the places of their own entries and without them
  pub plain_plan : (lines : List ScriptLine) (contents : List LineFiles) (traces : List LineTrace)
      (places : List (List OwnPlace)) (rest : Plan)
      → parts_plan (line_text config later) (parts_of (ran_lines lines contents traces [])) rest
      ≡ parts_plan (line_text config later) (parts_of (ran_lines lines contents traces places)) rest
  plain_plan lines contents traces places rest =
      ap (λ (ran : List RanLine). parts_plan (line_text config later) (parts_of ran) rest)
      (plain_lines lines contents traces places)
      ∙ ap (λ (parts : List (Part RanLine)). parts_plan (line_text config later) parts rest)
      (from_plain None (ran_lines lines contents traces places))
      ∙ parts_same (parts_of (ran_lines lines contents traces places)) rest
