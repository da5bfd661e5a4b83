-- Where lines stand: outside of any block, or in a block behind so many lines.
use Rattle.std.specs.Prelude.{ℕ, nat_lt, ◌+◌, ◌==◌, Bool, List, codes, Option, Some, None, Result, Ok, Err}
use Rattle.std.specs.Prelude.{if◌then◌else◌, ◌<◌, true, false, [], ◌∷◌, option_map}
use Rattle.std.specs.List.{list_any}
use Rattle.std.specs.Bool.{⊤}
use Rattle.mon_value.specs.Answers.{◌>>=◌}
use Rattle.mon_value.specs.Same.{same_text}
use Rattle.mon_script.specs.declared.faults.ScriptKind.{ScriptKind}
use Rattle.mon_script.specs.declared.faults.ScriptKind.TheVariants as kind
use Rattle.mon_script.specs.declared.forms.BlockMark.{BlockMark}
use Rattle.mon_script.specs.declared.forms.BlockMark.TheVariants as block
use Rattle.mon_script.specs.declared.forms.LineForm.{LineForm}
use Rattle.mon_script.specs.declared.forms.LineForm.TheVariants as form
use Rattle.mon_script.specs.declared.places.Mark.{Mark}
use Rattle.mon_script.specs.declared.places.Mark.TheVariants as mark
use Rattle.mon_script.specs.declared.places.TheConstants.{MOST_LINES, MOST_LINES_OF_BLOCK}
use Rattle.mon_script.specs.declared.script.ScriptLine.{ScriptLine}

-- Where lines stand: outside of any block, or in a block behind so many lines.

abbrev pub block_mark : BlockMark → Mark
block_mark block.Together = mark.Opens
block_mark block.End = mark.Closes

abbrev pub mark_of : LineForm → Mark
mark_of (form.Feed name) = mark.Acts
mark_of (form.Pour first second) = mark.Acts
mark_of (form.Ask question) = mark.Acts
mark_of (form.Follow moments text) = mark.Lone
mark_of (form.Control control) = mark.Acts
mark_of (form.Standing line) = mark.Lone
mark_of (form.Block what) = block_mark what

-- whether one of these lines ends a block
abbrev pub has_end : List (List ℕ) → Bool
has_end = list_any (λ line. same_text line (codes "end"))

abbrev pub one_more : ℕ → Result (Option ℕ) ScriptKind
one_more lines = if nat_lt lines MOST_LINES_OF_BLOCK then Ok (Some (lines + 1)) else Err kind.BlockFull

-- in a block, behind so many lines: no other block begins, its end isn't the first, and what is to stand outside of
-- blocks doesn't stand there
abbrev pub in_block : ℕ → Mark → Result (Option ℕ) ScriptKind
in_block lines mark.Opens = Err kind.Nested
in_block lines mark.Closes = if lines == 0 then Err kind.NoEnd else Ok None
in_block lines mark.Acts = one_more lines
in_block lines mark.Lone = do
  next ← one_more lines
  Err kind.NotInBlock

-- outside of blocks: one begins where some line behind ends it
abbrev pub outside : Mark → List (List ℕ) → Result (Option ℕ) ScriptKind
outside mark.Opens left = if has_end left then Ok (Some 0) else Err kind.NoEnd
outside mark.Closes left = Err kind.NoEnd
outside mark.Acts left = Ok None
outside mark.Lone left = Ok None

-- where the next line stands, or why this one may not stand here
abbrev pub next_place : Option ℕ → Mark → List (List ℕ) → Result (Option ℕ) ScriptKind
next_place (Some lines) what left = in_block lines what
next_place None what left = outside what left

-- the same of the line of a number: a script has not more than so many lines
abbrev pub stand_at : ℕ → Option ℕ → Mark → List (List ℕ) → Result (Option ℕ) ScriptKind
stand_at number place what left = do
  next ← next_place place what left
  if nat_lt MOST_LINES number then Err kind.TooManyLines else Ok next

-- The blocks of a script that was read: each begins outside of blocks, has a line, and not too many, and ends.

-- a line may stand outside of blocks, or in one behind so many lines, and the rest where it leaves off
abbrev pub StandsBefore : Option ℕ → Mark → (Option ℕ → Type 0) → Type 0
StandsBefore None mark.Opens Rest = Rest (Some 0)
StandsBefore None mark.Closes Rest = ⊥
StandsBefore None mark.Acts Rest = Rest None
StandsBefore None mark.Lone Rest = Rest None
StandsBefore (Some lines) mark.Opens Rest = ⊥
StandsBefore (Some lines) mark.Closes Rest = (0 < lines) × Rest None
StandsBefore (Some lines) mark.Acts Rest = (lines < MOST_LINES_OF_BLOCK) × Rest (Some (lines + 1))
StandsBefore (Some lines) mark.Lone Rest = ⊥

-- each line may stand where it does, from outside of blocks or from a block with so many lines; and all blocks end
abbrev pub AreInBlocks : Option ℕ → List ScriptLine → Type 0
AreInBlocks None [] = ⊤
AreInBlocks (Some lines) [] = ⊥
AreInBlocks place (line ∷ rest) = StandsBefore place (mark_of line.what) (λ next. AreInBlocks next rest)

abbrev pub ends_by : Mark → Bool
ends_by mark.Opens = false
ends_by mark.Closes = true
ends_by mark.Acts = false
ends_by mark.Lone = false

-- whether a line ends a block
abbrev pub ends_block : ScriptLine → Bool
ends_block line = ends_by (mark_of line.what)

-- the lines of a block, and those behind its end
abbrev pub cut_block : List ScriptLine → Option (List ScriptLine × List ScriptLine)
cut_block [] = None
cut_block (line ∷ lines) =
    if ends_block line then Some ([], lines)
    else option_map (λ cut. (line ∷ cut.0, cut.1)) (cut_block lines)
