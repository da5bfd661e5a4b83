-- How the lines of a script are cut into parts, one after another.
use Rattle.std.specs.Prelude.{List, Option, Some, None}
use Rattle.mon_script.specs.Blocks.{cut_block, mark_of}
use Rattle.mon_script.specs.declared.places.Mark.{Mark}
use Rattle.mon_script.specs.declared.places.Mark.TheVariants as mark
use Rattle.mon_script.specs.declared.script.ScriptLine.{ScriptLine}

abbrev pub Cut : Type 0
Cut = Option (List ScriptLine × List ScriptLine)

abbrev pub cut_by : Mark → List ScriptLine → Cut
cut_by mark.Opens behind = cut_block behind
cut_by mark.Closes behind = None
cut_by mark.Acts behind = None
cut_by mark.Lone behind = None

-- the lines of the block that a line begins, if it begins one, and those behind its end
abbrev pub block_behind : ScriptLine → List ScriptLine → Cut
block_behind line behind = cut_by (mark_of line.what) behind

abbrev pub left_by : Cut → List ScriptLine → List ScriptLine
left_by (Some cut) behind = cut.1
left_by None behind = behind

-- the lines behind a part: behind the line, or behind the end of its block
abbrev pub left_behind : ScriptLine → List ScriptLine → List ScriptLine
left_behind line behind = left_by (block_behind line behind) behind
