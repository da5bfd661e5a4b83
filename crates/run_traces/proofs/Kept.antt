-- No line is lost or moved as lines are taken for parts.
use Rattle.std.proofs.Common.{◌≡◌, cond, List, [], ◌∷◌, ◌++◌, Some, None, filter, refl, ap, ◌∙◌}
use Rattle.std.proofs.Common.{append_assoc}
use Rattle.run_theory.specs.Parts.{all_lines}
use Rattle.run_traces.specs.RanLines.{Block, RanLine, acts, acts_by, block_behind, part_at, parts_from, parts_of}
use Rattle.mon_script.specs.Blocks.{mark_of}
use Rattle.mon_script.specs.declared.places.Mark.{Mark}
use Rattle.mon_script.specs.declared.places.Mark.TheVariants as mark

-- the lines of the block that is under way
abbrev open_lines : Block → List RanLine
open_lines None = []
open_lines (Some lines) = lines

step : (block : Block) (line : RanLine) (lines : List RanLine) (what : Mark)
    → ((next : Block) → all_lines (parts_from next lines) ≡ open_lines next ++ filter acts lines)
    → all_lines (part_at block line what ++ parts_from (block_behind block line what) lines)
    ≡ open_lines block ++ cond (acts_by what) (line ∷ filter acts lines) (filter acts lines)
step None line lines mark.Opens rest = rest (Some [])
step (Some some) line lines mark.Opens rest = rest (Some some)
step None line lines mark.Closes rest = rest None
step (Some some) line lines mark.Closes rest = ap (λ w. some ++ w) (rest None)
step None line lines mark.Acts rest = ap (λ w. line ∷ w) (rest None)
step (Some some) line lines mark.Acts rest =
    rest (Some (some ++ line ∷ [])) ∙ append_assoc some (line ∷ []) (filter acts lines)
step None line lines mark.Lone rest = ap (λ w. line ∷ w) (rest None)
step (Some some) line lines mark.Lone rest =
    rest (Some (some ++ line ∷ [])) ∙ append_assoc some (line ∷ []) (filter acts lines)

kept_from : (lines : List RanLine) (block : Block)
    → all_lines (parts_from block lines) ≡ open_lines block ++ filter acts lines
kept_from [] None = refl
kept_from [] (Some some) = refl
kept_from (line ∷ lines) block = step block line lines (mark_of line.what) (kept_from lines)

pub lines_kept : (lines : List RanLine) → all_lines (parts_of lines) ≡ filter acts lines
lines_kept lines = kept_from lines None
