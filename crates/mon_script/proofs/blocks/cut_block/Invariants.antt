-- no line so far ends the block
use Rattle.std.proofs.Common.{◌≡◌, ◌++◌, drop, option_map, take}
use Rattle.mon_script.specs.Blocks.{cut_block}
use Rattle.mon_script.proofs.blocks.cut_block.Given as goal

abbrev pub invariant-loop-i : goal.invariant-loop-i
invariant-loop-i l = cut_block l.lines ≡ option_map (λ cut. (take l.i l.lines ++ cut.0, cut.1))
    (cut_block (drop l.i l.lines))
