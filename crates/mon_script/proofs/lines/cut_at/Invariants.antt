-- the mark isn't among the bytes so far
use Rattle.std.proofs.Common.{◌≡◌, ◌++◌, drop, option_map, take}
use Rattle.mon_script.specs.Lines.{cut_at}
use Rattle.mon_script.proofs.lines.cut_at.Given as goal

abbrev pub invariant-loop-i : goal.invariant-loop-i
invariant-loop-i l = cut_at l.mark l.text ≡ option_map (λ cut. (take l.i l.text ++ cut.0, cut.1))
    (cut_at l.mark (drop l.i l.text))
