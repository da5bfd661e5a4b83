use Rattle.std.proofs.Common.{◌∙◌, ◌∷◌, List, ℕ, sym, ap}
use Rattle.mon_script.specs.Lines.{lines_of}
use Rattle.mon_script.proofs.LineLemmas.{cut_at-shorter, lines_of-cut, whole_first}
use Rattle.mon_script.proofs.lines.next_line.Goals as goal

pub returns-in-Some-clause-first : goal.returns-in-Some-clause-first
returns-in-Some-clause-first c =
    lines_of-cut c.args.text.now _ _ (sym c.in-Some.ensures.cut)
    ∙ ap (λ (line : List ℕ). line ∷ lines_of c.in-Some.left.now) (sym c.without_return.ensures.line)

pub returns-in-Some-clause-shorter : goal.returns-in-Some-clause-shorter
returns-in-Some-clause-shorter c = cut_at-shorter c.args.text.now _ _ (sym c.in-Some.ensures.cut)

pub returns-in-None-clause-first : goal.returns-in-None-clause-first
returns-in-None-clause-first c = whole_first c.args.text.now c.whole_line.result (sym c.in-None.ensures.cut)
    c.whole_line.ensures.none
