-- the children that were found, with those that the formulas to come let in
use Rattle.std.proofs.Common.{drop, map}
use Rattle.mon_hints.specs.Formulas.{any_holds, formula_tree, formulas}
use Rattle.mon_hints.specs.Hints.{buckets_of_child}
use Rattle.mon_hints.proofs.MaskLemmas.{AnyLeft}
use Rattle.plan_split.proofs.meeting.any_child.Given as goal

abbrev pub invariant-loop-formula : goal.invariant-loop-formula
invariant-loop-formula l =
    AnyLeft l.children
    (λ child. any_holds (formulas (map formula_tree (drop l.formula-index l.several)))
    (buckets_of_child l.named l.words child))
    (λ child. any_holds (formulas (map formula_tree l.several)) (buckets_of_child l.named l.words child))
