use Rattle.std.proofs.Common.{◌≡◌, ◌∙◌, ◌+◌, ◌∷◌, List, ap, arith, drop, map, subst, sym}
use Rattle.std.proofs.lemmas.List.{drop_more}
use Rattle.mon_hints.proofs.MaskLemmas.{AnyLeft, any_step}
use Rattle.mon_hints.specs.Formulas.{any_holds, formula_tree, formulas, holds}
use Rattle.mon_hints.specs.Hints.{buckets_of_child}
use Rattle.mon_hints.specs.declared.formulas.Formula.{Formula}
use Rattle.plan_split.proofs.meeting.any_child.Goals as goal

pub loop-formula-preserved : goal.loop-formula-preserved
loop-formula-preserved c =
    let l = c.loop-formula in
    let several = c.args.several.now in
    let named = c.args.named.now in
    let words = c.args.words.now in
    let first = c.formula-item.result in
    let rest = drop (l.formula-index + 1) several in
    let next : drop l.formula-index several ≡ first ∷ rest =
    drop_more several l.formula-index first (omega (arith, c.loop-formula-test.true)) ∙ ap (λ y. y ∷ rest)
    (sym c.formula-item.is) in
    let left = subst (λ (trees : List Formula). AnyLeft l.children
    (λ child. any_holds (formulas (map formula_tree trees)) (buckets_of_child named words child))
    (λ child. any_holds (formulas (map formula_tree several)) (buckets_of_child named words child))) next l.invariant in
    any_step l.children c.mask-children.result
    (λ child. holds (formula_tree first) (buckets_of_child named words child))
    (λ child. any_holds (formulas (map formula_tree rest)) (buckets_of_child named words child))
    (λ child. any_holds (formulas (map formula_tree several)) (buckets_of_child named words child))
    left c.mask-children.ensures.bits
