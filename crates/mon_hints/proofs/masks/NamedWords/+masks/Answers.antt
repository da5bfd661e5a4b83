use Rattle.std.proofs.Common.{◌≡◌, ◌+◌, ◌∷◌, List, drop, map, sym, ap, ◌∙◌, subst, arith}
use Rattle.std.proofs.lemmas.List.{drop_more}
use Rattle.mon_hints.specs.Formulas.{All, FormulaTree, all_hold, any_holds, formula_tree, formulas, holds}
use Rattle.mon_hints.specs.Hints.{IsMask, buckets_of_child}
use Rattle.mon_hints.specs.declared.formulas.Formula.{Formula}
use Rattle.mon_hints.proofs.FormulaLemmas.{and_seen, or_seen}
use Rattle.mon_hints.proofs.MaskLemmas.{AllLeft, AnyLeft, all_begin, all_step, any_step, mask_of_every}
use Rattle.mon_hints.proofs.masks.NamedWords.+masks.Goals as goal

pub mask-returns-in-All : goal.mask-returns-in-All
mask-returns-in-All t c =
    let seen = c.args.self.now in
    let is : formula_tree c.args.formula.now ≡ All = ap formula_tree c.in-All.is in
    record {
      bits = subst (λ (tree : FormulaTree). IsMask 18446744073709551615
          (λ child. holds tree (buckets_of_child seen.named.now seen.words.now child)))
          (sym is) mask_of_every;
    }

pub mask-returns-in-And : goal.mask-returns-in-And
mask-returns-in-And t c =
    let seen = c.args.self.now in
    record {
      bits = subst (λ (tree : FormulaTree). IsMask c.mask_of_all.result
          (λ child. holds tree (buckets_of_child seen.named.now seen.words.now child)))
          (sym (and_seen c.args.formula.now c.in-And.all c.as_slice.result.now c.in-And.is c.as_slice.ensures.value))
          c.mask_of_all.ensures.bits;
    }

pub mask-returns-in-Or : goal.mask-returns-in-Or
mask-returns-in-Or t c =
    let seen = c.args.self.now in
    record {
      bits = subst (λ (tree : FormulaTree). IsMask c.mask_of_any.result
          (λ child. holds tree (buckets_of_child seen.named.now seen.words.now child)))
          (sym (or_seen c.args.formula.now c.in-Or.any c.as_slice-in-Or.result.now c.in-Or.is
          c.as_slice-in-Or.ensures.value)) c.mask_of_any.ensures.bits;
    }

pub mask_of_all-loop-formula-init : goal.mask_of_all-loop-formula-init
mask_of_all-loop-formula-init t c =
    let seen = c.args.self.now in
    all_begin (λ child. all_hold (formulas (map formula_tree c.args.several.now)) (buckets_of_child seen.named.now
    seen.words.now child))

pub mask_of_all-loop-formula-preserved : goal.mask_of_all-loop-formula-preserved
mask_of_all-loop-formula-preserved t c =
    let seen = c.args.self.now in
    let l = c.loop-formula in
    let several = c.args.several.now in
    let first = c.formula-item.result in
    let rest = drop (l.formula-index + 1) several in
    let next : drop l.formula-index several ≡ first ∷ rest =
    drop_more several l.formula-index first (omega (arith, c.loop-formula-test.true)) ∙ ap (λ y. y ∷ rest)
    (sym c.formula-item.is) in
    let left = subst (λ (trees : List Formula). AllLeft l.mask
    (λ child. all_hold (formulas (map formula_tree trees)) (buckets_of_child seen.named.now seen.words.now child))
    (λ child. all_hold (formulas (map formula_tree several)) (buckets_of_child seen.named.now seen.words.now child)))
    next l.invariant in
    all_step l.mask c.mask-mask.result
    (λ child. holds (formula_tree first) (buckets_of_child seen.named.now seen.words.now child))
    (λ child. all_hold (formulas (map formula_tree rest)) (buckets_of_child seen.named.now seen.words.now child))
    (λ child. all_hold (formulas (map formula_tree several)) (buckets_of_child seen.named.now seen.words.now child))
    left c.mask-mask.ensures.bits

pub mask_of_any-loop-formula-preserved : goal.mask_of_any-loop-formula-preserved
mask_of_any-loop-formula-preserved t c =
    let seen = c.args.self.now in
    let l = c.loop-formula in
    let several = c.args.several.now in
    let first = c.formula-item.result in
    let rest = drop (l.formula-index + 1) several in
    let next : drop l.formula-index several ≡ first ∷ rest =
    drop_more several l.formula-index first (omega (arith, c.loop-formula-test.true)) ∙ ap (λ y. y ∷ rest)
    (sym c.formula-item.is) in
    let left = subst (λ (trees : List Formula). AnyLeft l.mask
    (λ child. any_holds (formulas (map formula_tree trees)) (buckets_of_child seen.named.now seen.words.now child))
    (λ child. any_holds (formulas (map formula_tree several)) (buckets_of_child seen.named.now seen.words.now child)))
    next l.invariant in
    any_step l.mask c.mask-mask.result
    (λ child. holds (formula_tree first) (buckets_of_child seen.named.now seen.words.now child))
    (λ child. any_holds (formulas (map formula_tree rest)) (buckets_of_child seen.named.now seen.words.now child))
    (λ child. any_holds (formulas (map formula_tree several)) (buckets_of_child seen.named.now seen.words.now child))
    left c.mask-mask.ensures.bits
