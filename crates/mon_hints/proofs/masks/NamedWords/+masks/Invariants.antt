-- The children that are left or found, with what the formulas to come say.
use Rattle.std.proofs.Common.{drop, map}
use Rattle.mon_hints.specs.Formulas.{all_hold, any_holds, formula_tree, formulas}
use Rattle.mon_hints.specs.Hints.{buckets_of_child}
use Rattle.mon_hints.proofs.MaskLemmas.{AllLeft, AnyLeft}
use Rattle.mon_hints.proofs.masks.NamedWords.+masks.Given as goal

abbrev pub invariant-mask_of_all-loop-formula : goal.invariant-mask_of_all-loop-formula
invariant-mask_of_all-loop-formula l =
    AllLeft l.mask
    (λ child. all_hold (formulas (map formula_tree (drop l.formula-index l.several)))
    (buckets_of_child l.self.named.now l.self.words.now child))
    (λ child. all_hold (formulas (map formula_tree l.several)) (buckets_of_child l.self.named.now l.self.words.now
    child))

abbrev pub invariant-mask_of_any-loop-formula : goal.invariant-mask_of_any-loop-formula
invariant-mask_of_any-loop-formula l =
    AnyLeft l.mask
    (λ child. any_holds (formulas (map formula_tree (drop l.formula-index l.several)))
    (buckets_of_child l.self.named.now l.self.words.now child))
    (λ child. any_holds (formulas (map formula_tree l.several)) (buckets_of_child l.self.named.now l.self.words.now
    child))
