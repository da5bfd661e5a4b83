-- What was copied so far has the trees of the first ones.
use Rattle.std.proofs.Common.{◌≡◌, map, take}
use Rattle.mon_hints.specs.Formulas.{formula_tree}
use Rattle.mon_hints.proofs.formulas.+copies.Given as goal

abbrev pub invariant-copied_formulas-loop-formula : goal.invariant-copied_formulas-loop-formula
invariant-copied_formulas-loop-formula l = map formula_tree l.copied.items ≡ map formula_tree
    (take l.formula-index l.several)
