-- What was named so far, in front of what the formulas that are left name.
use Rattle.std.proofs.Common.{◌≡◌, ◌++◌, map, drop}
use Rattle.mon_hints.specs.Formulas.{all_named, formula_tree, formulas}
use Rattle.mon_hints.proofs.formulas.+naming.Given as goal

abbrev pub invariant-push_all_named-loop-formula : goal.invariant-push_all_named-loop-formula
invariant-push_all_named-loop-formula l =
    l.named.items ++ all_named (formulas (map formula_tree (drop l.formula-index l.several)))
    ≡ l.fn.named.items ++ all_named (formulas (map formula_tree l.several))
