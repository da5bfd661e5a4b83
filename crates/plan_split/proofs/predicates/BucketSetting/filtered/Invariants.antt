-- The formula so far, with the filters that are left, is the whole.
use Rattle.std.proofs.Common.{◌≡◌, length}
use Rattle.mon_hints.specs.Formulas.{formula_tree}
use Rattle.plan_split.specs.FormulaLinks.{filtered_formula}
use Rattle.plan_split.proofs.predicates.BucketSetting.filtered.Given as goal

abbrev pub invariant-loop-by : goal.invariant-loop-by
invariant-loop-by l =
    filtered_formula l.self.buckets l.self.schema.now l.rest.items (formula_tree l.filtered)
    ≡ filtered_formula l.self.buckets l.self.schema.now l.fn.filters.items (formula_tree l.fn.formula)

abbrev pub decreases-loop-by : goal.decreases-loop-by
decreases-loop-by l = length l.rest.items
