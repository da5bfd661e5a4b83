-- The formulas so far, with those of the excerpts that are left, are all.
use Rattle.std.proofs.Common.{◌≡◌, ◌++◌, drop, map}
use Rattle.mon_hints.specs.Formulas.{formula_tree}
use Rattle.plan_split.specs.FetchFormulas.{bucket_formula}
use Rattle.plan_split.proofs.predicates.BucketSetting.all_excerpts.Given as goal

abbrev pub invariant-loop-excerpt : goal.invariant-loop-excerpt
invariant-loop-excerpt l =
    map formula_tree l.all.items
    ++ map (bucket_formula l.self.buckets l.self.schema.now l.field) (drop l.excerpt-index l.excerpts)
    ≡ map (bucket_formula l.self.buckets l.self.schema.now l.field) l.excerpts
