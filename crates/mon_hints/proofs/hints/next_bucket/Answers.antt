use Rattle.std.proofs.Common.{ℕ, Bool, IfSome, IfNone, subst, ◌∙◌}
use Rattle.mon_hints.specs.BucketSets.{HasNone, IsNext}
use Rattle.mon_hints.specs.Hints.{series_buckets}
use Rattle.mon_hints.proofs.SetLemmas.{set_of_buckets}
use Rattle.mon_hints.proofs.hints.next_bucket.Goals as goal

pub returns-clause-least : goal.returns-clause-least
returns-clause-least c =
    let all = series_buckets c.args.buckets c.args.target.now c.args.metric.now c.args.key.now in
    subst (λ (set : ℕ → Bool). IfSome c.next.result (λ next. IsNext set c.args.from next)) (c.series_set.ensures.set
    ∙ set_of_buckets all)
    c.next.ensures.least

pub returns-clause-none : goal.returns-clause-none
returns-clause-none c =
    let all = series_buckets c.args.buckets c.args.target.now c.args.metric.now c.args.key.now in
    subst (λ (set : ℕ → Bool). IfNone c.next.result (HasNone set c.args.from)) (c.series_set.ensures.set
    ∙ set_of_buckets all)
    c.next.ensures.none
