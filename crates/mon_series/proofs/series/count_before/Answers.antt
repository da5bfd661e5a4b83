use Rattle.std.proofs.Common.{ap, not, rules}
use Rattle.std.specs.Prelude.{int_lt}
use Rattle.std.proofs.lemmas.List.Sorted.{IsPartitionPoint-from_clause}
use Rattle.mon_series.proofs.SplitLemmas.{filter_first, filter_last}
use Rattle.mon_series.proofs.StandingLemmas.{before_first}
use Rattle.mon_series.proofs.series.count_before.Goals as goal

pub returns-clause-ended : goal.returns-clause-ended
returns-clause-ended c =
    let point = IsPartitionPoint-from_clause (λ p. int_lt p.end c.args.before) _ _ c.partition_point.ensures.partitioned
    (before_first c.args.points.now c.args.before c.requires) (λ a r q k. search rules) in
    filter_first (λ p. int_lt p.end c.args.before) c.args.points.now c.partition_point.result point.0 point.1
    c.partition_point.ensures.bound

pub returns-clause-later : goal.returns-clause-later
returns-clause-later c =
    let point = IsPartitionPoint-from_clause (λ p. int_lt p.end c.args.before) _ _ c.partition_point.ensures.partitioned
    (before_first c.args.points.now c.args.before c.requires) (λ a r q k. search rules) in
    filter_last (λ p. not (int_lt p.end c.args.before)) c.args.points.now c.partition_point.result
    (λ k d l h. ap not (point.0 k d l h)) (λ k d l h. ap not (point.1 k d l h))
    c.partition_point.ensures.bound
