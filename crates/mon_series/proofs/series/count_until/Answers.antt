use Rattle.std.proofs.Common.{refl, sym, ◌∙◌, rules, arith}
use Rattle.std.specs.Prelude.{int_le, int_lt}
use Rattle.std.proofs.Math.Seq.{drop-length, take-length}
use Rattle.std.proofs.lemmas.Int.{ints}
use Rattle.std.proofs.lemmas.List.Sorted.{IsPartitionPoint-from_clause}
use Rattle.mon_series.proofs.EndsRiseLemmas.{ended_first}
use Rattle.mon_series.proofs.SplitLemmas.{after_all, filter_first, filter_last, until_all}
use Rattle.mon_series.proofs.series.count_until.Goals as goal

pub returns-then-all_end_until-clause-ended : goal.returns-then-all_end_until-clause-ended
returns-then-all_end_until-clause-ended c =
    let points = c.args.points.now in
    take-length points ∙ sym (until_all c.args.time _ points (search rules) (c.if-all_end_until.ensures refl)).0

pub returns-then-all_end_until-clause-later : goal.returns-then-all_end_until-clause-later
returns-then-all_end_until-clause-later c =
    let points = c.args.points.now in
    drop-length points ∙ sym (until_all c.args.time _ points (search rules) (c.if-all_end_until.ensures refl)).1

pub returns-then-all_end_after-clause-ended : goal.returns-then-all_end_after-clause-ended
returns-then-all_end_after-clause-ended c =
    sym (after_all c.args.time _ c.args.points.now (search rules) (c.if-all_end_after.ensures refl)).0

pub returns-then-all_end_after-clause-later : goal.returns-then-all_end_after-clause-later
returns-then-all_end_after-clause-later c =
    sym (after_all c.args.time _ c.args.points.now (search rules) (c.if-all_end_after.ensures refl)).1

pub returns-else-all_end_after-clause-ended : goal.returns-else-all_end_after-clause-ended
returns-else-all_end_after-clause-ended c =
    let point = IsPartitionPoint-from_clause (λ p. int_le p.end c.args.time) _ _ c.partition_point.ensures.partitioned
    (ended_first c.args.points.now c.args.time c.requires) (λ a r q k. search rules) in
    filter_first (λ p. int_le p.end c.args.time) c.args.points.now c.partition_point.result point.0 point.1
    c.partition_point.ensures.bound

pub returns-else-all_end_after-clause-later : goal.returns-else-all_end_after-clause-later
returns-else-all_end_after-clause-later c =
    let point = IsPartitionPoint-from_clause (λ p. int_le p.end c.args.time) _ _ c.partition_point.ensures.partitioned
    (ended_first c.args.points.now c.args.time c.requires) (λ a r q k. search rules) in
    filter_last (λ p. int_lt c.args.time p.end) c.args.points.now c.partition_point.result (λ k d l h. let e =
    point.0 k d l h in grind (arith, ints)) (λ k d l h. let e = point.1 k d l h in grind (arith, ints))
    c.partition_point.ensures.bound
