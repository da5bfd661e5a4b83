use Rattle.std.proofs.Common.{refl, sym, ap, subst, ◌∙◌}
use Rattle.mon_fold.proofs.AggregatePartLemmas.{merge_over}
use Rattle.mon_fold.specs.PartialGroups.{CanMergePart, merged_part}
use Rattle.mon_fold.specs.declared.aggregate_parts.AggregatePart.{AggregatePart}
use Rattle.mon_fold.proofs.aggregate_parts.add_to_part.Goals as goal

pub add_counts-requires : goal.add_counts-requires
add_counts-requires c =
    let part = merge_over c.args.aggregate.now.what c.args.aggregate.now.column c.args.row.now
    _ (c.in-None.ensures.merge refl) c.distribution_at.ensures in
    subst (λ (p : AggregatePart). CanMergePart c.args.part.now p) (sym part) c.requires

pub returns-in-None : goal.returns-in-None
returns-in-None c =
    let part = merge_over c.args.aggregate.now.what c.args.aggregate.now.column c.args.row.now
    _ (c.in-None.ensures.merge refl) c.distribution_at.ensures in
    c.add_counts.ensures ∙ ap (λ (p : AggregatePart). merged_part c.args.part.now p) part
