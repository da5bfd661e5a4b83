use Rattle.std.proofs.Common.{refl}
use Rattle.mon_fold.proofs.AggregatePartLemmas.{merge_over}
use Rattle.mon_fold.proofs.aggregate_parts.part_of_row.Goals as goal

pub returns-in_ok-counts_at-in-None : goal.returns-in_ok-counts_at-in-None
returns-in_ok-counts_at-in-None c =
    merge_over c.args.aggregate.now.what c.args.aggregate.now.column c.args.row.now c.in_ok-counts_at-in-None.field-0
    (c.in-None.ensures.merge refl) c.in_ok-counts_at-in-None.ensures
