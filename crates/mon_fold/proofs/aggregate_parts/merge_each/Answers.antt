use Rattle.mon_fold.proofs.AggregatePartLemmas.{in_bounds, merged_parts-nil, next_can_at, next_merged_at}
use Rattle.mon_fold.proofs.aggregate_parts.merge_each.Goals as goal

pub loop-i-init : goal.loop-i-init
loop-i-init c = merged_parts-nil c.args.into.now

pub bounds-into-i : goal.bounds-into-i
bounds-into-i c = in_bounds c.args.into.now c.args.others.now c.loop-i.into c.loop-i.i c.loop-i.invariant
    c.loop-i-test.true c.requires

pub merge_part-requires : goal.merge_part-requires
merge_part-requires c =
    next_can_at c.args.into.now c.args.others.now c.loop-i.into c.loop-i.i c.index-into-i.result
    c.index-others-i.result c.loop-i.invariant c.index-others-i.is c.loop-i-test.true c.requires

pub loop-i-preserved : goal.loop-i-preserved
loop-i-preserved c =
    next_merged_at c.args.into.now c.args.others.now c.loop-i.into c.loop-i.i c.index-into-i.result
    c.index-others-i.result c.merge_part.new.into c.loop-i.invariant c.index-others-i.is c.merge_part.ensures
    c.loop-i-test.true c.requires
