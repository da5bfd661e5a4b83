use Rattle.std.proofs.Common.{◌<◌, length, rules}
use Rattle.mon_fold.proofs.AggregatePartLemmas.{merged_parts-nil, row_can, row_in_bounds, row_merged}
use Rattle.mon_fold.proofs.aggregate_parts.add_to_each.Goals as goal

pub loop-i-init : goal.loop-i-init
loop-i-init c = merged_parts-nil c.args.parts.now

pub bounds-parts-i : goal.bounds-parts-i
bounds-parts-i c = row_in_bounds c.args.with.now c.args.row.now c.loop-i.i c.args.parts.now c.loop-i.parts
    c.loop-i-test.true c.loop-i.invariant c.requires

pub offset_bounds-parts-i : goal.offset_bounds-parts-i
offset_bounds-parts-i c =
    let within : c.loop-i.i < length c.loop-i.parts =
    row_in_bounds c.args.with.now c.args.row.now c.loop-i.i c.args.parts.now c.loop-i.parts c.loop-i-test.true
    c.loop-i.invariant c.requires in
    search rules

pub add_to_part-requires : goal.add_to_part-requires
add_to_part-requires c =
    row_can c.args.with.now c.args.row.now c.loop-i.i _ c.loop-i-test.true c.args.parts.now c.loop-i.parts
    c.index-parts-i.result c.loop-i.invariant c.requires

pub loop-i-preserved : goal.loop-i-preserved
loop-i-preserved c =
    row_merged c.args.with.now c.args.row.now c.loop-i.i _ c.loop-i-test.true c.args.parts.now c.loop-i.parts
    c.index-parts-i.result c.add_to_part.new.part c.loop-i.invariant c.add_to_part.ensures c.requires
