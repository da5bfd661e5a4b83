use Rattle.std.proofs.Common.{◌<◌, length, rules}
use Rattle.kept_groups.proofs.LoopLemmas.{bounds_at, can_at, traded_at}
use Rattle.kept_groups.proofs.trades.trade_each.Goals as goal

pub bounds-parts-i : goal.bounds-parts-i
bounds-parts-i c =
    bounds_at c.args.gone.now c.args.come.now c.args.with.now c.args.parts.now c.loop-i.parts c.loop-i.i
    c.loop-i-test.true c.requires c.loop-i.invariant

pub offset_bounds-parts-i : goal.offset_bounds-parts-i
offset_bounds-parts-i c =
    let within : c.loop-i.i < length c.loop-i.parts =
    bounds_at c.args.gone.now c.args.come.now c.args.with.now c.args.parts.now c.loop-i.parts c.loop-i.i
    c.loop-i-test.true c.requires c.loop-i.invariant in
    search rules

pub trade_part-requires : goal.trade_part-requires
trade_part-requires c =
    can_at c.args.gone.now c.args.come.now c.args.with.now c.args.parts.now c.loop-i.parts c.loop-i.i
    c.loop-i-test.true c.requires c.loop-i.invariant _ c.index-parts-i.result

pub loop-i-preserved : goal.loop-i-preserved
loop-i-preserved c =
    traded_at c.args.gone.now c.args.come.now c.args.with.now c.args.parts.now c.loop-i.parts c.loop-i.i
    c.loop-i-test.true c.requires c.loop-i.invariant _ c.index-parts-i.result c.trade_part.new.part c.trade_part.ensures
