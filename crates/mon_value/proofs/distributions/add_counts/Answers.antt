use Rattle.std.proofs.Common.{sym, arith}
use Rattle.mon_value.proofs.CountsLemmas.{counts_added-nil, counts_added-take_at, counts_added-take_more}
use Rattle.mon_value.proofs.CountsLemmas.{length-counts_added}
use Rattle.mon_value.proofs.distributions.add_counts.Goals as goal

pub loop-i-init : goal.loop-i-init
loop-i-init c = sym (counts_added-nil c.args.counts.now)

pub overflow_add-counts : goal.overflow_add-counts
overflow_add-counts c =
    let before = c.args.counts.now in
    let others = c.args.others.now in
    let i = c.loop-i.i in
    let bound = c.requires.sums i 0 (omega (arith, length-counts_added before others)) in
    let here = counts_added-take_at before others i in
    rw c.loop-i.invariant (omega arith)

pub loop-i-preserved : goal.loop-i-preserved
loop-i-preserved c =
    let before = c.args.counts.now in
    let others = c.args.others.now in
    let i = c.loop-i.i in
    let more = counts_added-take_more before others i (omega arith) (omega arith) in
    rw (c.loop-i.invariant, more)
