use Rattle.std.proofs.Common.{◌+◌, arith}
use Rattle.std.proofs.lemmas.Int.{ints}
use Rattle.mon_fold.proofs.AlignmentLemmas.{sum_bounded, sum_more}
use Rattle.mon_fold.proofs.sliding.long_sum.Goals as goal

pub overflow_add-sum : goal.overflow_add-sum
overflow_add-sum c =
    let points = c.args.window.now in
    let i = c.loop-point.point-index in
    let more = sum_more points i c.point-item.result c.point-item.is (omega arith) in
    let bound = sum_bounded points (i + 1) in
    omega (arith, ints)

pub loop-point-preserved : goal.loop-point-preserved
loop-point-preserved c =
    let points = c.args.window.now in
    let i = c.loop-point.point-index in
    let more = sum_more points i c.point-item.result c.point-item.is (omega arith) in
    let bound = sum_bounded points (i + 1) in
    omega (arith, ints)
