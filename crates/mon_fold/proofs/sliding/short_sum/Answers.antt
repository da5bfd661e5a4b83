use Rattle.std.proofs.Common.{◌+◌, arith}
use Rattle.std.proofs.lemmas.Int.{ints}
use Rattle.mon_fold.proofs.AlignmentLemmas.{sum_bounded, sum_more, sum_single}
use Rattle.mon_fold.proofs.sliding.short_sum.Goals as goal

pub overflow_add-sum : goal.overflow_add-sum
overflow_add-sum c =
    let points = c.args.window.now in
    let i = c.loop-point.point-index in
    let point = c.point-item.result in
    let more = sum_more points i point c.point-item.is (omega arith) in
    let bound = sum_bounded points (i + 1) in
    let single = sum_single point.value c.in_ok-short_number.field-0 c.in_ok-short_number.ensures.number in
    omega (arith, ints)

pub loop-point-preserved : goal.loop-point-preserved
loop-point-preserved c =
    let points = c.args.window.now in
    let i = c.loop-point.point-index in
    let point = c.point-item.result in
    let more = sum_more points i point c.point-item.is (omega arith) in
    let bound = sum_bounded points (i + 1) in
    let single = sum_single point.value c.in_ok-short_number.field-0 c.in_ok-short_number.ensures.number in
    omega (arith, ints)
