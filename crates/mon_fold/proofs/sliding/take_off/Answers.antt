use Rattle.std.proofs.Common.{◌≡◌, ◌+◌, ◌≤◌, get_or, length, refl, ap, ◌∙◌, arith}
use Rattle.mon_value.proofs.ListLendsLemmas.{items_written-all}
use Rattle.mon_fold.proofs.AlignmentLemmas.{long_at, no_other, told_counts, told_none}
use Rattle.mon_fold.proofs.SlidingLemmas.{count_more, count_within}
use Rattle.mon_fold.proofs.sliding.take_off.Goals as goal
use Rattle.mon_fold.proofs.sliding.take_off.Goals.{in-Some, in_default}

pub subtract-requires-clause-buckets : goal.subtract-requires-clause-buckets
subtract-requires-clause-buckets c =
    let kind = told_counts c.point-item.result.value _ c.in-Some.less.now c.in-Some.ensures.counts refl in
    let long = long_at c.args.counts c.in-Some.less.now c.args.points.now c.loop-point.point-index c.point-item.result
    c.point-item.is kind (omega arith) c.requires.alike in
    rw (c.as_slice.ensures.items, c.as_mut_slice.ensures.items, c.loop-point.invariant.long) long

pub subtract-requires-clause-held : goal.subtract-requires-clause-held
subtract-requires-clause-held c k =
    let points = c.args.points.now in
    let i = c.loop-point.point-index in
    let kind = told_counts c.point-item.result.value _ c.in-Some.less.now c.in-Some.ensures.counts refl in
    let more = count_more points i c.point-item.result c.in-Some.less.now c.point-item.is kind (omega arith) k in
    let bound : get_or c.in-Some.less.now k 0 ≤ get_or c.loop-point.counts k 0 =
    omega (arith, more, count_within points (i + 1) k, c.requires.held k, c.loop-point.invariant.taken k) in
    rw (c.as_slice.ensures.items, c.as_mut_slice.ensures.items) bound

pub loop-point-preserved : goal.loop-point-preserved
loop-point-preserved c =
    let points = c.args.points.now in
    let i = c.loop-point.point-index in
    elim c.match-counts.branch [
      | in-Some w ↦
          let kind = told_counts c.point-item.result.value _ w.in-Some.less.now w.in-Some.ensures.counts refl in
          let written : c.match-counts.counts ≡ w.subtract.new.counts = w.counts-is ∙ items_written-all
          c.loop-point.counts w.subtract.new.counts
          (omega (arith, w.subtract.ensures.buckets, ap length w.as_mut_slice.ensures.items)) in record {
            taken = λ k.
                let more = count_more points i c.point-item.result w.in-Some.less.now c.point-item.is kind
                (omega arith) k in
                omega (
                  arith,
                  more,
                  c.loop-point.invariant.taken k,
                  w.subtract.ensures.taken k,
                  ap (λ counts. get_or counts k 0) written,
                  ap (λ counts. get_or counts k 0) w.as_slice.ensures.items,
                  ap (λ counts. get_or counts k 0) w.as_mut_slice.ensures.items,
                );
            long = omega (
              arith,
              ap length written,
              w.subtract.ensures.buckets,
              ap length w.as_mut_slice.ensures.items,
              c.loop-point.invariant.long,
            );
          }
      | in_default w ↦ absurd (no_other c.args.counts points i c.point-item.result c.point-item.is
          (told_none c.point-item.result.value _ w.in_default.ensures.counts refl) (omega arith) c.requires.alike)
    ]
