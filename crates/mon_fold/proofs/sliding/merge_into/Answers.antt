use Rattle.std.proofs.Common.{◌+◌, ◌≤◌, ◌^◌, sum, refl, sym, ap, ◌∙◌, arith}
use Rattle.mon_value.specs.Groups.{counts_added}
use Rattle.mon_value.proofs.CountsLemmas.{counts_added-nil, length-counts_added}
use Rattle.mon_fold.proofs.AlignmentLemmas.{counts_more, counts_within, long_at, no_other, told_counts, told_none}
use Rattle.mon_fold.proofs.AlignmentLemmas.{total_bounded}
use Rattle.mon_fold.proofs.sliding.merge_into.Goals as goal
use Rattle.mon_fold.proofs.sliding.merge_into.Goals.{in-Some, in_default}

pub loop-point-init : goal.loop-point-init
loop-point-init c = record { added = sym (counts_added-nil c.args.counts); long = refl }

pub merge-requires-clause-buckets : goal.merge-requires-clause-buckets
merge-requires-clause-buckets c =
    let kind = told_counts c.point-item.result.value _ c.in-Some.more.now c.in-Some.ensures.counts refl in
    let long = long_at c.args.counts c.in-Some.more.now c.args.points.now c.loop-point.point-index c.point-item.result
    c.point-item.is kind (omega arith) c.requires.alike in
    omega arith

pub merge-requires-clause-sums : goal.merge-requires-clause-sums
merge-requires-clause-sums c =
    let points = c.args.points.now in
    let i = c.loop-point.point-index in
    let kind = told_counts c.point-item.result.value _ c.in-Some.more.now c.in-Some.ensures.counts refl in
    let more = counts_more c.args.counts points i c.point-item.result c.in-Some.more.now c.point-item.is kind
    (omega arith) in
    let both = more ∙ ap (λ so_far. counts_added so_far c.in-Some.more.now) (sym c.loop-point.invariant.added) in
    let bound : sum (counts_added c.loop-point.counts c.in-Some.more.now) ≤ 2 ^ 126 =
    rw (← both) (omega (arith, total_bounded c.args.counts points (i + 1))) in
    counts_within (counts_added c.loop-point.counts c.in-Some.more.now) (2 ^ 126) bound

pub loop-point-preserved : goal.loop-point-preserved
loop-point-preserved c =
    let points = c.args.points.now in
    let i = c.loop-point.point-index in
    elim c.match-counts.branch [
      | in-Some w ↦
          let kind = told_counts c.point-item.result.value _ w.in-Some.more.now w.in-Some.ensures.counts refl in
          let more = counts_more c.args.counts points i c.point-item.result w.in-Some.more.now c.point-item.is kind
          (omega arith) in
          let long = long_at c.args.counts w.in-Some.more.now points i c.point-item.result c.point-item.is kind
          (omega arith) c.requires.alike in record {
            added = w.counts-is ∙ w.merge.ensures.added ∙ ap (λ so_far. counts_added so_far w.in-Some.more.now)
                c.loop-point.invariant.added ∙ sym more;
            long = rw (w.counts-is, w.merge.ensures.added)
                (omega (arith, length-counts_added c.loop-point.counts w.in-Some.more.now));
          }
      | in_default w ↦ absurd (no_other c.args.counts points i c.point-item.result c.point-item.is
          (told_none c.point-item.result.value _ w.in_default.ensures.counts refl) (omega arith) c.requires.alike)
    ]
