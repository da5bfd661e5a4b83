use Rattle.std.proofs.Common.{◌≡◌, ◌+◌, ◌≤◌, ◌+ℤ◌, sum_by, unsigned_abs, refl, sym, arith}
use Rattle.std.proofs.lemmas.Int.{ints}
use Rattle.mon_value.specs.Grids.{values_of}
use Rattle.mon_value.specs.Values.{magnitude}
use Rattle.mon_fold.specs.GrowingTotals.{growth_between, increases_between}
use Rattle.mon_fold.proofs.GrowthLemmas.{growth_both, growth_bound, growth_none, large_both}
use Rattle.mon_fold.proofs.growth.growth_of.Goals as goal

pub loop-place-init : goal.loop-place-init
loop-place-init c =
    record {
      from = omega arith;
      within = c.requires.ordered;
      sum = sym (growth_none c.args.all.now c.args.start c.args.start refl);
    }

pub growth_by-sum-requires-clause-fits : goal.growth_by-sum-requires-clause-fits
growth_by-sum-requires-clause-fits c =
    let all = c.args.all.now in
    let place = c.loop-place.place in
    let whole = large_both all c.args.start place c.args.end c.loop-place.invariant.from c.loop-place.invariant.within in
    let rest = large_both all place (place + 1) c.args.end (omega arith) (omega arith) in
    omega (arith, whole, rest, c.requires.fits)

pub overflow_add-sum : goal.overflow_add-sum
overflow_add-sum c =
    let all = c.args.all.now in
    let place = c.loop-place.place in
    let from = c.loop-place.invariant.from in
    let more = growth_both all c.args.start place (place + 1) from (omega arith) in
    let whole = large_both all c.args.start (place + 1) c.args.end (omega arith) (omega arith) in
    let bound = growth_bound all c.args.start (place + 1) in
    let sum = c.loop-place.invariant.sum in
    let one = c.growth_by-sum.ensures in
    let fits = c.requires.fits in
    omega (arith, ints)

pub loop-place-preserved : goal.loop-place-preserved
loop-place-preserved c =
    let all = c.args.all.now in
    let place = c.loop-place.place in
    let from = c.loop-place.invariant.from in
    let more = growth_both all c.args.start place (place + 1) from (omega arith) in
    let whole = large_both all c.args.start (place + 1) c.args.end (omega arith) (omega arith) in
    let bound = growth_bound all c.args.start (place + 1) in
    let sum = c.loop-place.invariant.sum in
    let one = c.growth_by-sum.ensures in
    let fits = c.requires.fits in
    record { from = omega arith; within = omega arith; sum = omega (arith, ints) }
