use Rattle.std.proofs.Common.{◌≡◌, ◌-ℤ◌, ◌<ℤ◌, ◌≤ℤ◌, List, ℤ, to_z, of_z, w64, sym, ap, subst, ◌∙◌, rules, arith}
use Rattle.std.specs.List.{AllByRecursion}
use Rattle.std.proofs.lemmas.Int.{ints}
use Rattle.mon_value.specs.Grids.{aligned_values, SumFits, timed_values, value_at, grid_times}
use Rattle.mon_value.specs.declared.grids.Grid.{Grid}
use Rattle.mon_value.specs.declared.grids.TimedValue.{TimedValue}
use Rattle.mon_value.specs.declared.aligners.Aligner.{Aligner}
use Rattle.mon_value.specs.declared.aligners.Aligner.TheVariants.{Increase}
use Rattle.mon_value.specs.declared.rows.Point.{Point}
use Rattle.mon_value.proofs.GridLemmas.{grid_between}
use Rattle.mon_fold.specs.GrowingTotals.{IsGrown}
use Rattle.mon_fold.proofs.AlignmentLemmas.{begins_all, begins_whole, holds_later, holds_now, made_more}
use Rattle.mon_fold.proofs.alignment.increased_values.Goals as goal
use Rattle.mon_value.proofs.PlainLemmas.{all_both}

-- a time within the grid's reach whose sum fits
abbrev IsNext : Aligner → Grid → List Point → ℤ → Type 0
IsNext by grid points time = (((grid.moment -ℤ grid.within) <ℤ time) × (time ≤ℤ grid.moment)) × SumFits by points time

-- what a time gives
abbrev made_at : Aligner → List Point → ℤ → List TimedValue
made_at by points time = timed_values time (value_at by points time)

pub loop-init : goal.loop-init
loop-init c =
    let by = (Increase (to_z w64 (of_z w64 c.args.seconds))) in
    let grid = c.args.grid.now in
    let points = c.args.points.now.points in
    let moment = to_z w64 (of_z w64 grid.moment) in
    let plain : to_z w64 (of_z w64 c.args.seconds) ≡ c.args.seconds = search rules in
    let sums = subst (λ seconds. AllByRecursion (SumFits (Increase seconds) points) (grid_times grid)) (sym plain)
    c.requires.sums in
    let same : moment ≡ grid.moment = omega (arith, ints) in record {
      whole = begins_whole (made_at by points) grid c.new-values.result c.times_of-end.result moment
          c.new-values.ensures.empty c.times_of-end.ensures same;
      left = begins_all (IsNext by grid points) grid c.times_of-end.result moment c.times_of-end.ensures same
          (all_both _ (SumFits by points) (grid_times grid) (grid_between grid c.requires.lawful) sums);
      grown = subst (IsGrown c.behind-growth.result) c.points.ensures.points c.behind-growth.ensures;
    }

pub growth_at-growth-requires-clause-after : goal.growth_at-growth-requires-clause-after
growth_at-growth-requires-clause-after c =
    let grid = c.args.grid.now in
    let now = holds_now (IsNext (Increase (to_z w64 (of_z w64 c.args.seconds))) grid c.args.points.now.points)
    c.times_of-end.result c.loop.counter (to_z w64 c.loop.time-bits) grid.every c.loop-test.true
    c.loop.invariant.left in
    let moment = c.requires.lawful.moment in
    let within = c.requires.lawful.within in
    omega (arith, ints)

pub growth_at-growth-requires-clause-sums : goal.growth_at-growth-requires-clause-sums
growth_at-growth-requires-clause-sums c =
    let grid = c.args.grid.now in
    let now = holds_now (IsNext (Increase (to_z w64 (of_z w64 c.args.seconds))) grid c.args.points.now.points)
    c.times_of-end.result c.loop.counter (to_z w64 c.loop.time-bits) grid.every c.loop-test.true
    c.loop.invariant.left in
    now.1

pub overflow_sub-time : goal.overflow_sub-time
overflow_sub-time c =
    let grid = c.args.grid.now in
    let now = holds_now (IsNext (Increase (to_z w64 (of_z w64 c.args.seconds))) grid c.args.points.now.points)
    c.times_of-end.result c.loop.counter (to_z w64 c.loop.time-bits) grid.every c.loop-test.true
    c.loop.invariant.left in
    let moment = c.requires.lawful.moment in
    let within = c.requires.lawful.within in
    let every = c.requires.lawful.every in
    omega (arith, ints)

pub loop-preserved : goal.loop-preserved
loop-preserved c =
    let by = (Increase (to_z w64 (of_z w64 c.args.seconds))) in
    let grid = c.args.grid.now in
    let points = c.args.points.now.points in
    let n = c.times_of-end.result in
    let k = c.loop.counter in
    let time = to_z w64 c.loop.time-bits in
    let next = to_z w64 (of_z w64 (time -ℤ to_z w64 (of_z w64 grid.every))) in
    let now = holds_now (IsNext by grid points) n k time grid.every c.loop-test.true c.loop.invariant.left in
    let moment = c.requires.lawful.moment in
    let within = c.requires.lawful.within in
    let every = c.requires.lawful.every in
    let made = c.told.ensures ∙ c.growth_at-growth.ensures.told in
    let step : next ≡ time -ℤ grid.every = omega (arith, ints) in record {
      whole = rw c.in_ok-add_value.ensures (made_more (made_at by points) c.loop.values (aligned_values by grid points)
          n k time next grid.every c.loop-test.true step c.loop.invariant.whole
          (timed_values time c.told.result) (ap (timed_values time) (sym made)));
      left = holds_later (IsNext by grid points) n k time next grid.every c.loop-test.true step c.loop.invariant.left;
      grown = c.growth_at-growth.ensures.grown;
    }
