use Rattle.std.proofs.Common.{◌≡◌, ◌∙◌, ◌≤◌, List, IfOk, ap, drop, length, subst, arith}
use Rattle.std.proofs.lemmas.Int.{ints}
use Rattle.mon_series.specs.Splits.{points_until}
use Rattle.mon_value.specs.declared.rows.Point.{Point}
use Rattle.mon_meaning.specs.within.FetchViews.{keeps, points_kept}
use Rattle.mon_meaning.specs.within.Reach.{earlier_wanted, reach_start}
use Rattle.mon_meaning.proofs.WantedLemmas.{ended_at, first_within, part_is, part_rises, reach_order, wanted_kept}
use Rattle.mon_meaning.proofs.WindowLemmas.{least_bounds}
use Rattle.mon_meaning.proofs.kept_points.wanted_series.Goals as goal

pub slice_bounds-wanted-count : goal.slice_bounds-wanted-count
slice_bounds-wanted-count c =
    let grid = c.args.grid.now in
    let points = c.args.series.now.points in
    let bounds = least_bounds grid c.requires.lawful in
    let least = c.least_time.ensures.least in
    let span = c.seconds_of.ensures.seconds in
    let some = c.requires.looks_back.0 in
    let most = c.requires.looks_back.1 in
    let start = reach_start grid c.args.by in
    let early : c.before-earlier.result.now ≡ points_until start points =
    ended_at _ start points c.before-earlier.result.now c.before-earlier.ensures.ended
    (omega (arith, ints, bounds.0, bounds.1)) in
    let late : c.before-ended.result.now ≡ points_until grid.moment points =
    ended_at _ grid.moment points c.before-ended.result.now c.before-ended.ensures.ended (omega (arith, ints)) in
    first_within start grid.moment points c.before-earlier.result.now c.before-ended.result.now c.in_ok-first.first
    c.before-earlier.ensures.rises (reach_order grid c.args.by c.requires.lawful c.requires.looks_back) early late
    c.in_ok-first.ensures.within

pub slice_bounds-wanted-start : goal.slice_bounds-wanted-start
slice_bounds-wanted-start c = omega (arith, slice_bounds-wanted-count c)

pub kept_series-requires : goal.kept_series-requires
kept_series-requires c =
    let grid = c.args.grid.now in
    let points = c.args.series.now.points in
    let bounds = least_bounds grid c.requires.lawful in
    let least = c.least_time.ensures.least in
    let span = c.seconds_of.ensures.seconds in
    let some = c.requires.looks_back.0 in
    let most = c.requires.looks_back.1 in
    let start = reach_start grid c.args.by in
    let early : c.before-earlier.result.now ≡ points_until start points =
    ended_at _ start points c.before-earlier.result.now c.before-earlier.ensures.ended
    (omega (arith, ints, bounds.0, bounds.1)) in
    let late : c.before-ended.result.now ≡ points_until grid.moment points =
    ended_at _ grid.moment points c.before-ended.result.now c.before-ended.ensures.ended (omega (arith, ints)) in
    record {
      rises = part_rises start grid.moment points c.before-earlier.result.now c.before-ended.result.now
          c.in_ok-first.first c.before-earlier.ensures.rises
          (reach_order grid c.args.by c.requires.lawful c.requires.looks_back) early late c.in_ok-first.ensures.within;
    }

pub returns-clause-wanted : goal.returns-clause-wanted
returns-clause-wanted c =
    let grid = c.args.grid.now in
    let fetch = c.args.fetch.now in
    let key = c.args.key.now in
    let points = c.args.series.now.points in
    let test = λ (point : Point). keeps fetch key point.value in
    let bounds = least_bounds grid c.requires.lawful in
    let least = c.least_time.ensures.least in
    let span = c.seconds_of.ensures.seconds in
    let some = c.requires.looks_back.0 in
    let most = c.requires.looks_back.1 in
    let start = reach_start grid c.args.by in
    let first = c.in_ok-first.first in
    let early : c.before-earlier.result.now ≡ points_until start points =
    ended_at _ start points c.before-earlier.result.now c.before-earlier.ensures.ended
    (omega (arith, ints, bounds.0, bounds.1)) in
    let late : c.before-ended.result.now ≡ points_until grid.moment points =
    ended_at _ grid.moment points c.before-ended.result.now c.before-ended.ensures.ended (omega (arith, ints)) in
    let within : first ≤ length (points_until start points) =
    omega (arith, ap length early, c.in_ok-first.ensures.within) in
    let wanted = subst (λ (ps : List Point). points_kept fetch (key, drop first ps)
    ≡ earlier_wanted c.args.by (points_kept fetch (key, ps))) early c.in_ok-first.ensures.wanted in
    let same = ap (λ (ps : List Point). points_kept fetch (key, ps))
    (part_is start grid.moment points c.before-earlier.result.now c.before-ended.result.now first
    c.before-earlier.ensures.rises (reach_order grid c.args.by c.requires.lawful c.requires.looks_back) early late
    c.in_ok-first.ensures.within)
    ∙ wanted_kept grid c.args.by test points first c.before-earlier.ensures.rises c.requires.lawful
    c.requires.looks_back within wanted in
    subst (λ (ps : List Point). IfOk c.kept_series.result (λ kept. kept.points ≡ ps)) same c.kept_series.ensures.kept
