use Rattle.std.proofs.Common.{◌≡◌, ◌∙◌, ◌≤◌, ◌-ℤ◌, ℤ, List, length, sum_by, to_z, of_z, w64, sym, ap, subst, rules}
use Rattle.std.specs.Int.{w128}
use Rattle.mon_series.specs.Splits.{points_until}
use Rattle.mon_value.specs.Grids.{values_of, window_of}
use Rattle.mon_value.specs.Values.{magnitude}
use Rattle.mon_value.specs.declared.rows.Point.{Point}
use Rattle.mon_fold.specs.GrowingTotals.{growth_between, increases_between, most_grown}
use Rattle.mon_fold.specs.SlidingWindows.{points_between}
use Rattle.mon_fold.proofs.GrowthLemmas.{fits_twice, told_at}
use Rattle.mon_fold.proofs.growth.growth_at.Goals as goal

pub slid_growth-sum-requires-clause-fits : goal.slid_growth-sum-requires-clause-fits
slid_growth-sum-requires-clause-fits c =
    let points = c.args.points.now.points in
    let start = c.places-start.result.0 in
    let end = c.places-start.result.1 in
    let time : to_z w64 (of_z w64 c.args.time) ≡ c.args.time = search rules in
    let span : to_z w64 (of_z w64 c.args.seconds) ≡ c.args.seconds = search rules in
    let before : start ≡ length (points_until (c.args.time -ℤ c.args.seconds) points) =
    c.places-start.ensures.before ∙ (λ i. length (points_until (time i -ℤ span i) points)) in
    let window : points_between start end points ≡ window_of c.args.time c.args.seconds points =
    c.places-start.ensures.window ∙ (λ i. window_of (time i) (span i) points) in
    subst (λ (ps : List Point). sum_by magnitude (values_of (increases_between start end ps)) ≤ most_grown)
    (sym c.points.ensures.points)
    (fits_twice points c.args.time c.args.seconds start end c.requires.looks_back c.requires.rises before window
    c.requires.sums)

pub returns-clause-grown : goal.returns-clause-grown
returns-clause-grown c =
    let points = c.args.points.now.points in
    let start = c.places-start.result.0 in
    let end = c.places-start.result.1 in
    let time : to_z w64 (of_z w64 c.args.time) ≡ c.args.time = search rules in
    let span : to_z w64 (of_z w64 c.args.seconds) ≡ c.args.seconds = search rules in
    let before : start ≡ length (points_until (c.args.time -ℤ c.args.seconds) points) =
    c.places-start.ensures.before ∙ (λ i. length (points_until (time i -ℤ span i) points)) in
    let window : points_between start end points ≡ window_of c.args.time c.args.seconds points =
    c.places-start.ensures.window ∙ (λ i. window_of (time i) (span i) points) in
    let plain : to_z w128 (of_z w128 c.slid_growth-sum.result) ≡ c.slid_growth-sum.result = search rules in
    record {
      ordered = c.places-start.ensures.ordered;
      within = c.places-start.ensures.within;
      sum = plain ∙ c.slid_growth-sum.ensures ∙ ap (growth_between start end) c.points.ensures.points;
      fits = fits_twice points c.args.time c.args.seconds start end c.requires.looks_back c.requires.rises before window
          c.requires.sums;
    }

pub returns-clause-told : goal.returns-clause-told
returns-clause-told c =
    let points = c.args.points.now.points in
    let start = c.places-start.result.0 in
    let end = c.places-start.result.1 in
    let time : to_z w64 (of_z w64 c.args.time) ≡ c.args.time = search rules in
    let span : to_z w64 (of_z w64 c.args.seconds) ≡ c.args.seconds = search rules in
    let before : start ≡ length (points_until (c.args.time -ℤ c.args.seconds) points) =
    c.places-start.ensures.before ∙ (λ i. length (points_until (time i -ℤ span i) points)) in
    let window : points_between start end points ≡ window_of c.args.time c.args.seconds points =
    c.places-start.ensures.window ∙ (λ i. window_of (time i) (span i) points) in
    let plain : to_z w128 (of_z w128 c.slid_growth-sum.result) ≡ c.slid_growth-sum.result = search rules in
    told_at points c.args.time c.args.seconds start end c.requires.looks_back c.requires.rises before window
    c.places-start.ensures.ordered c.places-start.ensures.within c.requires.numbers
    (to_z w128 (of_z w128 c.slid_growth-sum.result))
    (plain ∙ c.slid_growth-sum.ensures ∙ ap (growth_between start end) c.points.ensures.points)
