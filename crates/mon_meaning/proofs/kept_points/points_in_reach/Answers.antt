use Rattle.std.proofs.Common.{◌≡◌, ◌∙◌, ◌≤ℤ◌, neg_ℤ, ℤ, length, sym, ap, subst, to_z, of_z, w64, rules, arith}
use Rattle.mon_value.specs.Grids.{seconds_of, least_time, EndsRise}
use Rattle.typed_trees.specs.Meaning.{is_in_reach}
use Rattle.mon_meaning.proofs.WindowLemmas as window
use Rattle.mon_value.specs.declared.limits.TheConstants.{LONGEST_DURATION}
use Rattle.mon_meaning.proofs.WindowLemmas.{EndsRise-filter, least_bounds}
use Rattle.mon_meaning.proofs.kept_points.points_in_reach.Goals as goal

pub reached_places-before-requires-clause-least : goal.reached_places-before-requires-clause-least
reached_places-before-requires-clause-least c =
    let least : to_z w64 (of_z w64 c.least_time.result) ≡ c.least_time.result = search rules in
    subst (λ (t : ℤ). neg_ℤ LONGEST_DURATION ≤ℤ t) (sym (least ∙ c.least_time.ensures.least))
    (least_bounds c.args.grid.now c.requires.lawful).0

pub reached_places-before-requires-clause-ordered : goal.reached_places-before-requires-clause-ordered
reached_places-before-requires-clause-ordered c =
    let grid = c.args.grid.now in
    let least : to_z w64 (of_z w64 c.least_time.result) ≡ c.least_time.result = search rules in
    let now : to_z w64 (of_z w64 grid.moment) ≡ grid.moment = search rules in
    subst (λ (t : ℤ). t ≤ℤ to_z w64 (of_z w64 grid.moment)) (sym (least ∙ c.least_time.ensures.least))
    (subst (λ (t : ℤ). least_time grid ≤ℤ t) (sym now) (least_bounds grid c.requires.lawful).1)

pub slice_bounds-result-count : goal.slice_bounds-result-count
slice_bounds-result-count c =
    let grid = c.args.grid.now in
    let least : to_z w64 (of_z w64 c.least_time.result) ≡ c.least_time.result = search rules in
    let span : to_z w64 (of_z w64 c.seconds_of.result) ≡ c.seconds_of.result = search rules in
    let now : to_z w64 (of_z w64 grid.moment) ≡ grid.moment = search rules in
    let order : least_time grid ≤ℤ grid.moment = (least_bounds grid c.requires.lawful).1 in
    window.places_apart (least_time grid) (seconds_of c.args.by) grid.moment _ _ _ c.args.series.now.points _ _
    (least ∙ c.least_time.ensures.least) (span ∙ c.seconds_of.ensures.seconds) now order c.requires.looks_back.0
    c.reached_places-before.ensures.before c.reached_places-before.ensures.ended

pub slice_bounds-result-start : goal.slice_bounds-result-start
slice_bounds-result-start c =
    let apart = slice_bounds-result-count c in
    let within = c.reached_places-before.ensures.ends in
    let same = ap length c.points-points.ensures.points in
    omega (arith, apart, within, same)

pub returns-clause-reached : goal.returns-clause-reached
returns-clause-reached c =
    let grid = c.args.grid.now in
    let least : to_z w64 (of_z w64 c.least_time.result) ≡ c.least_time.result = search rules in
    let span : to_z w64 (of_z w64 c.seconds_of.result) ≡ c.seconds_of.result = search rules in
    let now : to_z w64 (of_z w64 grid.moment) ≡ grid.moment = search rules in
    let order : least_time grid ≤ℤ grid.moment = (least_bounds grid c.requires.lawful).1 in
    window.places_of (least_time grid) (seconds_of c.args.by) grid.moment _ _ _ c.args.series.now.points _ _
    (least ∙ c.least_time.ensures.least) (span ∙ c.seconds_of.ensures.seconds) now order c.requires.looks_back.0
    c.reached_places-before.ensures.before c.reached_places-before.ensures.ended c.points-points.result.now
    c.points-points.ensures.points c.points-points.ensures.rises

pub returns-clause-rises : goal.returns-clause-rises
returns-clause-rises c =
    let grid = c.args.grid.now in
    let least : to_z w64 (of_z w64 c.least_time.result) ≡ c.least_time.result = search rules in
    let span : to_z w64 (of_z w64 c.seconds_of.result) ≡ c.seconds_of.result = search rules in
    let now : to_z w64 (of_z w64 grid.moment) ≡ grid.moment = search rules in
    let order : least_time grid ≤ℤ grid.moment = (least_bounds grid c.requires.lawful).1 in
    subst EndsRise
    (sym (window.places_of (least_time grid) (seconds_of c.args.by) grid.moment _ _ _ c.args.series.now.points _ _
    (least ∙ c.least_time.ensures.least) (span ∙ c.seconds_of.ensures.seconds) now order c.requires.looks_back.0
    c.reached_places-before.ensures.before c.reached_places-before.ensures.ended c.points-points.result.now
    c.points-points.ensures.points c.points-points.ensures.rises))
    (EndsRise-filter (is_in_reach grid c.args.by) c.args.series.now.points c.points-points.ensures.rises)
