use Rattle.std.proofs.Common.{◌≤◌, ap, ◌∙◌, length, length-append, arith}
use Rattle.std.proofs.lemmas.Int.{ints}
use Rattle.mon_series.proofs.EndsRiseLemmas.{EndsRise-filter}
use Rattle.mon_series.specs.Splits.{points_until}
use Rattle.mon_series.proofs.SplitLemmas.{points_until-before, first_items, items_behind, items_between}
use Rattle.mon_series.proofs.WindowLemmas.{window_from}
use Rattle.mon_series.proofs.series.Series.places.Goals as goal

pub split_at_time-requires-2 : goal.split_at_time-requires-2
split_at_time-requires-2 c = rw (c.split_at_time.ensures.ended, c.points.ensures.points)
    (EndsRise-filter _ _ c.points.ensures.rises)

-- the points that end before the window are among those that end by its time
pub returns-clause-before : goal.returns-clause-before
returns-clause-before c =
    let points = c.points.ensures.points in
    let before = c.split_at_time-2.ensures.ended ∙ ap (points_until _) (c.split_at_time.ensures.ended
    ∙ ap (points_until _) points) ∙ points_until-before c.args.self.now.points c.args.time c.args.seconds
    _ _ (omega (arith, ints)) (omega (arith, ints)) (omega (arith, ints)) in
    ap length before

pub returns-clause-window : goal.returns-clause-window
returns-clause-window c =
    let all = c.points.result.now in
    let ended = c.split_at_time.result.0.now in
    let before = c.split_at_time-2.result.0.now in
    let window = c.split_at_time-2.result.1.now in
    let front = first_items all ended c.split_at_time.result.1.now c.split_at_time.ensures.joined in
    let behind = items_behind ended before window c.split_at_time-2.ensures.joined in
    let ordered : length before ≤ length ended =
    omega (arith, ap length c.split_at_time-2.ensures.joined, length-append before window) in
    items_between (length before) (length ended) c.args.self.now.points ordered
    ∙ rw (
      ← c.points.ensures.points,
      front,
      behind,
      c.split_at_time-2.ensures.later,
      c.split_at_time.ensures.ended,
    )
    (window_from all c.args.time c.args.seconds _ _ (omega (arith, ints)) (omega (arith, ints)))
