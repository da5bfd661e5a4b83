use Rattle.std.proofs.Common.{arith}
use Rattle.std.proofs.lemmas.Int.{ints}
use Rattle.mon_series.proofs.EndsRiseLemmas.{EndsRise-filter}
use Rattle.mon_series.proofs.WindowLemmas.{window_from}
use Rattle.mon_series.proofs.series.Series.window.Goals as goal

pub split_at_time-requires-2 : goal.split_at_time-requires-2
split_at_time-requires-2 c = rw (c.split_at_time.ensures.ended, c.points.ensures.points)
    (EndsRise-filter _ _ c.points.ensures.rises)

pub returns-clause-window : goal.returns-clause-window
returns-clause-window c =
    rw (c.split_at_time-2.ensures.later, c.split_at_time.ensures.ended, c.points.ensures.points)
    (window_from c.args.self.now.points c.args.time c.args.seconds _ _ (omega (arith, ints)) (omega (arith, ints)))

pub returns-clause-rises : goal.returns-clause-rises
returns-clause-rises c =
    rw (c.split_at_time-2.ensures.later, c.split_at_time.ensures.ended, c.points.ensures.points)
    (EndsRise-filter _ _ (EndsRise-filter _ _ c.points.ensures.rises))
