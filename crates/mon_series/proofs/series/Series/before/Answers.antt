use Rattle.mon_series.proofs.series.Series.before.Goals as goal

pub returns-clause-rises : goal.returns-clause-rises
returns-clause-rises c = c.points.ensures.rises
