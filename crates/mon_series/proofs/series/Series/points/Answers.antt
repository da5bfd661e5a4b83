use Rattle.std.proofs.Common.{◌∙◌, ap, drop, subst}
use Rattle.mon_value.specs.Grids.{EndsRise}
use Rattle.mon_series.specs.SeriesPoints.{SeriesPoints}
use Rattle.mon_series.proofs.series.Series.points.Goals as goal

pub returns-clause-rises : goal.returns-clause-rises
returns-clause-rises c =
    let same = ap (λ (seen : SeriesPoints). seen.points) c.self.view_is in
    subst EndsRise (c.behind.ensures.behind ∙ ap (drop c.self.inside.hidden) c.as_slice.ensures.items ∙ same) c.behind.ensures.rises
