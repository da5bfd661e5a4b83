use Rattle.std.proofs.Common.{◌∙◌, ap, sym, subst, take-append-drop}
use Rattle.mon_value.specs.Grids.{EndsRise}
use Rattle.mon_series.specs.SeriesPoints.{all_points}
use Rattle.mon_series.proofs.series.Series.all_points.Goals as goal

pub returns-clause-points : goal.returns-clause-points
returns-clause-points c =
    c.as_slice.ensures.items ∙ sym (take-append-drop c.self.inside.hidden c.self.inside.points.items)
    ∙ ap all_points c.self.view_is

pub returns-clause-rises : goal.returns-clause-rises
returns-clause-rises c =
    subst EndsRise (sym (take-append-drop c.self.inside.hidden c.self.inside.points.items)
    ∙ ap all_points c.self.view_is) c.self.invariant.rises
