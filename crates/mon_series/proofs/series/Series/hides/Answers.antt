use Rattle.std.proofs.Common.{◌≡◌, ◌∙◌, ap, sym, subst, length, nat_lt, take, take-append-drop, arith}
use Rattle.std.proofs.lemmas.List.{length-take}
use Rattle.mon_value.specs.Grids.{EndsRise}
use Rattle.mon_series.specs.SeriesPoints.{SeriesPoints, all_points}
use Rattle.mon_series.proofs.series.Series.hides.Goals as goal

pub returns-clause-hides : goal.returns-clause-hides
returns-clause-hides c =
    let items = c.self.inside.points.items in
    let count : c.self.inside.hidden ≡ length (take c.self.inside.hidden items) =
    omega (arith, length-take c.self.inside.hidden items, c.self.invariant.within) in
    ap (nat_lt c.args.number) (count ∙ ap (λ (seen : SeriesPoints). length seen.hidden) c.self.view_is)

pub returns-clause-rises : goal.returns-clause-rises
returns-clause-rises c =
    subst EndsRise (sym (take-append-drop c.self.inside.hidden c.self.inside.points.items)
    ∙ ap all_points c.self.view_is) c.self.invariant.rises
