use Rattle.std.proofs.Common.{◌≡◌, ℤ, ap, ◌∙◌, ◌++◌, take, drop, sym, filter, to_z, of_z, w64, rules}
use Rattle.std.specs.Prelude.{int_lt}
use Rattle.mon_series.specs.SeriesPoints.{SeriesPoints}
use Rattle.mon_value.specs.declared.rows.Point.{Point}
use Rattle.mon_series.proofs.StandingLemmas.{take_more}
use Rattle.mon_series.proofs.series.Series.hide.Goals as goal

pub returns-clause-hidden : goal.returns-clause-hidden
returns-clause-hidden c =
    let all = c.self.inside.points.items in
    let front = take c.self.inside.hidden all in
    let more = c.count_before-more.result in
    let hidden = ap (λ (seen : SeriesPoints). seen.hidden) c.self.view_is in
    let points = ap (λ (seen : SeriesPoints). seen.points) c.self.view_is in
    let from = c.behind.ensures.behind ∙ ap (drop c.self.inside.hidden) c.as_slice.ensures.items in
    let bound : to_z w64 (of_z w64 c.args.before) ≡ c.args.before = search rules in
    take_more c.self.inside.hidden more all
    ∙ ap (λ xs. front ++ take more xs) (sym from)
    ∙ ap (λ xs. front ++ xs) c.count_before-more.ensures.ended
    ∙ ap (λ (b : ℤ). front ++ filter (λ (point : Point). int_lt point.end b) c.behind.result.now) bound
    ∙ ap (λ xs. front ++ filter (λ (point : Point). int_lt point.end c.args.before) xs) (from ∙ points)
    ∙ ap (λ xs. xs ++ filter (λ (point : Point). int_lt point.end c.args.before) c.args.self.now.points) hidden
