use Rattle.std.proofs.Common.{arith}
use Rattle.std.proofs.lemmas.Grind.{common_steps}
use Rattle.mon_series.specs.SeriesPoints.{all_points}
use Rattle.mon_series.proofs.EndsRiseLemmas.{last_end_at}
use Rattle.mon_series.proofs.series.Series.last.Goals as goal

-- the last point is at the last place
pub returns-clause-last : goal.returns-clause-last
returns-clause-last c =
    let e = last_end_at (all_points c.args.self.now) in
    grind (arith, common_steps)
