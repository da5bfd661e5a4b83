use Rattle.std.proofs.Common.{subst, sym}
use Rattle.mon_value.specs.Grids.{EndsRise}
use Rattle.mon_series.proofs.StandingLemmas.{rest_of, rises_behind}
use Rattle.mon_series.proofs.series.behind.Goals as goal

pub returns-clause-rises : goal.returns-clause-rises
returns-clause-rises c =
    subst EndsRise (sym (rest_of c.args.count c.args.points.now))
    (rises_behind c.args.count c.args.points.now c.requires.rises)
