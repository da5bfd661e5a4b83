use Rattle.std.proofs.Common.{◌<ℤ◌, IfSome, subst, arith}
use Rattle.std.proofs.lemmas.Int.{ints}
use Rattle.mon_value.specs.declared.rows.Point.{Point}
use Rattle.mon_series.proofs.EndsRiseLemmas.{all_after}
use Rattle.mon_series.proofs.series.all_end_after.Goals as goal

pub returns-in-Some : goal.returns-in-Some
returns-in-Some c = λ is.
    let end = c.end.ensures.end in
    let later : c.args.time <ℤ c.in-Some.first.now.end = grind (arith, ints) in
    all_after c.args.points.now c.args.time c.requires
    (subst (λ o. IfSome o (λ (first : Point). c.args.time <ℤ first.end)) c.in-Some.ensures.value later)
