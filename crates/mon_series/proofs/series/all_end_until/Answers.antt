use Rattle.std.proofs.Common.{◌≡◌, ◌≤ℤ◌, Some, IfSome, option_map, sym, ap, subst, ◌∙◌, arith}
use Rattle.std.proofs.lemmas.Int.{ints}
use Rattle.mon_value.specs.declared.rows.Point.{Point}
use Rattle.mon_value.specs.LeafHistories.{last_end}
use Rattle.mon_series.proofs.EndsRiseLemmas.{all_until, last_end_at}
use Rattle.mon_series.proofs.series.all_end_until.Goals as goal

pub returns-in-Some : goal.returns-in-Some
returns-in-Some c = λ is.
    let points = c.args.points.now in
    let last : last_end points ≡ Some c.in-Some.last.now.end = sym (last_end_at points)
    ∙ ap (option_map (λ (p : Point). p.end)) (sym c.in-Some.ensures.value) in
    let end = c.end.ensures.end in
    let within : c.in-Some.last.now.end ≤ℤ c.args.time = grind (arith, ints) in
    all_until points c.args.time c.requires (subst (λ o. IfSome o (λ end. end ≤ℤ c.args.time)) (sym last) within)
