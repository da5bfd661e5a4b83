use Rattle.std.proofs.Common.{◌≡◌, ◌∙◌, ◌++◌, ℤ, IfSome, Option, ap, filter, not, subst, sym, to_z, of_z, w64, rules}
use Rattle.std.specs.Prelude.{int_lt}
use Rattle.indexmap.specs.Layout.{set_value_at}
use Rattle.mon_value.specs.declared.rows.Point.{Point}
use Rattle.mon_value.specs.declared.rows.SeriesKey.{SeriesKey}
use Rattle.mon_series.specs.SeriesPoints.{SeriesPoints}
use Rattle.mon_series.specs.within.Hidden.{hiding, points_before}
use Rattle.mon_series.proofs.FirstLemmas.{get_there}
use Rattle.mon_series.proofs.standing.hide_in.Goals as goal

pub returns : goal.returns
returns c =
    let entries = c.args.groups.now.entries in
    let series = c.in-Some.series.now in
    let there = get_there entries c.args.number series c.in-Some.ensures.value in
    let before : to_z w64 (of_z w64 c.args.before) ≡ c.args.before = search rules in
    let hidden = c.hide.ensures.hidden ∙ ap (λ (b : ℤ). series.hidden ++ points_before b series.points) before in
    let points = c.hide.ensures.stand
    ∙ ap (λ (b : ℤ). filter (λ (point : Point). not (int_lt point.end b)) series.points) before in
    let own : c.hide.new.self ≡ (hiding c.args.before (there.0, series)).1 =
    λ i. record { hidden = hidden i; points = points i; spare = c.hide.ensures.room i } in
    let set = subst (λ (o : Option (SeriesKey × SeriesPoints)). IfSome o (λ entry. set_value_at entries c.args.number c.hide.new.self
    ≡ set_value_at entries c.args.number (hiding c.args.before entry).1)) (sym there.1)
    (ap (set_value_at entries c.args.number) own) in
    record { hidden = set }
