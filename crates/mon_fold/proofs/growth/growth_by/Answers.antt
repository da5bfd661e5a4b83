use Rattle.std.proofs.Common.{◌≡◌, ◌∙◌, ◌≤◌, [], ◌∷◌, List, Option, to_z, of_z, sym, ap, subst, sum_by, rules, arith}
use Rattle.std.specs.Int.{w128}
use Rattle.std.specs.Option.{option_copied}
use Rattle.std.proofs.lemmas.List.Sums.{sum_by-cons}
use Rattle.mon_value.specs.Groups.{numbers_in, sum_of}
use Rattle.mon_value.specs.Increases.{increase}
use Rattle.mon_value.specs.Grids.{IsNumber}
use Rattle.mon_value.specs.Values.{magnitude}
use Rattle.mon_value.specs.declared.rows.Point.{Point}
use Rattle.mon_value.specs.declared.values.Value.{Value}
use Rattle.mon_fold.specs.GrowingTotals.{most_grown}
use Rattle.mon_fold.proofs.GrowthLemmas.{number_at, one_increase}
use Rattle.mon_fold.proofs.growth.growth_by.Goals as goal

pub increase-requires-clause-number : goal.increase-requires-clause-number
increase-requires-clause-number c =
    subst (λ (p : Point). IsNumber p.value) (sym c.index-all-place.is)
    (number_at c.args.all.now c.args.place c.index-all-place.result c.requires.numbers c.requires.within)

pub increase-requires-clause-fits : goal.increase-requires-clause-fits
increase-requires-clause-fits c =
    let one = one_increase c.args.place c.args.all.now c.index-all-place.result c.index-all-place.is c.requires.within
    (option_copied c.last.result) c.last.ensures.value in
    let sum = ap (sum_by magnitude) one in
    let alone = sum_by-cons magnitude (increase (option_copied c.last.result) c.index-all-place.result) [] in
    let fits = c.requires.fits in
    omega arith

pub returns : goal.returns
returns c =
    let one = one_increase c.args.place c.args.all.now c.index-all-place.result c.index-all-place.is c.requires.within
    (option_copied c.last.result) c.last.ensures.value in
    let plain : to_z w128 (of_z w128 c.increase.result) ≡ c.increase.result = search rules in
    plain ∙ c.increase.ensures ∙ ap (λ (values : List Value). sum_of (numbers_in values)) (sym one)
