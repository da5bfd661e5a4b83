use Rattle.std.proofs.Common.{◌≡◌, ◌∙◌, ◌+◌, ◌-◌, ◌<◌, ◌++◌, ◌∷◌, [], ℕ, List, drop, length, ap, arith}
use Rattle.mon_value.specs.declared.rows.Point.{Point}
use Rattle.mon_value.specs.declared.values.Value.{Value}
use Rattle.mon_meaning.specs.within.FetchViews.{all_filters_hold, keeps, points_kept}
use Rattle.mon_meaning.proofs.WantedLemmas.{newest_found}
use Rattle.mon_meaning.proofs.kept_points.newest_kept.Goals as goal

pub returns-then-keeps-clause-newest : goal.returns-then-keeps-clause-newest
returns-then-keeps-clause-newest c =
    let p : Point = c.index-points-place.result in
    let fetch = c.args.fetch.now in
    let key = c.args.key.now in
    let points = c.args.points.now in
    let place : ℕ = c.loop-place.place - 1 in
    let some = c.loop-place-test.true in
    let within = c.loop-place.invariant.within in
    let below : place < length points = omega arith in
    let next : place + 1 ≡ c.loop-place.place = omega arith in
    let decided : c.in_ok-keeps.keeps ≡ keeps fetch key p.value =
    c.in_ok-keeps.ensures.kept
    ∙ ap (λ (v : Value). all_filters_hold fetch.of_points (c.loop-place.cells ++ v ∷ [])) c.in_ok-value.ensures.value
    ∙ ap (λ (cells : List Value). all_filters_hold fetch.of_points (cells ++ p.value ∷ []))
    c.loop-place.invariant.cells in
    newest_found (λ (point : Point). keeps fetch key point.value) points place p c.in_ok-keeps.keeps
    c.index-points-place.is below decided c.if-keeps.true
    (ap (λ (n : ℕ). points_kept fetch (key, drop n points)) next ∙ c.loop-place.invariant.none)
