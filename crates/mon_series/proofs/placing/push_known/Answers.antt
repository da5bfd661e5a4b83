use Rattle.std.proofs.Common.{rules, ◌∙◌, List, [], ◌∷◌, ◌++◌, append_assoc, ap, sym, subst, IfSome, ◌<ℤ◌}
use Rattle.mon_value.specs.LeafHistories.{last_end}
use Rattle.mon_value.specs.declared.rows.Point.{Point}
use Rattle.mon_series.specs.SeriesPoints.{SeriesPoints, all_points}
use Rattle.mon_series.specs.within.Places.{place_at}
use Rattle.mon_series.proofs.HeldLemmas.{held_count, held_get, held_grown, held_same}
use Rattle.mon_series.proofs.KeptLemmas.{takes_parts}
use Rattle.mon_series.proofs.placing.push_known.Goals as goal

pub returns-in_default-room_for-clause-hidden : goal.returns-in_default-room_for-clause-hidden
returns-in_default-room_for-clause-hidden c =
    held_same (λ (series : SeriesPoints). series.hidden) c.args.groups.now.entries c.args.number c.in-Some.series.now
    c.room_for.new.series c.in-Some.ensures.value c.room_for.ensures.hidden

pub returns-in_default-room_for-clause-kept : goal.returns-in_default-room_for-clause-kept
returns-in_default-room_for-clause-kept c =
    held_same all_points c.args.groups.now.entries c.args.number c.in-Some.series.now c.room_for.new.series
    c.in-Some.ensures.value (λ i. c.room_for.ensures.hidden i ++ c.room_for.ensures.points i)

pub returns-in_err-_key-clause-hidden : goal.returns-in_err-_key-clause-hidden
returns-in_err-_key-clause-hidden c =
    let kept = held_same (λ (series : SeriesPoints). series.hidden) c.args.groups.now.entries c.args.number
    c.in-Some.series.now c.room_for.new.series c.in-Some.ensures.value c.room_for.ensures.hidden in
    search rules

pub returns-in_err-_key-clause-kept : goal.returns-in_err-_key-clause-kept
returns-in_err-_key-clause-kept c =
    let kept = held_same all_points c.args.groups.now.entries c.args.number c.in-Some.series.now c.room_for.new.series
    c.in-Some.ensures.value (λ i. c.room_for.ensures.hidden i ++ c.room_for.ensures.points i) in
    search rules

pub push-requires-clause-rises : goal.push-requires-clause-rises
push-requires-clause-rises c =
    let series = c.in-Some.series.now in
    let there = held_get c.args.groups.now.entries c.args.number series c.in-Some.ensures.value in
    subst (λ (point : Point). IfSome (last_end (all_points c.room_for.new.series)) (λ last. last <ℤ point.end))
    (sym c.in_ok-_key.ensures.parts.1)
    (subst (λ (ps : List Point). IfSome (last_end ps) (λ last. last <ℤ c.args.row.point.end))
    (λ i. sym c.room_for.ensures.hidden i ++ sym c.room_for.ensures.points i)
    (takes_parts _ c.args.row there.0 (all_points series) there.1 c.requires.takes))

pub returns-clause-hidden : goal.returns-clause-hidden
returns-clause-hidden c =
    held_same (λ (series : SeriesPoints). series.hidden) c.args.groups.now.entries c.args.number c.in-Some.series.now
    c.push.new.self c.in-Some.ensures.value (c.push.ensures.hidden ∙ c.room_for.ensures.hidden)

pub returns-clause-grown : goal.returns-clause-grown
returns-clause-grown c =
    let series = c.in-Some.series.now in
    held_grown c.args.groups.now.entries c.args.number series c.push.new.self c.args.row.point
    c.in-Some.ensures.value
    ((λ i. (c.push.ensures.hidden ∙ c.room_for.ensures.hidden) i
    ++ (c.push.ensures.added ∙ (λ i. c.room_for.ensures.points i ++ c.in_ok-_key.ensures.parts.1 i ∷ [])) i)
    ∙ sym (append_assoc series.hidden series.points (c.args.row.point ∷ [])))

pub returns-clause-placed : goal.returns-clause-placed
returns-clause-placed c =
    c.push-2.ensures.added
    ∙ (λ i. c.room_for.ensures.order i ++ c.in-Ok.ensures.place i ∷ [])
    ∙ ap (λ n. c.args.order.now.items ++ place_at c.args.number n ∷ []) (held_count c.args.groups.now.entries
    c.args.number c.in-Some.series.now c.in-Some.ensures.value)
