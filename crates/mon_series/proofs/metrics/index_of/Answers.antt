use Rattle.std.proofs.Common.{◌≡◌, ◌∙◌, ◌∷◌, ◌+◌, arith, drop, refl, subst, sym, ap}
use Rattle.std.proofs.lemmas.List.{drop_more}
use Rattle.mon_value.specs.declared.rows.SeriesKey.{SeriesKey}
use Rattle.mon_series.specs.within.Metrics.{HasRoom}
use Rattle.mon_series.proofs.MetricLemmas.{one_numbered}
use Rattle.mon_series.proofs.metrics.index_of.Goals as goal

pub loop-key-preserved : goal.loop-key-preserved
loop-key-preserved c =
    let l = c.loop-key in
    let entry = c.loop-key-item.result in
    let items = c.entries-key-items.result.now in
    let rest = drop (l.key-index + 1) items in
    let next : drop l.key-index items ≡ entry ∷ rest = drop_more items l.key-index entry (omega (arith, c.loop-key-test.true))
    ∙ ap (λ e. e ∷ rest) (sym c.loop-key-item.is) in
    let room : HasRoom c.make_room.new.index.entries entry.0.metric c.in_ok-at.at =
    subst (λ (key : SeriesKey). HasRoom c.make_room.new.index.entries key.metric c.in_ok-at.at) c.deref.ensures
    c.in_ok-at.ensures.room in
    one_numbered l.index.entries c.make_room.new.index.entries c.add_number.new.index.entries l.number _
    (drop l.key-index items) rest c.args.series.now.entries entry.0 entry.1 l.invariant next c.in_ok-at.ensures.numbers
    (c.add_number.ensures.added entry.0.metric room) refl
