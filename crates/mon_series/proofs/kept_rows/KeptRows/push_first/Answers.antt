use Rattle.std.proofs.Common.{◌≡◌, ◌∙◌, ◌<ℤ◌, List, [], ◌∷◌, ◌++◌, IfSome, length, refl, sym, ap, subst}
use Rattle.std.proofs.lemmas.List.{length-map}
use Rattle.mon_value.specs.LeafHistories.{last_end}
use Rattle.mon_value.specs.declared.rows.Row.{Row}
use Rattle.mon_value.specs.declared.rows.SeriesKey.{SeriesKey}
use Rattle.mon_series.specs.SeriesMaps.{hidden_held, series_held}
use Rattle.mon_series.specs.SeriesPoints.{all_points}
use Rattle.mon_series.specs.SlotViews.{SlotView}
use Rattle.mon_series.specs.within.Hidden.{stands}
use Rattle.mon_series.specs.within.Metrics.{HasRoom}
use Rattle.mon_series.proofs.EntryLemmas.{slot_more}
use Rattle.mon_series.proofs.HiddenRows.{stands_more}
use Rattle.mon_series.proofs.IndexedLemmas.{first_kept, stays_kept}
use Rattle.mon_series.proofs.KeptLemmas.{no_group}
use Rattle.mon_series.proofs.kept_rows.KeptRows.push_first.Goals as goal

pub push_first-requires : goal.push_first-requires
push_first-requires c = record {
  absent = no_group c.self.invariant.placed (ap (λ (seen : SlotView). seen.rows) c.self.view_is) c.args.row.key
      c.requires.first;
}

pub invariant_of-self : goal.invariant_of-self
invariant_of-self c = stays_kept c.self.invariant c.in_default.ensures.numbers refl refl

pub invariant_of-self-in_err-push_first : goal.invariant_of-self-in_err-push_first
invariant_of-self-in_err-push_first c =
    stays_kept c.self.invariant c.in-Ok.ensures.numbers c.in_err-push_first.ensures.kept
    c.in_err-push_first.ensures.order

pub invariant_of-self-2 : goal.invariant_of-self-2
invariant_of-self-2 c =
    let row = c.args.row in
    let entries = c.self.inside.series.entries in
    let count : length entries ≡ length (series_held entries) =
    sym (length-map entries (λ entry. (entry.0, all_points entry.1))) in
    let room : HasRoom c.make_room.new.index.entries row.key.metric c.in-Ok.at =
    subst (λ (key : SeriesKey). HasRoom c.make_room.new.index.entries key.metric c.in-Ok.at) c.deref.ensures
    c.in-Ok.ensures.room in
    let more = c.add_number.ensures.added row.key.metric room in
    let pushed = c.in_ok-push_first.ensures in
    (first_kept row c.make_room.new.index.entries c.add_number.new.index.entries c.series-number.result
    (length entries) c.self.invariant
    (ap (λ (seen : SlotView). seen.rows) c.self.view_is) c.requires.first c.series-number.ensures.count c.in-Ok.ensures.numbers more count pushed.grown
    pushed.placed pushed.few).0

pub returns-clause-pushed : goal.returns-clause-pushed
returns-clause-pushed c =
    let row = c.args.row in
    let entries = c.self.inside.series.entries in
    let count : length entries ≡ length (series_held entries) =
    sym (length-map entries (λ entry. (entry.0, all_points entry.1))) in
    let room : HasRoom c.make_room.new.index.entries row.key.metric c.in-Ok.at =
    subst (λ (key : SeriesKey). HasRoom c.make_room.new.index.entries key.metric c.in-Ok.at) c.deref.ensures
    c.in-Ok.ensures.room in
    let more = c.add_number.ensures.added row.key.metric room in
    let pushed = c.in_ok-push_first.ensures in
    let rows =
    (first_kept row c.make_room.new.index.entries c.add_number.new.index.entries c.series-number.result
    (length entries) c.self.invariant
    (ap (λ (seen : SlotView). seen.rows) c.self.view_is) c.requires.first c.series-number.ensures.count c.in-Ok.ensures.numbers more count pushed.grown
    pushed.placed pushed.few).1 in
    slot_more entries c.self.invariant c.self.view_is (series_held c.push_first.new.groups.entries)
    (hidden_held c.push_first.new.groups.entries) c.push_first.new.order.items row
    (subst (λ points. IfSome (last_end points) (λ last. last <ℤ row.point.end)) (sym c.requires.first) tt)
    (ap stands pushed.hidden ∙ stands_more (hidden_held entries) row.key)
    (rows ∙ ap (λ (rs : List Row). rs ++ row ∷ []) (ap (λ (seen : SlotView). seen.rows) (sym c.self.view_is)))
