use Rattle.std.proofs.Common.{ap}
use Rattle.std.proofs.lemmas.Result.{on_ok_weaker}
use Rattle.mon_series.specs.SeriesMaps.{hidden_held, series_held}
use Rattle.mon_series.specs.SlotViews.{SlotView}
use Rattle.mon_series.specs.within.Hidden.{stands}
use Rattle.mon_series.proofs.EntryLemmas.{slot_more}
use Rattle.mon_series.proofs.IndexedLemmas.{known_kept, rising_known, slot_stays}
use Rattle.mon_series.proofs.KeptLemmas.{known_pushed, takes_row}
use Rattle.mon_series.proofs.kept_rows.KeptRows.push_to.Goals as goal

pub push_known-requires : goal.push_known-requires
push_known-requires c = record {
  takes = takes_row c.self.invariant.placed (ap (λ (seen : SlotView). seen.rows) c.self.view_is) c.args.number
      c.args.row c.requires.series c.requires.later;
}

pub invariant_of-self : goal.invariant_of-self
invariant_of-self c =
    let seen = ap (λ (seen : SlotView). seen.rows) c.self.view_is in
    let before = series_held c.self.inside.series.entries in
    let after = series_held c.push_known.new.groups.entries in
    let takes = takes_row c.self.invariant.placed seen c.args.number c.args.row c.requires.series c.requires.later in
    known_kept c.args.row c.args.number c.push_known.result c.self.invariant seen c.requires.series
    (rising_known before after c.args.number c.args.row c.push_known.result c.self.invariant.rising takes
    c.push_known.ensures.grown c.push_known.ensures.kept)
    (known_pushed c.self.invariant.placed seen c.args.row after c.push_known.new.order.items c.args.number
    c.push_known.result c.requires.series c.push_known.ensures.grown c.push_known.ensures.placed
    c.push_known.ensures.kept c.push_known.ensures.order)

pub returns-clause-pushed : goal.returns-clause-pushed
returns-clause-pushed c =
    let after = series_held c.push_known.new.groups.entries in
    let pushed = known_pushed c.self.invariant.placed (ap (λ (seen : SlotView). seen.rows) c.self.view_is) c.args.row
    after c.push_known.new.order.items c.args.number c.push_known.result
    c.requires.series c.push_known.ensures.grown c.push_known.ensures.placed c.push_known.ensures.kept
    c.push_known.ensures.order in
    on_ok_weaker c.push_known.result
    (slot_more c.self.inside.series.entries c.self.invariant c.self.view_is after (hidden_held c.push_known.new.groups.entries)
    c.push_known.new.order.items c.args.row c.requires.later (ap stands c.push_known.ensures.hidden))
    pushed.rows

pub returns-clause-kept : goal.returns-clause-kept
returns-clause-kept c =
    slot_stays _ _ _ _ _ _ _ c.push_known.result c.push_known.ensures.kept c.push_known.ensures.order c.push_known.ensures.hidden
    c.self.view_is
