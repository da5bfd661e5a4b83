use Rattle.std.proofs.Common.{◌∙◌, Some, sym, ap}
use Rattle.mon_series.specs.SeriesPoints.{all_points}
use Rattle.mon_series.specs.SlotViews.{SlotView}
use Rattle.mon_series.proofs.HeldLemmas.{held_entry}
use Rattle.mon_series.proofs.KeptLemmas.{numbered}
use Rattle.mon_series.proofs.kept_rows.KeptRows.key.Goals as goal

pub returns : goal.returns
returns c =
    let key = c.in-Some.key.now in
    let series = c.in-Some.field-0-1.now in
    let there = held_entry all_points c.self.inside.series.entries c.args.number key series
    (sym c.in-Some.ensures.entry) in
    record {
      key = (numbered c.self.invariant.placed (ap (λ (seen : SlotView). seen.rows) c.self.view_is) c.args.number key
          (all_points series) there).0
          ∙ ap (λ k. Some k) (sym c.deref.ensures);
    }
