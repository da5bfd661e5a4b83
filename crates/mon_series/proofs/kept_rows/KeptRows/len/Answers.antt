use Rattle.std.proofs.Common.{◌∙◌, length, sym, ap}
use Rattle.mon_series.specs.SeriesMaps.{series_held}
use Rattle.mon_series.specs.SlotViews.{SlotView}
use Rattle.mon_series.proofs.PlaceLemmas.{rows_count}
use Rattle.mon_series.proofs.kept_rows.KeptRows.len.Goals as goal

pub returns : goal.returns
returns c = record {
  count = c.len.ensures.count ∙ sym (rows_count (series_held c.self.inside.series.entries) c.self.inside.order.items
      c.self.invariant.placed.there) ∙ ap (λ (seen : SlotView). length seen.rows) c.self.view_is;
}
