use Rattle.std.proofs.Common.{◌∙◌, length, sym, ap, arith, slice_get}
use Rattle.std.specs.Prelude.{is_some}
use Rattle.std.proofs.lemmas.Result.{IfOk-weaker}
use Rattle.mon_series.specs.SeriesMaps.{series_held}
use Rattle.mon_series.specs.SlotViews.{SlotView}
use Rattle.mon_series.proofs.PlaceLemmas.{row_listed, rows_count}
use Rattle.mon_series.proofs.kept_rows.KeptRows.row.Goals as goal

pub get-requires : goal.get-requires
get-requires c =
    let count = rows_count (series_held c.self.inside.series.entries) c.self.inside.order.items
    c.self.invariant.placed.there in
    omega (arith, count, ap (λ (seen : SlotView). length seen.rows) c.self.view_is, c.requires.within)

pub row_in-requires : goal.row_in-requires
row_in-requires c =
    let listed = row_listed (series_held c.self.inside.series.entries) c.self.inside.order.items c.args.number
    c.get.result c.self.invariant.placed.there c.get.ensures.item in
    record { there = ap is_some listed.1 }

pub returns : goal.returns
returns c =
    let listed = row_listed (series_held c.self.inside.series.entries) c.self.inside.order.items c.args.number
    c.get.result c.self.invariant.placed.there c.get.ensures.item in
    record {
      row = IfOk-weaker c.row_in.result _ _ (λ row there. ap (λ (seen : SlotView). slice_get seen.rows c.args.number)
          (sym c.self.view_is) ∙ listed.2 ∙ sym listed.1 ∙ there) c.row_in.ensures.row;
    }
