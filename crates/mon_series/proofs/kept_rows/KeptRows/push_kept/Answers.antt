use Rattle.std.proofs.Common.{◌∙◌, ◌++◌, ap}
use Rattle.std.proofs.lemmas.Result.{on_ok_weaker}
use Rattle.mon_series.specs.SlotViews.{SlotView}
use Rattle.mon_series.proofs.kept_rows.KeptRows.push_kept.Goals as goal

pub push_standing-requires : goal.push_standing-requires
push_standing-requires c = record { there = c.self.invariant.placed.there }

pub returns : goal.returns
returns c = record {
  added = on_ok_weaker c.push_standing.result
      (λ added. added ∙ ap (λ (seen : SlotView). c.args.rows.now ++ seen.kept) c.self.view_is)
      c.push_standing.ensures.added;
}
