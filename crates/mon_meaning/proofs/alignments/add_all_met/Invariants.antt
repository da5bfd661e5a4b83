-- the rows so far, and those of the series that are left, are all; so with their number
use Rattle.std.proofs.Common.{◌≡◌, ◌+◌, ◌++◌, length}
use Rattle.std.specs.List.{AllByRecursion, flat_map}
use Rattle.std.specs.Vec.Iter.{into_iter_items}
use Rattle.mon_meaning.specs.within.FetchViews.{met_rows}
use Rattle.mon_meaning.specs.within.MetSeries.{CanAlignMet, series_met}
use Rattle.mon_meaning.proofs.alignments.add_all_met.Given as goal

abbrev pub invariant-loop-one : goal.invariant-loop-one
invariant-loop-one l = record {
  rows : l.rows ++ flat_map (met_rows l.setting.grid l.by l.fetch) (series_met (into_iter_items l.one-iterator))
      ≡ l.fn.rows ++ flat_map (met_rows l.setting.grid l.by l.fetch) (series_met l.fn.met.items);
  counted : l.meter.load
      + length (flat_map (met_rows l.setting.grid l.by l.fetch) (series_met (into_iter_items l.one-iterator)))
      ≡ l.fn.meter.load + length (flat_map (met_rows l.setting.grid l.by l.fetch) (series_met l.fn.met.items));
  can : AllByRecursion (CanAlignMet l.setting.grid l.by l.fetch) (series_met (into_iter_items l.one-iterator));
  limit : l.meter.limit ≡ l.fn.meter.limit;
}
