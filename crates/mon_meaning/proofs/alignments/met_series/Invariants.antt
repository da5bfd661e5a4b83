-- the series so far that are counted, with those of the sources that are left; so with their points
use Rattle.std.proofs.Common.{◌≡◌, ◌+◌, ◌++◌, drop, filter, sum_by}
use Rattle.mon_meaning.specs.Central.{all_held}
use Rattle.mon_meaning.specs.within.MetSeries.{is_counted, met_count, series_met}
use Rattle.mon_meaning.proofs.alignments.met_series.Given as goal

abbrev pub invariant-loop-rows : goal.invariant-loop-rows
invariant-loop-rows l = record {
  met : series_met l.met.items ++ filter (is_counted l.setting.grid l.by l.fetch)
      (all_held (drop l.rows-index l.setting.series.now))
      ≡ filter (is_counted l.setting.grid l.by l.fetch) (all_held l.setting.series.now);
  counted : l.meter.load + sum_by (met_count l.setting.grid l.by l.fetch)
      (all_held (drop l.rows-index l.setting.series.now))
      ≡ l.fn.meter.load + sum_by (met_count l.setting.grid l.by l.fetch) (all_held l.setting.series.now);
  limit : l.meter.limit ≡ l.fn.meter.limit;
}
