-- the series so far that are counted, with those of the numbers that are left; so with their points
use Rattle.std.proofs.Common.{◌≡◌, drop}
use Rattle.mon_series.specs.HeldSeries.{all_series, held_series}
use Rattle.mon_meaning.specs.within.MetSeries.{series_met}
use Rattle.mon_meaning.proofs.MetricSeries.{MetSoFar}
use Rattle.mon_meaning.proofs.alignments.add_met.Given as goal

abbrev pub invariant-loop-number : goal.invariant-loop-number
invariant-loop-number l = record {
  so_far : MetSoFar l.setting.grid l.by l.fetch (all_series l.rows.rows l.rows.kept)
      (held_series l.rows.rows l.rows.kept) (drop l.number-index l.numbers)
      (series_met l.fn.met.items)
      (series_met l.met.items) l.fn.meter.load l.meter.load;
  limit : l.meter.limit ≡ l.fn.meter.limit;
}
