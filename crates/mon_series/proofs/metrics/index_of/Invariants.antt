-- the numbers so far
use Rattle.std.proofs.Common.{drop}
use Rattle.mon_series.proofs.MetricLemmas.{NumberedSoFar}
use Rattle.mon_series.proofs.metrics.index_of.Given as goal

abbrev pub invariant-loop-key : goal.invariant-loop-key
invariant-loop-key l = NumberedSoFar l.index.entries l.number (drop l.key-index l.key-items) l.series.entries
