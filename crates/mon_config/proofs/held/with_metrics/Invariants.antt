-- the schemas so far with the metrics that are left are those with all
use Rattle.std.proofs.Common.{◌≡◌, ◌+◌, length}
use Rattle.std.specs.Vec.Iter.{into_iter_items, into_iter_len}
use Rattle.mon_config.specs.Configs.{with_metrics}
use Rattle.mon_config.proofs.held.with_metrics.Given as goal

abbrev pub invariant-loop-metric : goal.invariant-loop-metric
invariant-loop-metric l = record {
  held : with_metrics l.i l.schemas (into_iter_items l.metric-iterator) ≡ with_metrics 0 l.fn.schemas l.fn.metrics;
  left : into_iter_len l.metric-iterator ≡ length (into_iter_items l.metric-iterator);
  counted : l.i + length (into_iter_items l.metric-iterator) ≡ length l.fn.metrics;
}
