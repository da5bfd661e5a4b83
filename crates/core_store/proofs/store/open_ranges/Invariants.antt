-- the replicas of the ranges so far are opened
use Rattle.std.proofs.Common.{◌≡◌, map}
use Rattle.std.specs.List.{range_with_len}
use Rattle.mon_topo.specs.HeldHistories.{first_range_history, opened_before}
use Rattle.core_store.specs.Openings.{AreOpenedSo, replayed}
use Rattle.core_store.proofs.store.open_ranges.Given as goal

abbrev pub invariant-loop-range : goal.invariant-loop-range
invariant-loop-range l = record {
  opened : AreOpenedSo l.config (opened_before l.config.topology l.range) l.leaves.items;
  histories : replayed l.ranges.items ≡ map (first_range_history l.config.topology) (range_with_len 0 l.range);
}
