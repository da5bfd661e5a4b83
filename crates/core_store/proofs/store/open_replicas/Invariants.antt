-- the replicas in the slots so far are opened
use Rattle.std.proofs.Common.{◌≡◌, take}
use Rattle.mon_topo.specs.Zones.{first_replicas}
use Rattle.mon_topo.specs.HeldHistories.{openings_from, opened_up_to}
use Rattle.core_store.specs.Openings.{AreOpenedSo}
use Rattle.core_store.proofs.store.open_replicas.Given as goal

abbrev pub invariant-loop-leaf : goal.invariant-loop-leaf
invariant-loop-leaf l = record {
  opened : AreOpenedSo l.config (opened_up_to l.config.topology l.range.0 l.leaf-index) l.leaves.items;
  history : l.state.history ≡ openings_from 0 (take l.leaf-index (first_replicas l.config.topology l.range.0));
  slot : l.number ≡ l.leaf-index;
}
