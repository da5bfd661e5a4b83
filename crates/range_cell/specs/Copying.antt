-- What the caller of a recovery has while it holds the range.
use Rattle.std.specs.Prelude.{◌≡◌, ◌<◌, ◌≤◌, List, [], length, Some, None}
use Rattle.std.specs.List.{AllByRecursion}
use Rattle.history_book.specs.Seats.{hand_of, times_range}
use Rattle.know.specs.Knowledge.{Knowledge}
use Rattle.mon_topo.specs.HeldHistories.{IsAtHome}
use Rattle.mon_topo.specs.RangeHistories.{IsInZoneOf, IsLegal, left_rows, opened_slots, serving}
use Rattle.mon_topo.specs.Settings.{Setting}
use Rattle.mon_topo.specs.Zones.{first_replicas, leaves_in}
use Rattle.mon_value.specs.Histories.{leaf_history}
use Rattle.mon_value.specs.LeafHistories.{kept_rows, replica_turns}
use Rattle.mon_value.specs.declared.histories.RangeEntry.{RangeEntry}
use Rattle.mon_value.specs.declared.positions.Leaf.{Leaf}
use Rattle.mon_value.specs.declared.positions.Range.{Range}
use Rattle.owners.specs.Puts.{pass_of}
use Rattle.range_cell.specs.Rest.{HaveJust}
use Rattle.write_core.specs.CopySteps.{next_slot}
use Rattle.write_core.specs.Recovering.{denial_of}

-- The caller holds the range, whose first replicas were opened and which may open one more on the leaf; it knows of the
-- replicas that serve that they keep just the rows that are left, which lie in the range, and of no turn in the next slot
pub record IsHolding (setting : Setting) (range : Range) (leaf : Leaf) (history : List RangeEntry) (know : Knowledge)
    : Type 0 where
  pub zoned : IsInZoneOf setting.zones range leaf
  pub free : denial_of history leaf ≡ None
  pub begun : length (first_replicas setting.zones range.0) ≤ length (opened_slots history)
  pub number : (hand_of know.purse).own ≡ Some (pass_of know)
  pub held : 0 < times_range range know.purse.holds
  pub just : HaveJust know.seen range history
  pub legal : IsLegal setting.held setting.zones setting.points range history
  pub kept : AllByRecursion (λ replica. kept_rows range replica.slot (leaf_history know.seen replica.leaf)
      ≡ left_rows history) (serving history)
  pub bare : replica_turns range (next_slot history) (leaf_history know.seen leaf) ≡ []
  pub there : AllByRecursion (λ replica. replica.leaf.0 < length (leaves_in setting.zones)) (serving history)
  pub home : 0 < length (serving history)
      → AllByRecursion (IsAtHome setting.held setting.zones range) (left_rows history)
