-- How a store begins: the states of its leaves as the first replicas are opened, and then the seats of its leaves and ranges.
use Rattle.std.specs.Prelude.{ℕ, ◌≡◌, ◌+◌, ◌-◌, List, [], ◌∷◌, length, map, slice_get}
use Rattle.std.specs.Prelude.{Some, None}
use Rattle.std.specs.List.{slice_index_or}
use Rattle.leaf_store.specs.LeafStates.{LeafView, leaf_with_entry, with_promised}
use Rattle.mon_config.specs.declared.config.Config.{Config}
use Rattle.mon_topo.specs.Zones.{first_leaf, leaf_zones, leaves_in}
use Rattle.mon_value.specs.Histories.{zone_numbered}
use Rattle.mon_topo.specs.declared.zones.ZoneSpec.{ZoneSpec}
use Rattle.mon_value.specs.declared.histories.Entry.{Entry}
use Rattle.mon_value.specs.declared.histories.RangeEntry.{RangeEntry}
use Rattle.mon_value.specs.declared.positions.Range.{Range}
use Rattle.core_store.specs.Agreements.{first_view}
use Rattle.mon_topo.specs.HeldHistories.{opening}
use Rattle.mon_topo.specs.Sights.{range_sight}
use Rattle.core_store.specs.declared.leaves.LeafSeat.{LeafSeat}
use Rattle.core_store.specs.declared.ranges.RangeSeat.{RangeSeat}
use Rattle.mon_topo.specs.declared.sights.Sight.{Sight}
use Rattle.write_core.specs.Replays.{Replay}
use Rattle.write_core.specs.World.{Stands, World}

-- ---- the first replicas

-- a leaf's state has this history, and room is promised for none
pub record IsOpenedSo (config : Config) (history : List Entry) (state : LeafView) : Type 0 where
  pub schemas : state.schemas ≡ config.schemas
  pub buckets : state.buckets ≡ config.buckets
  pub entries : state.history ≡ history
  pub promised : state.promised ≡ 0

pub record AreOpenedSo (config : Config) (so_far : ℕ → List Entry) (states : List LeafView) : Type 0 where
  pub count : length states ≡ length (leaves_in config.topology)
  pub each : (n : ℕ) (state : LeafView) → slice_get states n ≡ Some state → IsOpenedSo config (so_far n) state

-- a replica without rows is opened on a leaf
abbrev pub with_opening : Range → ℕ → LeafView → LeafView
with_opening range slot state = leaf_with_entry (with_promised state (state.promised + 1)) (opening range slot)

-- the histories of replays
abbrev pub replayed : List Replay → List (List RangeEntry)
replayed = map (λ replay. replay.history)

-- ---- seats

-- how far whoever has seen all of these histories has seen them
abbrev pub sight_of_states : List LeafView → List Replay → Sight
sight_of_states leaves ranges = record {
  leaves = map (λ state. length state.history) leaves;
  ranges = map (λ replay. range_sight replay.history) ranges;
}

-- a leaf that nobody holds
abbrev pub leaf_seat : List ZoneSpec → Sight → ℕ → LeafView → LeafSeat
leaf_seat zones sight n state = record {
  state = state;
  zone = slice_index_or (leaf_zones zones) n (zone_numbered 0);
  place = n - first_leaf zones (slice_index_or (leaf_zones zones) n (zone_numbered 0)).0;
  holder = None;
  sight = sight;
}

-- leaves that are numbered on from n
abbrev pub leaf_seats : List ZoneSpec → Sight → ℕ → List LeafView → List LeafSeat
leaf_seats zones sight n [] = []
leaf_seats zones sight n (state ∷ states) = leaf_seat zones sight n state ∷ leaf_seats zones sight (n + 1) states

-- a range that nobody holds
abbrev pub range_seat : Sight → Replay → RangeSeat
range_seat sight state = record { state = state; holder = None; sight = sight }

-- ---- the world

-- nobody has begun, and everyone has seen all that there is
abbrev pub first_world : Config → World
first_world config = record {
  truth = first_view config;
  leaves = λ n. first_view config;
  ranges = λ n. first_view config;
  leaf_holder = λ n. None;
  range_holder = λ n. None;
  actors = λ i. Stands (record { pass = i; view = first_view config });
  notes = λ i. [];
}
