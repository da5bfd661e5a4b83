-- What a store keeps of all that actors share: each leaf, each range and each hint word as the core has it.
use Rattle.std.specs.Prelude.{ℕ, ◌≡◌, ◌+◌, ◌*◌, ◌-◌, ◌<◌, false, true, List, length, slice_get, Some, is_some}
use Rattle.leaf_store.specs.LeafStates.{key_buckets}
use Rattle.mon_config.specs.declared.config.Config.{Config}
use Rattle.mon_hints.specs.Covers.{Bits}
use Rattle.mon_hints.specs.Hints.{has_bit}
use Rattle.mon_schema.specs.Fits.{AreMetricsHeld, AllTellLocations}
use Rattle.mon_topo.specs.Faults.{AreLawfulZones}
use Rattle.mon_topo.specs.Replicas.{HasReplicas}
use Rattle.mon_topo.specs.Settings.{Setting, zone_of_leaf}
use Rattle.mon_value.specs.Histories.{leaf_numbered, range_numbered}
use Rattle.mon_topo.specs.Zones.{first_leaf, leaves_in, ranges_in}
use Rattle.mon_value.specs.declared.positions.Leaf.{Leaf}
use Rattle.mon_topo.specs.HeldHistories.{first_histories}
use Rattle.core_store.specs.HintWords.{HintTable, hint_word_at}
use Rattle.mon_topo.specs.Sights.{sight_of}
use Rattle.core_store.specs.declared.leaves.LeafSeat.{LeafSeat}
use Rattle.core_store.specs.declared.ranges.RangeSeat.{RangeSeat}
use Rattle.core_store.specs.declared.store.Store.{Store}
use Rattle.mon_hints.specs.declared.places.Place.TheVariants as at
use Rattle.write_core.specs.Replays.{HasAckRoom}
use Rattle.mon_topo.specs.Views.{View, of_leaf, of_range}
use Rattle.write_core.specs.World.{World}
use Rattle.mon_config.specs.Configs.{IsLimited}

-- ---- what a store is set up with

abbrev pub store_of : Config → Setting
store_of config = record {
  held = config.schemas;
  zones = config.topology;
  points = config.range_points;
  buckets_of = key_buckets config.buckets config.schemas;
}

-- what everyone has seen and knows at first: the first replicas of each range, and no bit
abbrev pub no_bits : Bits
no_bits = record { root = λ zone bucket. false; zone = λ leaf bucket. false }

abbrev pub first_view : Config → View
first_view config = record { seen = first_histories config.topology; bits = no_bits }

-- ---- its parts

-- the place of a leaf in its zone
abbrev pub place_of_leaf : Setting → Leaf → ℕ
place_of_leaf store leaf = leaf.0 - first_leaf store.zones (zone_of_leaf store leaf).0

-- a leaf's seat has the leaf's history and who holds it, and tells how far histories were seen there
pub record IsLeafSo (config : Config) (world : World) (leaf : Leaf) (seat : LeafSeat) : Type 0 where
  pub schemas : seat.state.schemas ≡ config.schemas
  pub buckets : seat.state.buckets ≡ config.buckets
  pub history : seat.state.history ≡ of_leaf world.truth leaf
  pub promised : seat.state.promised ≡ 0
  pub holder : seat.holder ≡ world.leaf_holder leaf.0
  pub sight : seat.sight ≡ sight_of (world.leaves leaf.0).seen
  pub zone : seat.zone ≡ zone_of_leaf (store_of config) leaf
  pub place : seat.place ≡ place_of_leaf (store_of config) leaf

pub record AreLeaves (config : Config) (world : World) (seats : List LeafSeat) : Type 0 where
  pub count : length seats ≡ length (leaves_in config.topology)
  pub each : (n : ℕ) (seat : LeafSeat) → slice_get seats n ≡ Some seat → IsLeafSo config world (leaf_numbered n) seat

-- so does a range's, and while someone holds the range its next acknowledgement takes no memory
pub record IsRangeSo (world : World) (n : ℕ) (seat : RangeSeat) : Type 0 where
  pub history : seat.state.history ≡ of_range world.truth (range_numbered n)
  pub holder : seat.holder ≡ world.range_holder n
  pub sight : seat.sight ≡ sight_of (world.ranges n).seen
  pub room : is_some seat.holder ≡ true → HasAckRoom seat.state

pub record AreRanges (config : Config) (world : World) (seats : List RangeSeat) : Type 0 where
  pub count : length seats ≡ length (ranges_in config.topology)
  pub each : (n : ℕ) (seat : RangeSeat) → slice_get seats n ≡ Some seat → IsRangeSo world n seat

-- each word has the bits that are set, and no other
pub record AreWords (config : Config) (world : World) (words : HintTable) : Type 0 where
  pub buckets : words.buckets ≡ config.buckets
  pub count : length words.words ≡ (length config.topology + 1) * config.buckets
  pub root : (zone bucket : ℕ) → bucket < config.buckets
      → has_bit (hint_word_at words at.Root bucket) zone ≡ world.truth.bits.root zone bucket
  pub zone : (leaf : Leaf) (bucket : ℕ) → leaf.0 < length (leaves_in config.topology) → bucket < config.buckets
      → has_bit (hint_word_at words (at.Zone (zone_of_leaf (store_of config) leaf)) bucket)
      (place_of_leaf (store_of config) leaf)
      ≡ world.truth.bits.zone leaf.0 bucket

-- ---- the whole

-- what is known of a configuration: its zones are lawful and have their replicas, and its schemas are held
pub record IsServed (config : Config) : Type 0 where
  pub limited : IsLimited config
  pub lawful : AreLawfulZones config.topology
  pub replicas : (range : ℕ) → range < length (ranges_in config.topology)
      → HasReplicas config.topology (range_numbered range)
  pub metrics : AreMetricsHeld config.schemas.metrics
  pub targets : AllTellLocations config.schemas.targets

-- a store of a configuration has what actors share in a world
pub record AreShared (config : Config) (world : World) (store : Store) : Type 0 where
  pub config_is : store.config ≡ config
  pub served : IsServed config
  pub words : AreWords config world store.words
  pub leaves : AreLeaves config world store.leaves.items
  pub ranges : AreRanges config world store.ranges.items
  pub first : store.first_sight ≡ sight_of (first_view config).seen
