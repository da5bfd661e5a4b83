-- The seats of leaves and ranges that a store begins with.
use Rattle.std.specs.Prelude.{◌≡◌, List, length, map}
use Rattle.leaf_store.specs.LeafStates.{LeafView}
use Rattle.mon_config.specs.declared.config.Config.{Config}
use Rattle.mon_topo.specs.HeldHistories.{first_leaf_history, first_range_histories}
use Rattle.core_store.specs.HintWords.{no_words}
use Rattle.core_store.specs.Openings.{AreOpenedSo, leaf_seats, range_seat, replayed, sight_of_states}
use Rattle.core_store.specs.declared.store.Seats.{Seats}
use Rattle.write_core.specs.Replays.{Replay}

-- the first replicas are opened, all of them have been seen, nobody holds a leaf or a range, and no bit is set
pub record AreFirstSeats (config : Config) (seats : Seats) : Type 0 where
  pub states : List LeafView
  pub opened : AreOpenedSo config (first_leaf_history config.topology) states
  pub replays : List Replay
  pub replay : replayed replays ≡ first_range_histories config.topology
  pub sight : seats.first_sight ≡ sight_of_states states replays
  pub words : seats.words ≡ no_words (length config.topology) config.buckets
  pub leaves : seats.leaves.items ≡ leaf_seats config.topology seats.first_sight 0 states
  pub ranges : seats.ranges.items ≡ map (range_seat seats.first_sight) replays
