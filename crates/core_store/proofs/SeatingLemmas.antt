-- A new store has what actors share in the first world.
use Rattle.std.proofs.Common.{◌≡◌, ◌∙◌, ◌<◌, ◌≤◌, ◌+◌, ◌*◌, ◌-◌, ◌==◌, ℕ, suc, zero, false, Some, List, [], ◌∷◌, ◌++◌}
use Rattle.std.proofs.Common.{append-nil, append_assoc, get_or, length, map, replicate, take, refl, sym, ap, subst}
use Rattle.std.proofs.Common.{arith, slice_get, slice_index_or, Result, Ok, Err, IfOk}
use Rattle.std.proofs.lemmas.List.{get_or-map, length-append, length-map, length-replicate, take_all, take_more}
use Rattle.std.proofs.lemmas.Nat.Bits.{bit_at-zero}
use Rattle.std.proofs.lemmas.List.FromFn.{fill_by_all, length-map-range_with_len}
use Rattle.std.proofs.lemmas.Option.{get_or_from_slice_get, slice_get-get_or, slice_get_within}
use Rattle.leaf_store.specs.LeafStates.{LeafView, new_leaf}
use Rattle.mon_config.specs.declared.config.Config.{Config}
use Rattle.mon_hints.specs.Hints.{has_bit}
use Rattle.mon_topo.proofs.PartLemmas.{zone_of_part}
use Rattle.mon_topo.specs.Settings.{zone_of_leaf}
use Rattle.mon_value.specs.Histories.{leaf_numbered, zone_numbered}
use Rattle.mon_topo.specs.Zones.{first_leaf, leaf_zones, zone_at, no_zone, leaves_in}
use Rattle.mon_topo.specs.Zones.{ranges_in}
use Rattle.mon_topo.specs.declared.zones.ZoneSpec.{ZoneSpec}
use Rattle.mon_value.specs.declared.histories.Entry.{Entry}
use Rattle.mon_value.specs.declared.histories.RangeEntry.{RangeEntry}
use Rattle.mon_topo.proofs.FirstLemmas.{leaf_is}
use Rattle.core_store.specs.Agreements.{AreLeaves, AreRanges, AreShared, AreWords, IsLeafSo, IsRangeSo, IsServed}
use Rattle.core_store.specs.Agreements.{first_view, place_of_leaf}
use Rattle.mon_topo.specs.HeldHistories.{first_histories, first_leaf_history, first_range_history}
use Rattle.mon_topo.specs.HeldHistories.{first_range_histories}
use Rattle.core_store.specs.FirstSeats.{AreFirstSeats}
use Rattle.core_store.specs.HintWords.{HintTable, index_of, no_words, hint_word_at}
use Rattle.core_store.specs.Openings.{AreOpenedSo, IsOpenedSo, first_world, leaf_seat}
use Rattle.core_store.specs.Openings.{leaf_seats, range_seat, replayed, sight_of_states}
use Rattle.mon_topo.specs.Sights.{range_sight, sight_of}
use Rattle.core_store.specs.declared.leaves.LeafSeat.{LeafSeat}
use Rattle.core_store.specs.declared.ranges.RangeSeat.{RangeSeat}
use Rattle.mon_topo.specs.declared.sights.RangeSight.{RangeSight}
use Rattle.mon_topo.specs.declared.sights.Sight.{Sight}
use Rattle.core_store.specs.declared.store.Seats.{Seats}
use Rattle.core_store.specs.declared.store.Store.{Store}
use Rattle.mon_hints.specs.declared.places.Place.{Place}
use Rattle.mon_hints.specs.declared.places.Place.TheVariants as at
use Rattle.core_store.specs.Agreements.{store_of}
use Rattle.write_core.specs.Replays.{Replay}

-- ---- how far histories were seen

lengths_by : (states : List LeafView)
    → map (λ (state : LeafView). length state.history) states ≡ map (λ (h : List Entry). length h)
    (map (λ (state : LeafView). state.history) states)
lengths_by [] = refl
lengths_by (state ∷ states) = ap (λ (l : List ℕ). length state.history ∷ l) (lengths_by states)

histories_are : (config : Config) (states : List LeafView) → AreOpenedSo config (first_leaf_history config.topology)
    states
    → map (λ (state : LeafView). state.history) states ≡ (first_histories config.topology).leaves
histories_are config states opened =
    fill_by_all (first_leaf_history config.topology) (map (λ (state : LeafView). state.history) states)
    (length (leaves_in config.topology)) [] (length-map states (λ (state : LeafView). state.history) ∙ opened.count)
    (λ k lt.
    let some : LeafView = new_leaf config.schemas config.buckets in
    let many = opened.count in
    let within : k < length states = omega (arith, lt, many) in
    get_or-map (λ (state : LeafView). state.history) states k some [] within
    ∙ (opened.each k (get_or states k some) (slice_get-get_or states k some within)).entries)

sights_by : (ranges : List Replay)
    → map (λ (replay : Replay). range_sight replay.history) ranges ≡ map range_sight (replayed ranges)
sights_by [] = refl
sights_by (replay ∷ ranges) = ap (λ (l : List RangeSight). range_sight replay.history ∷ l) (sights_by ranges)

sight_is : (config : Config) (states : List LeafView) (ranges : List Replay)
    → AreOpenedSo config (first_leaf_history config.topology) states
    → replayed ranges ≡ first_range_histories config.topology
    → sight_of_states states ranges ≡ sight_of (first_view config).seen
sight_is config states ranges opened are =
    let lengths : map (λ (state : LeafView). length state.history) states
    ≡ map (λ (h : List Entry). length h) (first_histories config.topology).leaves
    = lengths_by states ∙ ap (map (λ (h : List Entry). length h)) (histories_are config states opened) in
    let sights : map (λ (replay : Replay). range_sight replay.history) ranges
    ≡ map range_sight (first_range_histories config.topology)
    = sights_by ranges ∙ ap (map range_sight) are in
    λ i. record { leaves = lengths i; ranges = sights i }

-- ---- words

bare_at : (count i word : ℕ) → get_or (replicate count word) i word ≡ word
bare_at zero zero word = refl
bare_at zero (suc i) word = refl
bare_at (suc count) zero word = refl
bare_at (suc count) (suc i) word = bare_at count i word

unset : (zones buckets : ℕ) (place : Place) (bucket child : ℕ) → has_bit (hint_word_at (no_words zones buckets) place
    bucket) child ≡ false
unset zones buckets place bucket child =
    ap (λ (word : ℕ). has_bit word child) (bare_at ((zones + 1) * buckets) (index_of (no_words zones buckets) place
    bucket) 0) ∙ no_bit child
  where
    no_bit : (child : ℕ) → has_bit 0 child ≡ false
    no_bit child = ap (λ bit. bit == 1) (bit_at-zero child)

words_are : (config : Config) (words : HintTable) → words ≡ no_words (length config.topology) config.buckets
    → AreWords config (first_world config) words
words_are config words is =
    subst (AreWords config (first_world config)) (sym is)
    (record {
      buckets = refl;
      count = length-replicate ((length config.topology + 1) * config.buckets) 0;
      root = λ zone bucket below. unset (length config.topology) config.buckets at.Root bucket zone;
      zone = λ leaf bucket there below. unset (length config.topology) config.buckets
          (at.Zone (zone_of_leaf (store_of config) leaf)) bucket (place_of_leaf (store_of config) leaf);
    })

-- ---- leaves

record IsSeatAt (zones : List ZoneSpec) (sight : Sight) (from n : ℕ) (states : List LeafView) (seat : LeafSeat) : Type
    0 where
  state : LeafView
  there : slice_get states n ≡ Some state
  is : seat ≡ leaf_seat zones sight (from + n) state

some_seat : (a b : LeafSeat) → Some a ≡ Some b → a ≡ b
some_seat a b e = cc

seat_at : (zones : List ZoneSpec) (sight : Sight) (from n : ℕ) (states : List LeafView) (seat : LeafSeat)
    → slice_get (leaf_seats zones sight from states) n ≡ Some seat → IsSeatAt zones sight from n states seat
seat_at zones sight from n [] seat is = let l = slice_get_within [] n seat is in absurd (omega (arith, l))
seat_at zones sight from zero (state ∷ states) seat is =
    let same : from ≡ from + 0 = omega arith in
    record {
      state = state;
      there = refl;
      is = sym (some_seat (leaf_seat zones sight from state) seat is)
          ∙ ap (λ (k : ℕ). leaf_seat zones sight k state) same;
    }
seat_at zones sight from (suc n) (state ∷ states) seat is =
    let more = seat_at zones sight (from + 1) n states seat is in
    let same : (from + 1) + n ≡ from + suc n = omega arith in
    record {
      state = more.state;
      there = more.there;
      is = more.is ∙ ap (λ (k : ℕ). leaf_seat zones sight k more.state) same;
    }

seat_count : (zones : List ZoneSpec) (sight : Sight) (from : ℕ) (states : List LeafView)
    → length (leaf_seats zones sight from states) ≡ length states
seat_count zones sight from [] = refl
seat_count zones sight from (state ∷ states) = ap suc (seat_count zones sight (from + 1) states)

leaf_so : (config : Config) (sight : Sight) (n : ℕ) (state : LeafView) → sight ≡ sight_of (first_view config).seen
    → n < length (leaves_in config.topology) → IsOpenedSo config (first_leaf_history config.topology n) state
    → IsLeafSo config (first_world config) (leaf_numbered n) (leaf_seat config.topology sight n state)
leaf_so config sight n state seen within opened = record {
  schemas = opened.schemas;
  buckets = opened.buckets;
  history = opened.entries ∙ sym (leaf_is config.topology (leaf_numbered n) within);
  promised = opened.promised;
  holder = refl;
  sight = seen;
  zone = refl;
  place = refl;
}

leaves_are : (config : Config) (sight : Sight) (states : List LeafView) (seats : List LeafSeat)
    → AreOpenedSo config (first_leaf_history config.topology) states → sight ≡ sight_of (first_view config).seen
    → seats ≡ leaf_seats config.topology sight 0 states → AreLeaves config (first_world config) seats
leaves_are config sight states seats opened seen are = record {
  count = ap (λ (l : List LeafSeat). length l) are ∙ seat_count config.topology sight 0 states ∙ opened.count;
  each = λ n seat there.
      let found = seat_at config.topology sight 0 n states seat (sym (ap (λ (l : List LeafSeat). slice_get l n) are)
      ∙ there) in
      let few : n < length states = slice_get_within states n found.state found.there in
      let many = opened.count in
      let within : n < length (leaves_in config.topology) = omega (arith, few, many) in
      let same : 0 + n ≡ n = omega arith in
      let is : seat ≡ leaf_seat config.topology sight n found.state
      = found.is ∙ ap (λ (k : ℕ). leaf_seat config.topology sight k found.state) same in
      subst (IsLeafSo config (first_world config) (leaf_numbered n)) (sym is)
      (leaf_so config sight n found.state seen within (opened.each n found.state found.there));
}

-- one leaf more, in front of those that are left
pub seats_more : (zones : List ZoneSpec) (sight : Sight) (made new whole : List LeafSeat) (state : LeafView)
    (rest : List LeafView)
    → made ++ leaf_seats zones sight (length made) (state ∷ rest) ≡ whole
    → new ≡ made ++ leaf_seat zones sight (length made) state ∷ []
    → new ++ leaf_seats zones sight (length new) rest ≡ whole
seats_more zones sight made new whole state rest before added =
    let seat : LeafSeat = leaf_seat zones sight (length made) state in
    let long : length new ≡ length made + 1 = ap (λ (l : List LeafSeat). length l) added ∙ length-append made
    (seat ∷ []) in
    (λ i. added i ++ leaf_seats zones sight (long i) rest)
    ∙ append_assoc made (seat ∷ []) (leaf_seats zones sight (length made + 1) rest)
    ∙ before

-- all leaves have their seats
pub seats_whole : (zones : List ZoneSpec) (sight : Sight) (made whole : List LeafSeat) (rest : List LeafView)
    → length rest ≡ 0
    → made ++ leaf_seats zones sight (length made) rest ≡ whole → made ≡ whole
seats_whole zones sight made whole [] none all = sym (append-nil made) ∙ all
seats_whole zones sight made whole (state ∷ rest) none all = absurd (omega (arith, none))

-- ---- the zone of a leaf

leaves_last : (zones : List ZoneSpec) (zone : ZoneSpec) → length (leaves_in (zones ++ zone ∷ []))
    ≡ length (leaves_in zones) + length zone.leaves
leaves_last [] zone =
    let all : length (zone.leaves ++ []) ≡ length zone.leaves
    = ap (λ (l : List (List ℕ)). length l) (append-nil zone.leaves) in
    omega (arith, all)
leaves_last (first ∷ zones) zone =
    let more = leaves_last zones zone in
    let all = length-append first.leaves (leaves_in (zones ++ zone ∷ [])) in
    let front = length-append first.leaves (leaves_in zones) in
    omega (arith, more, all, front)

-- the next zone begins behind the leaves of this one
pub next_first : (zones : List ZoneSpec) (z : ℕ) → z < length zones
    → first_leaf zones (z + 1) ≡ first_leaf zones z + length (zone_at zones z).leaves
next_first zones z there =
    ap (λ (l : List ZoneSpec). length (leaves_in l)) (take_more zones z no_zone there)
    ∙ leaves_last (take z zones) (zone_at zones z)

-- a leaf that is among a zone's lies in it
pub zone_here : (zones : List ZoneSpec) (z n : ℕ) → z < length zones → first_leaf zones z ≤ n
    → n - first_leaf zones z < length (zone_at zones z).leaves
    → zone_numbered z ≡ slice_index_or (leaf_zones zones) n (zone_numbered 0)
zone_here zones z n there from within =
    let first : ℕ = first_leaf zones z in
    let place : ℕ = n - first in
    let is : n ≡ first + place = omega (arith, from) in
    let number : 0 + z ≡ z = omega arith in
    sym (get_or_from_slice_get (leaf_zones zones) n (zone_numbered z) (zone_numbered 0)
    (ap (slice_get (leaf_zones zones)) is
    ∙ zone_of_part (λ (zone : ZoneSpec). zone.leaves) 0 zones z place there within
    ∙ ap (λ (k : ℕ). Some (zone_numbered k)) number))

-- no leaf is behind all zones
pub none_behind : (zones : List ZoneSpec) (z n : ℕ) → length zones ≤ z → first_leaf zones z ≤ n
    → n < length (leaves_in zones) → ⊥
none_behind zones z n past from within =
    let whole : first_leaf zones z ≡ length (leaves_in zones)
    = ap (λ (l : List ZoneSpec). length (leaves_in l)) (take_all z zones past) in
    omega (arith, whole, from, within)

-- ---- ranges

some_range : (a b : RangeSeat) → Some a ≡ Some b → a ≡ b
some_range a b e = cc

-- the seat of a replay
record IsSeated (sight : Sight) (n : ℕ) (replays : List Replay) (seat : RangeSeat) : Type 0 where
  replay : Replay
  history : replay.history ≡ get_or (replayed replays) n []
  is : range_seat sight replay ≡ seat

range_at : (sight : Sight) (n : ℕ) (replays : List Replay) (seat : RangeSeat)
    → slice_get (map (range_seat sight) replays) n ≡ Some seat → IsSeated sight n replays seat
range_at sight n [] seat is = let l = slice_get_within [] n seat is in absurd (omega (arith, l))
range_at sight zero (replay ∷ replays) seat is = record {
  replay = replay;
  history = refl;
  is = some_range (range_seat sight replay) seat is;
}
range_at sight (suc n) (replay ∷ replays) seat is =
    let rest = range_at sight n replays seat is in
    record { replay = rest.replay; history = rest.history; is = rest.is }

ranges_are : (config : Config) (sight : Sight) (seats : List RangeSeat) (replays : List Replay)
    → sight ≡ sight_of (first_view config).seen → replayed replays ≡ first_range_histories config.topology
    → seats ≡ map (range_seat sight) replays → AreRanges config (first_world config) seats
ranges_are config sight seats replays seen same are = record {
  count = ap (λ (l : List RangeSeat). length l) are
      ∙ length-map replays (range_seat sight)
      ∙ sym (length-map replays (λ (replay : Replay). replay.history))
      ∙ ap (λ (l : List (List RangeEntry)). length l) same
      ∙ length-map-range_with_len (first_range_history config.topology) 0 (length (ranges_in config.topology));
  each = λ n seat there.
      let own = range_at sight n replays seat (sym (ap (λ (l : List RangeSeat). slice_get l n) are) ∙ there) in
      subst (IsRangeSo (first_world config) n) own.is
      (record {
        history = own.history ∙ ap (λ (l : List (List RangeEntry)). get_or l n []) same;
        holder = refl;
        sight = seen;
        room = λ held. absurd cc;
      });
}

-- ---- all of them

pub shared : (config : Config) (store : Store) (states : List LeafView) (ranges : List Replay) (sight : Sight)
    → IsServed config → AreOpenedSo config (first_leaf_history config.topology) states
    → replayed ranges ≡ first_range_histories config.topology → sight ≡ sight_of_states states ranges
    → store.config ≡ config → store.words ≡ no_words (length config.topology) config.buckets
    → store.leaves.items ≡ leaf_seats config.topology sight 0 states
    → store.ranges.items ≡ map (range_seat sight) ranges → store.first_sight ≡ sight
    → AreShared config (first_world config) store
shared config store states ranges sight served opened histories seen config_is words leaves seats first =
    let whole : sight ≡ sight_of (first_view config).seen = seen ∙ sight_is config states ranges opened histories in
    record {
      config_is = config_is;
      served = served;
      words = words_are config store.words words;
      leaves = leaves_are config sight states store.leaves.items opened whole leaves;
      ranges = ranges_are config sight store.ranges.items ranges whole histories seats;
      first = first ∙ whole;
    }

-- ---- seats that nobody holds, and of which all is seen

pub first_seats : {E : Type 0} (config : Config) (states : List LeafView) (ranges : List Replay)
    (sight : Sight) (result : Result Seats E)
    → AreOpenedSo config (first_leaf_history config.topology) states
    → replayed ranges ≡ first_range_histories config.topology
    → sight ≡ sight_of_states states ranges
    → IfOk result (λ (seats : Seats). seats.words ≡ no_words (length config.topology) config.buckets)
    → IfOk result (λ (seats : Seats). seats.leaves.items ≡ leaf_seats config.topology sight 0 states)
    → IfOk result (λ (seats : Seats). seats.ranges.items ≡ map (range_seat sight) ranges)
    → IfOk result (λ (seats : Seats). seats.first_sight ≡ sight)
    → IfOk result (AreFirstSeats config)
first_seats config states ranges sight (Ok seats) opened histories seen words leaves seats_of_ranges first = record {
  states = states;
  opened = opened;
  replays = ranges;
  replay = histories;
  sight = first ∙ seen;
  words = words;
  leaves = leaves ∙ ap (λ (s : Sight). leaf_seats config.topology s 0 states) (sym first);
  ranges = seats_of_ranges ∙ ap (λ (s : Sight). map (range_seat s) ranges) (sym first);
}
first_seats config states ranges sight (Err why) opened histories seen words leaves seats_of_ranges first = record {}
