-- What the calls of a store for a write's events ask for, and what they come to, by what the events do to the seats.
use Rattle.std.proofs.Common.{◌≡◌, ℕ, ◌<◌, Bool, true, false, List, [], ◌∷◌, ◌++◌, Some, length, get_or}
use Rattle.std.proofs.Common.{refl, sym, ap, subst, ◌∙◌}
use Rattle.std.specs.Prelude.{slice_get}
use Rattle.std.proofs.lemmas.Option.{same_Some, slice_get_read}
use Rattle.mon_config.specs.declared.config.Config.{Config}
use Rattle.mon_topo.specs.Settings.{zone_of_leaf}
use Rattle.mon_value.specs.LeafHistories.{IsWellFormed, turn_entry}
use Rattle.mon_value.specs.declared.positions.Leaf.{Leaf}
use Rattle.mon_value.specs.declared.positions.Range.{Range}
use Rattle.mon_value.specs.declared.positions.Slot.{Slot}
use Rattle.mon_value.specs.declared.positions.Zone.{Zone}
use Rattle.core_store.proofs.AckTurnLemmas.{acknowledge_turn, has_room}
use Rattle.core_store.proofs.AtWorkLemmas.{StandsAt, StandsBefore, StandsInside, leaf_alike, leaf_in_sight}
use Rattle.core_store.proofs.AtWorkLemmas.{leaf_in_truth, leaf_there, own, range_alike, range_in_sight, range_there}
use Rattle.core_store.proofs.AtWorkLemmas.{stands_at}
use Rattle.core_store.proofs.LeafTurnLemmas.{enter_turn, reserve_turn}
use Rattle.core_store.proofs.LockTurnLemmas.{lock_turn}
use Rattle.core_store.proofs.PlaceLemmas.{root_there, zone_there, zone_word_there}
use Rattle.core_store.proofs.PutTurnLemmas.{follows, put_turn}
use Rattle.core_store.proofs.RaiseTurnLemmas.{buckets_below, inside_listed, inside_there, leaf_kept, place_small}
use Rattle.core_store.proofs.RaiseTurnLemmas.{root_turn, zone_small, zone_turn}
use Rattle.core_store.specs.Agreements.{IsLeafSo, IsRangeSo, place_of_leaf}
use Rattle.core_store.specs.HintWords.{HasWord}
use Rattle.mon_topo.specs.Sights.{AreAlike}
use Rattle.core_store.specs.Agreements.{store_of}
use Rattle.core_store.specs.WriteEvents.{ChangesLeaf, ChangesRange, EntersIf, LetsGo, LocksIf, Puts, RaisesBit}
use Rattle.core_store.specs.WriteEvents.{RaisesWord, ReservesIf}
use Rattle.core_store.specs.WriteTurns.{IsAtWork, IsInSomeWorld, WentSo, WriteEnded, WriteWent, WritesSo, turn_of}
use Rattle.core_store.specs.Writers.{IsKeyed, change_turn, writer_of}
use Rattle.core_store.specs.declared.leaves.LeafSeat.{LeafSeat}
use Rattle.core_store.specs.declared.ranges.RangeSeat.{RangeSeat}
use Rattle.mon_topo.specs.declared.sights.Sight.{Sight}
use Rattle.core_store.specs.declared.store.Store.{Store}
use Rattle.mon_hints.specs.declared.places.Place.TheVariants as word
use Rattle.core_store.specs.declared.writes.WriteTurn.{WriteTurn}
use Rattle.core_store.specs.declared.writes.Writing.{Writing}
use Rattle.write_core.specs.Invariant.{IsAt}
use Rattle.write_core.specs.Program.{Acking, Ended, Entering, Inside, Reserving, Stage, Verdict, after, ask_of}
use Rattle.write_core.specs.Program.{end_of_verdict, EndsSo}
use Rattle.write_core.specs.Replays.{HasAckRoom}
use Rattle.write_core.specs.World.{World, view_of}
use Rattle.write_core.specs.declared.asks.WriteAsk.{WriteAsk}
use Rattle.write_core.specs.declared.asks.WriteAsk.TheVariants as ask
use Rattle.write_core.specs.declared.asks.WriteEnd.{WriteEnd}
use Rattle.write_core.specs.declared.asks.WriteTold.TheVariants as told

turn_so : (config : Config) (world : World) (i : ℕ) (writing : Writing) (new : Store) (before now : Sight)
    (next : Writing)
    (went : Bool) → WentSo config world i writing new before now next went
    → WritesSo config world i writing new before now (turn_of went next)
turn_so config world i writing new before now next true h = h
turn_so config world i writing new before now next false h = h

module _ (config : Config) (world : World) (i : ℕ) (store : Store) (writing : Writing) (sight : Sight)
    (work : IsAtWork config world i store writing sight) where
  at_ask : (asks : WriteAsk) → ask_of writing.machine.stage ≡ asks → StandsAt asks writing.machine.stage
  at_ask asks e = stands_at writing.machine.stage asks work.writer.looks e

  own_at : (stage : Stage) → writing.machine.stage ≡ stage
      → IsAt (store_of config) world i (writer_of i writing (view_of (world.actors i))) stage
  own_at stage at =
      let here : IsAt (store_of config) world i (writer_of i writing (view_of (world.actors i))) writing.machine.stage
      = (own config world i store writing sight work).at in
      subst (λ (s : Stage). IsAt (store_of config) world i (writer_of i writing (view_of (world.actors i))) s) at here

  -- ---- the seats

  pub range_so : (seat : RangeSeat) → slice_get store.ranges.items writing.range.0 ≡ Some seat
      → IsRangeSo world writing.range.0 seat
  range_so seat got = work.shared.ranges.each writing.range.0 seat got

  pub leaf_so : (leaf : Leaf) (seat : LeafSeat) → slice_get store.leaves.items leaf.0 ≡ Some seat
      → IsLeafSo config world leaf seat
  leaf_so leaf seat got = work.shared.leaves.each leaf.0 seat got

  -- ---- leaves that are there

  reserve_leaf : (slot : Slot) (leaf : Leaf) → ask_of writing.machine.stage ≡ ask.Reserve slot leaf
      → leaf.0 < length world.truth.seen.leaves
  reserve_leaf slot leaf e =
      let at : StandsBefore Reserving writing.machine.stage slot leaf = at_ask (ask.Reserve slot leaf) e in
      subst (λ (l : Leaf). l.0 < length world.truth.seen.leaves) at.leaf_is
      (leaf_in_truth config world i store writing sight work at.done at.left at.mark
      (own_at (Reserving (record { done = at.done; left = at.mark ∷ at.left })) at.is).going)

  enter_leaf : (slot : Slot) (leaf : Leaf) → ask_of writing.machine.stage ≡ ask.Enter slot leaf
      → leaf.0 < length world.truth.seen.leaves
  enter_leaf slot leaf e =
      let at : StandsBefore Entering writing.machine.stage slot leaf = at_ask (ask.Enter slot leaf) e in
      subst (λ (l : Leaf). l.0 < length world.truth.seen.leaves) at.leaf_is
      (leaf_in_truth config world i store writing sight work at.done at.left at.mark
      (own_at (Entering (record { done = at.done; left = at.mark ∷ at.left })) at.is).going)

  put_leaf : (slot : Slot) (leaf : Leaf) → ask_of writing.machine.stage ≡ ask.Put slot leaf
      → leaf.0 < length world.truth.seen.leaves
  put_leaf slot leaf e =
      let at : StandsBefore (λ round. Inside round [] []) writing.machine.stage slot leaf = at_ask (ask.Put slot leaf)
      e in
      subst (λ (l : Leaf). l.0 < length world.truth.seen.leaves) at.leaf_is
      (leaf_in_truth config world i store writing sight work at.done at.left at.mark
      (own_at (Inside (record { done = at.done; left = at.mark ∷ at.left }) [] []) at.is).0.going)

  -- ---- turns

  pub lock_returns : ask_of writing.machine.stage ≡ ask.Lock → (seat : RangeSeat)
      → slice_get store.ranges.items writing.range.0 ≡ Some seat → (new : Store) (other : RangeSeat) (next : Writing)
      (now : Sight) (went : Bool) (turn : WriteTurn) → ChangesRange writing.range other store new
      → LocksIf store.config.range_points seat other writing next sight now went → turn ≡ turn_of went next
      → WritesSo config world i writing new sight now turn
  lock_returns e seat got new other next now went turn changes h is =
      subst (λ (t : WriteTurn). WritesSo config world i writing new sight now t) (sym is)
      (turn_so config world i writing new sight now next went
      (lock_turn config world i store writing sight work (at_ask ask.Lock e) seat (range_so seat got)
      store.config.range_points new
      other next now went (ap (λ (c : Config). c.range_points) work.shared.config_is) changes h))

  pub reserve_returns : (slot : Slot) (leaf : Leaf) → ask_of writing.machine.stage ≡ ask.Reserve slot leaf
      → (seat : LeafSeat)
      → slice_get store.leaves.items leaf.0 ≡ Some seat → (new : Store) (other : LeafSeat) (next : Writing)
      (now : Sight)
      (went : Bool) (turn : WriteTurn) → ChangesLeaf leaf other store new
      → ReservesIf leaf seat other writing next sight now went → turn ≡ turn_of went next
      → WritesSo config world i writing new sight now turn
  reserve_returns slot leaf e seat got new other next now went turn changes h is =
      subst (λ (t : WriteTurn). WritesSo config world i writing new sight now t) (sym is)
      (turn_so config world i writing new sight now next went
      (reserve_turn config world i store writing sight work slot leaf (at_ask (ask.Reserve slot leaf) e) seat
      (leaf_so leaf seat got) new other next now went changes h))

  pub enter_returns : (slot : Slot) (leaf : Leaf) → ask_of writing.machine.stage ≡ ask.Enter slot leaf
      → (seat : LeafSeat)
      → slice_get store.leaves.items leaf.0 ≡ Some seat → (new : Store) (other : LeafSeat) (next : Writing)
      (now : Sight)
      (went : Bool) (turn : WriteTurn) → ChangesLeaf leaf other store new
      → EntersIf leaf seat other writing next sight now went → turn ≡ turn_of went next
      → WritesSo config world i writing new sight now turn
  enter_returns slot leaf e seat got new other next now went turn changes h is =
      subst (λ (t : WriteTurn). WritesSo config world i writing new sight now t) (sym is)
      (turn_so config world i writing new sight now next went
      (enter_turn config world i store writing sight work slot leaf (at_ask (ask.Enter slot leaf) e) seat
      (leaf_so leaf seat got) new other next now went changes h))

  pub put_returns : (slot : Slot) (leaf : Leaf) → ask_of writing.machine.stage ≡ ask.Put slot leaf → (seat : LeafSeat)
      → slice_get store.leaves.items leaf.0 ≡ Some seat → (new : Store) (other : LeafSeat) (next : Writing)
      (now : Sight)
      → ChangesLeaf leaf other store new → Puts slot leaf seat other writing next sight now
      → WriteWent config world i new writing next now
  put_returns slot leaf e seat got new other next now changes h =
      put_turn config world i store writing sight work slot leaf (at_ask (ask.Put slot leaf) e) seat
      (leaf_so leaf seat got) new
      other next now changes h

  -- ---- the end

  -- a machine that was told that its acknowledgement is done ends by what was decided
  pub end_so : (verdict : Verdict) → writing.machine.stage ≡ Acking verdict → (range : Range) (stage : Stage)
      (end : WriteEnd)
      → range ≡ writing.machine.range → stage ≡ after writing.machine.stage told.Done → EndsSo range stage end
      → end ≡ end_of_verdict writing.range verdict
  end_so verdict at range stage end ranges stages ends =
      let ended : stage ≡ Ended verdict = stages ∙ ap (λ (s : Stage). after s told.Done) at in
      let is : end ≡ end_of_verdict range verdict = subst (λ (s : Stage). EndsSo range s end) ended ends in
      is ∙ ap (λ (r : Range). end_of_verdict r verdict) (ranges ∙ work.writer.range)

  pub acknowledge_returns : ask_of writing.machine.stage ≡ ask.Ack → (range : Range) (stage : Stage) (end : WriteEnd)
      → range ≡ writing.machine.range → stage ≡ after writing.machine.stage told.Done → EndsSo range stage end
      → (seat : RangeSeat) → slice_get store.ranges.items writing.range.0 ≡ Some seat
      → (new : Store) (other : RangeSeat)
      (now : Sight) → ChangesRange writing.range other store new
      → LetsGo end writing.number (change_turn writing.change) writing.range seat other sight now
      → WriteEnded config world i new writing now writing.range end
  acknowledge_returns e range stage end ranges stages ends seat got new other now changes goes =
      let at : (verdict : Verdict) × (writing.machine.stage ≡ Acking verdict) = at_ask ask.Ack e in
      acknowledge_turn config world i store writing sight work at.0 at.1 seat (range_so seat got) end
      (end_so at.0 at.1 range stage end ranges stages ends) new other now changes goes

  pub room_so : ask_of writing.machine.stage ≡ ask.Ack → (seat : RangeSeat)
      → slice_get store.ranges.items writing.range.0 ≡ Some seat → HasAckRoom seat.state
  room_so e seat got =
      let at : (verdict : Verdict) × (writing.machine.stage ≡ Acking verdict) = at_ask ask.Ack e in
      has_room config world i store writing sight work at.0 at.1 seat (range_so seat got)

  -- ---- what is asked for

  pub put_follows_so : (slot : Slot) (leaf : Leaf) → ask_of writing.machine.stage ≡ ask.Put slot leaf
      → (seat : LeafSeat)
      → slice_get store.leaves.items leaf.0 ≡ Some seat
      → IsWellFormed (seat.state.history ++ turn_entry writing.number writing.range slot (change_turn writing.change) ∷ [])
  put_follows_so slot leaf e seat got =
      follows config world i store writing sight work slot leaf (at_ask (ask.Put slot leaf) e) seat
      (leaf_so leaf seat got)

  -- ---- inside of a leaf

  module _ (at_root in_zone : List ℕ) (at : StandsInside writing.machine.stage at_root in_zone) (leaf : Leaf)
      (is : writing.inside ≡ Some leaf) where
    same_leaf : at.mark.leaf ≡ leaf
    same_leaf = same_Some at.mark.leaf leaf
        (sym (leaf_kept config world i store writing sight work at.done at.left at.mark at_root in_zone at.is) ∙ is)

    pub inside_leaf : leaf.0 < length world.truth.seen.leaves
    inside_leaf = subst (λ (l : Leaf). l.0 < length world.truth.seen.leaves) same_leaf
        (inside_there config world i store writing sight work at.done at.left at.mark at_root in_zone at.is)

  -- ---- bits

  root_at : (bucket : ℕ) → ask_of writing.machine.stage ≡ ask.RaiseRoot bucket
      → (at_root : List ℕ) × (in_zone : List ℕ) × StandsInside writing.machine.stage (bucket ∷ at_root) in_zone
  root_at bucket e = at_ask (ask.RaiseRoot bucket) e

  zone_at_ask : (bucket : ℕ) → ask_of writing.machine.stage ≡ ask.RaiseZone bucket
      → (in_zone : List ℕ) × StandsInside writing.machine.stage [] (bucket ∷ in_zone)
  zone_at_ask bucket e = at_ask (ask.RaiseZone bucket) e

  pub root_leaf : (bucket : ℕ) → ask_of writing.machine.stage ≡ ask.RaiseRoot bucket → (leaf : Leaf)
      → writing.inside ≡ Some leaf → leaf.0 < length world.truth.seen.leaves
  root_leaf bucket e leaf is =
      let at = root_at bucket e in inside_leaf (bucket ∷ at.0) at.1 at.2 leaf is

  pub zone_leaf : (bucket : ℕ) → ask_of writing.machine.stage ≡ ask.RaiseZone bucket → (leaf : Leaf)
      → writing.inside ≡ Some leaf → leaf.0 < length world.truth.seen.leaves
  zone_leaf bucket e leaf is =
      let at = zone_at_ask bucket e in inside_leaf [] (bucket ∷ at.0) at.1 leaf is

  pub root_child : (bucket : ℕ) → ask_of writing.machine.stage ≡ ask.RaiseRoot bucket → (leaf : Leaf)
      → writing.inside ≡ Some leaf → (seat : LeafSeat) → slice_get store.leaves.items leaf.0 ≡ Some seat → seat.zone.0
      < 64
  root_child bucket e leaf is seat got =
      let at = root_at bucket e in
      subst (λ (zone : Zone). zone.0 < 64) (sym (leaf_so leaf seat got).zone)
      (subst (λ (l : Leaf). (zone_of_leaf (store_of config) l).0 < 64) (same_leaf (bucket ∷ at.0) at.1 at.2 leaf is)
      (zone_small config world i store writing sight work at.2.done at.2.left at.2.mark (bucket ∷ at.0) at.1 at.2.is))

  pub zone_child : (bucket : ℕ) → ask_of writing.machine.stage ≡ ask.RaiseZone bucket → (leaf : Leaf)
      → writing.inside ≡ Some leaf → (seat : LeafSeat) → slice_get store.leaves.items leaf.0 ≡ Some seat → seat.place
      < 64
  zone_child bucket e leaf is seat got =
      let at = zone_at_ask bucket e in
      subst (λ (place : ℕ). place < 64) (sym (leaf_so leaf seat got).place)
      (subst (λ (l : Leaf). place_of_leaf (store_of config) l < 64) (same_leaf [] (bucket ∷ at.0) at.1 leaf is)
      (place_small config world i store writing sight work at.1.done at.1.left at.1.mark [] (bucket ∷ at.0) at.1.is))

  pub zone_word : (bucket : ℕ) → ask_of writing.machine.stage ≡ ask.RaiseZone bucket → (leaf : Leaf)
      → writing.inside ≡ Some leaf → (seat : LeafSeat) → slice_get store.leaves.items leaf.0 ≡ Some seat
      → HasWord store.words (word.Zone seat.zone) bucket
  zone_word bucket e leaf is seat got =
      let at = zone_at_ask bucket e in
      let below = buckets_below config world i store writing sight work at.1.done at.1.left at.1.mark []
      (bucket ∷ at.0) at.1.is in
      subst (λ (zone : Zone). HasWord store.words (word.Zone zone) bucket) (sym (leaf_so leaf seat got).zone)
      (subst (λ (l : Leaf). HasWord store.words (word.Zone (zone_of_leaf (store_of config) l)) bucket)
      (same_leaf [] (bucket ∷ at.0) at.1 leaf is)
      (zone_word_there config world store.words work.shared.words bucket below.1.0 (zone_of_leaf (store_of config)
      at.1.mark.leaf)
      (zone_there config at.1.mark.leaf
      (inside_listed config world i store writing sight work at.1.done at.1.left at.1.mark [] (bucket ∷ at.0)
      at.1.is))))

  pub root_word : (bucket : ℕ) → ask_of writing.machine.stage ≡ ask.RaiseRoot bucket → HasWord store.words word.Root
      bucket
  root_word bucket e =
      let at = root_at bucket e in
      let below = buckets_below config world i store writing sight work at.2.done at.2.left at.2.mark (bucket ∷ at.0)
      at.1 at.2.is in
      root_there config world store.words work.shared.words bucket below.0.0

  pub root_returns : (bucket : ℕ) → ask_of writing.machine.stage ≡ ask.RaiseRoot bucket → (leaf : Leaf)
      → writing.inside ≡ Some leaf → (seat : LeafSeat) → slice_get store.leaves.items leaf.0 ≡ Some seat → (new : Store)
      (other : LeafSeat) (next : Writing) (now : Sight) → RaisesWord word.Root seat.zone.0 bucket leaf other store new
      → RaisesBit leaf seat other writing next sight now → WriteWent config world i new writing next now
  root_returns bucket e leaf is seat got new other next now changes raises =
      let at = root_at bucket e in
      subst (λ (l : Leaf). IsLeafSo config world l seat → RaisesWord word.Root seat.zone.0 bucket l other store new
      → RaisesBit l seat other writing next sight now → WriteWent config world i new writing next now)
      (same_leaf (bucket ∷ at.0) at.1 at.2 leaf is)
      (λ so changes' raises'. root_turn config world i store writing sight work bucket at.0 at.1 at.2 seat so new other
      next now
      changes' raises') (leaf_so leaf seat got) changes raises

  pub zone_returns : (bucket : ℕ) → ask_of writing.machine.stage ≡ ask.RaiseZone bucket → (leaf : Leaf)
      → writing.inside ≡ Some leaf → (seat : LeafSeat) → slice_get store.leaves.items leaf.0 ≡ Some seat → (new : Store)
      (other : LeafSeat) (next : Writing) (now : Sight) → RaisesWord (word.Zone seat.zone) seat.place bucket leaf other
      store new
      → RaisesBit leaf seat other writing next sight now → WriteWent config world i new writing next now
  zone_returns bucket e leaf is seat got new other next now changes raises =
      let at = zone_at_ask bucket e in
      subst (λ (l : Leaf). IsLeafSo config world l seat → RaisesWord (word.Zone seat.zone) seat.place bucket l other
      store new
      → RaisesBit l seat other writing next sight now → WriteWent config world i new writing next now)
      (same_leaf [] (bucket ∷ at.0) at.1 leaf is)
      (λ so changes' raises'. zone_turn config world i store writing sight work bucket at.0 at.1 seat so new other next
      now
      changes' raises') (leaf_so leaf seat got) changes raises

-- ---- in some world

module _ (store : Store) (writing : Writing) (sight : Sight) (some : IsInSomeWorld store writing sight) where
  pub lock_range_there : writing.range.0 < length store.ranges.items
  lock_range_there = range_there some.config some.world some.i store writing sight some.at_work

  -- the seat that is read at a place
  pub range_read : (seat : RangeSeat) → seat ≡ get_or store.ranges.items writing.range.0 seat
      → slice_get store.ranges.items writing.range.0 ≡ Some seat
  range_read seat is = slice_get_read store.ranges.items (length store.ranges.items) writing.range.0 seat refl
      lock_range_there is

  pub lock_alike : (seat : RangeSeat) → slice_get store.ranges.items writing.range.0 ≡ Some seat
      → AreAlike sight seat.sight
  lock_alike seat got = range_alike some.config some.world some.i store writing sight some.at_work seat
      (range_so some.config some.world some.i store writing sight some.at_work seat got)

  pub lock_there : (seat : RangeSeat) → slice_get store.ranges.items writing.range.0 ≡ Some seat
      → writing.range.0 < length seat.sight.ranges
  lock_there seat got = range_in_sight some.config some.world some.i store writing sight some.at_work seat
      (range_so some.config some.world some.i store writing sight some.at_work seat got)

  module _ (leaf : Leaf) (here : leaf.0 < length some.world.truth.seen.leaves) where
    pub seat_there : leaf.0 < length store.leaves.items
    seat_there = leaf_there some.config some.world some.i store writing sight some.at_work leaf here

    pub leaf_read : (seat : LeafSeat) → seat ≡ get_or store.leaves.items leaf.0 seat
        → slice_get store.leaves.items leaf.0 ≡ Some seat
    leaf_read seat is = slice_get_read store.leaves.items (length store.leaves.items) leaf.0 seat refl seat_there is

    pub seat_alike : (seat : LeafSeat) → slice_get store.leaves.items leaf.0 ≡ Some seat → AreAlike sight seat.sight
    seat_alike seat got = leaf_alike some.config some.world some.i store writing sight some.at_work leaf here seat
        (leaf_so some.config some.world some.i store writing sight some.at_work leaf seat got)

    pub seat_in_sight : (seat : LeafSeat) → slice_get store.leaves.items leaf.0 ≡ Some seat → leaf.0
        < length seat.sight.leaves
    seat_in_sight seat got = leaf_in_sight some.config some.world some.i store writing sight some.at_work leaf here seat
        (leaf_so some.config some.world some.i store writing sight some.at_work leaf seat got)

  pub reserving_leaf : (slot : Slot) (leaf : Leaf) → ask_of writing.machine.stage ≡ ask.Reserve slot leaf
      → leaf.0 < length some.world.truth.seen.leaves
  reserving_leaf slot leaf e = reserve_leaf some.config some.world some.i store writing sight some.at_work slot leaf e

  pub entering_leaf : (slot : Slot) (leaf : Leaf) → ask_of writing.machine.stage ≡ ask.Enter slot leaf
      → leaf.0 < length some.world.truth.seen.leaves
  entering_leaf slot leaf e = enter_leaf some.config some.world some.i store writing sight some.at_work slot leaf e

  pub putting_leaf : (slot : Slot) (leaf : Leaf) → ask_of writing.machine.stage ≡ ask.Put slot leaf
      → leaf.0 < length some.world.truth.seen.leaves
  putting_leaf slot leaf e = put_leaf some.config some.world some.i store writing sight some.at_work slot leaf e

  pub putting_follows : (slot : Slot) (leaf : Leaf) → ask_of writing.machine.stage ≡ ask.Put slot leaf
      → (seat : LeafSeat)
      → slice_get store.leaves.items leaf.0 ≡ Some seat
      → IsWellFormed (seat.state.history ++ turn_entry writing.number writing.range slot (change_turn writing.change) ∷ [])
  putting_follows slot leaf e seat got =
      put_follows_so some.config some.world some.i store writing sight some.at_work slot leaf e seat got

  pub acking_room : ask_of writing.machine.stage ≡ ask.Ack → (seat : RangeSeat)
      → slice_get store.ranges.items writing.range.0 ≡ Some seat → HasAckRoom seat.state
  acking_room = room_so some.config some.world some.i store writing sight some.at_work

  pub own_key : IsKeyed writing.change
  own_key = some.at_work.writer.key

  -- where a bit is set
  module _ (bucket : ℕ) (asks : ask_of writing.machine.stage ≡ ask.RaiseRoot bucket) (leaf : Leaf)
      (is : writing.inside ≡ Some leaf) where
    pub raising_root_leaf : leaf.0 < length some.world.truth.seen.leaves
    raising_root_leaf = root_leaf some.config some.world some.i store writing sight some.at_work bucket asks leaf is

    pub raising_root_child : (seat : LeafSeat) → slice_get store.leaves.items leaf.0 ≡ Some seat → seat.zone.0 < 64
    raising_root_child seat got =
        root_child some.config some.world some.i store writing sight some.at_work bucket asks leaf is seat got

    pub raising_root_word : HasWord store.words word.Root bucket
    raising_root_word = root_word some.config some.world some.i store writing sight some.at_work bucket asks

  module _ (bucket : ℕ) (asks : ask_of writing.machine.stage ≡ ask.RaiseZone bucket) (leaf : Leaf)
      (is : writing.inside ≡ Some leaf) where
    pub raising_zone_leaf : leaf.0 < length some.world.truth.seen.leaves
    raising_zone_leaf = zone_leaf some.config some.world some.i store writing sight some.at_work bucket asks leaf is

    pub raising_zone_child : (seat : LeafSeat) → slice_get store.leaves.items leaf.0 ≡ Some seat → seat.place < 64
    raising_zone_child seat got =
        zone_child some.config some.world some.i store writing sight some.at_work bucket asks leaf is seat got

    pub raising_zone_word : (seat : LeafSeat) → slice_get store.leaves.items leaf.0 ≡ Some seat
        → HasWord store.words (word.Zone seat.zone) bucket
    raising_zone_word seat got =
        zone_word some.config some.world some.i store writing sight some.at_work bucket asks leaf is seat got
