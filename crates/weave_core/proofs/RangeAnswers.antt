-- What a query is told of a range is what the core tells it.
use Rattle.std.proofs.Common.{◌≡◌, ◌∙◌, ◌<◌, ℕ, length, refl, sym, ap, subst, arith}
use Rattle.std.specs.Prelude.{is_some, slice_get, Option, Some, None}
use Rattle.std.proofs.lemmas.List.{length-map}
use Rattle.mon_config.specs.declared.config.Config.{Config}
use Rattle.mon_value.specs.declared.positions.Range.{Range}
use Rattle.mon_value.specs.declared.positions.SlotLeaf.{SlotLeaf}
use Rattle.query_core.specs.Machine.{Query, slots_at}
use Rattle.query_core.specs.Program.{ask_of}
use Rattle.mon_topo.specs.RangeHistories.{first_serving}
use Rattle.query_traces.specs.declared.asks.Ask.{Ask}
use Rattle.query_traces.specs.declared.asks.Ask.TheVariants as ask
use Rattle.query_traces.specs.declared.asks.Told.{Told}
use Rattle.core_store.proofs.MeetingLemmas.{range_met}
use Rattle.weave_core.proofs.QuerySeats.{resolved_same, same_world, shared_range}
use Rattle.core_store.proofs.SeatLemmas.{parts_alike}
use Rattle.core_store.specs.Agreements.{IsRangeSo}
use Rattle.core_theory.specs.Core.{Core, IsTold, Reader, query_now}
use Rattle.core_store.specs.Holders.{HoldsRange}
use Rattle.core_store.specs.Meetings.{sight_at_range}
use Rattle.weave_core.specs.QueryLooks.{FindsReplica, FindsAt, IsSeatedForRange, slot_told}
use Rattle.core_store.specs.WriteEvents.{IsHeldFrom}
use Rattle.weave_core.specs.QueryTurns.{AnswersSo, IsAnswered, IsAsking, QueryWaits}
use Rattle.mon_topo.specs.Sights.{AreAlike, range_sight, sight_of}
use Rattle.core_store.specs.Agreements.{store_of}
use Rattle.core_store.specs.WriteEvents.{ChangesRange}
use Rattle.weave_core.specs.declared.queries.Querying.{Querying}
use Rattle.core_store.specs.declared.ranges.RangeSeat.{RangeSeat}
use Rattle.mon_topo.specs.declared.sights.Sight.{Sight}
use Rattle.core_store.specs.declared.store.Store.{Store}
use Rattle.write_core.proofs.KeepsLemmas.{changed_same}
use Rattle.write_core.specs.Replays.{HasAckRoom, Replay}
use Rattle.mon_topo.specs.Views.{View, joined_view, of_range}
use Rattle.write_core.specs.World.{World}
use Rattle.weave_core.proofs.AskingLemmas.{answered, not_mine, there_at, waits}
use Rattle.core_store.proofs.WriteTurnLemmas.{some_of}

module _ (config : Config) (core : Core (store_of config)) (k : ℕ) (store : Store) (querying : Querying) (sight : Sight)
    (asking : IsAsking config core k store querying sight) where
  abbrev reader : Reader (store_of config)
  reader = core.readers k

  abbrev world : World
  world = core.world

  abbrev query : Query
  query = query_now (store_of config) reader

  abbrev asks : Ask
  asks = ask_of querying.machine.setting querying.machine.stage

  module _ (range : Range) (e : asks ≡ ask.Resolve range) where
    pub range_there : range.0 < length store.ranges.items
    range_there = omega (
      arith,
      there_at config core k store querying sight asking (ask.Resolve range) e,
      asking.shared.ranges.count,
    )

    range_so : (seat : RangeSeat) → slice_get store.ranges.items range.0 ≡ Some seat → IsRangeSo world range.0 seat
    range_so seat was = asking.shared.ranges.each range.0 seat was

    pub range_seated : IsSeatedForRange range store.ranges.items sight
    range_seated seat was =
        let so = range_so seat was in
        let parts = parts_alike (store_of config) world reader.view (world.ranges range.0) (asking.woven.readers k).part
        (asking.woven.world.ranges range) in (
          subst (λ (s : Sight). AreAlike s seat.sight) (sym asking.reader.seen)
              (subst (λ (s : Sight). AreAlike (sight_of reader.view.seen) s) (sym so.sight) parts),
          omega (
            arith,
            there_at config core k store querying sight asking (ask.Resolve range) e,
            ap (λ (s : Sight). length s.ranges) so.sight,
            length-map (world.ranges range.0).seen.ranges range_sight,
            (asking.woven.world.ranges range).sound.held.all_ranges,
          ),
        )

    found_told : (found : Option SlotLeaf) → world.range_holder range.0 ≡ None
        → first_serving query.avoided (of_range world.truth range) ≡ found
        → IsTold (store_of config) reader.setting reader.moment world reader.view query.avoided (slots_at query)
        (ask.Resolve range) (slot_told found)
    found_told None free is = (free, is)
    found_told (Some replica) free is = (free, is)

    module _ (new : Store) (now : Sight) (seat left : RangeSeat) (was : slice_get store.ranges.items range.0
        ≡ Some seat)
        (changes : ChangesRange range left store new) where
      pub range_found : (answer : Told) → FindsReplica range querying.machine.avoided seat left sight now answer
          → IsAnswered config core k new now answer
      range_found answer finds =
          let so = range_so seat was in
          let seen_then : now ≡ sight_of (joined_view reader.view (world.ranges range.0)).seen =
          finds.seen
          ∙ (λ i. sight_at_range range (so.history i) (asking.reader.seen i) (so.sight i))
          ∙ range_met (store_of config) world reader.view range asking.woven.world (asking.woven.readers k).part in
          let avoided : querying.machine.avoided ≡ query.avoided = ap (λ (one : Query). one.avoided)
          (sym asking.reader.now) in
          let told_as : answer ≡ slot_told (first_serving query.avoided (of_range world.truth range)) =
          finds.told_so ∙ (λ i. slot_told (first_serving (avoided i) (so.history i))) in
          answered config core k store querying sight asking (ask.Resolve range) e new now answer (record {
            told = subst (λ (some : Told). IsTold (store_of config) reader.setting reader.moment world reader.view
                query.avoided (slots_at query) (ask.Resolve range) some) (sym told_as)
                (found_told (first_serving query.avoided (of_range world.truth range)) (sym so.holder ∙ finds.free)
                refl);
            shared = shared_range config world _ range store new left (resolved_same world range reader.view)
                asking.shared
                changes (record {
                  history = ap (λ (replay : Replay). replay.history) finds.state ∙ so.history;
                  holder = finds.holder ∙ so.holder;
                  sight = finds.sight_there ∙ seen_then
                      ∙ ap (λ (view : View). sight_of view.seen)
                      (sym (changed_same world.ranges range.0 (joined_view reader.view (world.ranges range.0))));
                  room = λ held. subst HasAckRoom (sym finds.state) (so.room (ap is_some (sym finds.holder) ∙ held));
                });
            sight_is = seen_then;
          })

      pub range_held : IsHeldFrom seat.holder seat left sight now → QueryWaits config core k new sight now
      range_held held =
          let so = range_so seat was in
          let other = some_of seat.holder held.held in
          waits config core k store querying sight asking (ask.Resolve range) e new now other.0 (sym so.holder
          ∙ other.1)
          (not_mine config core k store querying sight asking (λ actor. HoldsRange range.0 actor) (λ stander h. h)
          other.0
          (asking.holders.range range.0 other.0 (sym so.holder ∙ other.1)))
          (shared_range config world world range store new left (same_world world _ _) asking.shared changes
          (subst (λ (some : RangeSeat). IsRangeSo world range.0 some) (sym held.seat) so)) held.seen

    pub range_answers : (new : Store) (now : Sight) (told_then : Option Told)
        → FindsAt range querying.machine.avoided store new sight now told_then
        → AnswersSo config core k new sight now told_then
    range_answers new now (Some answer) done = range_found new now done.before done.seat done.was done.changes answer
        done.finds
    range_answers new now None done = range_held new now done.before done.seat done.was done.changes done.finds
