-- What a query is told of a leaf is what the core tells it.
use Rattle.std.proofs.Common.{◌≡◌, ◌∙◌, ◌<◌, ℕ, ℤ, Bool, true, false, List, length, sym, ap, subst, arith}
use Rattle.std.specs.Prelude.{slice_get, Option, Some, None}
use Rattle.std.proofs.lemmas.List.{length-map}
use Rattle.leaf_store.specs.LeafStates.{key_buckets}
use Rattle.leaf_eval.specs.Visits.{IsFoundAt, IsVisit}
use Rattle.leaf_eval.specs.declared.visits.Visit.{Visit}
use Rattle.leaf_eval.specs.declared.visits.Visit.TheVariants as visit
use Rattle.mon_config.specs.declared.config.Config.{Config}
use Rattle.mon_schema.specs.Names.{SchemaLists}
use Rattle.mon_value.specs.declared.histories.Entry.{Entry}
use Rattle.mon_value.specs.declared.positions.Leaf.{Leaf}
use Rattle.mon_value.specs.declared.positions.RangeSlot.{RangeSlot}
use Rattle.query_core.proofs.AskLemmas.{slots_same}
use Rattle.query_core.specs.Machine.{Query, slots_at, slots_of}
use Rattle.query_traces.specs.Rounds.{typed_of, QuerySetting}
use Rattle.query_core.specs.Program.{ask_of}
use Rattle.mon_meaning.specs.ReadableSlots.{CanBeRead}
use Rattle.query_traces.specs.declared.asks.Ask.{Ask}
use Rattle.query_traces.specs.declared.asks.Ask.TheVariants as ask
use Rattle.query_traces.specs.declared.asks.Told.{Told}
use Rattle.core_store.proofs.MeetingLemmas.{leaf_met}
use Rattle.weave_core.proofs.QuerySeats.{same_world, shared_leaf, visited_same}
use Rattle.core_theory.proofs.ReaderAnswers.{reader_reads}
use Rattle.core_store.proofs.SeatLemmas.{parts_alike}
use Rattle.core_store.specs.Agreements.{IsLeafSo}
use Rattle.core_theory.specs.Core.{Core, IsLookedAt, IsTold, Reader, query_now}
use Rattle.core_store.specs.Holders.{HoldsLeaf}
use Rattle.core_store.specs.Meetings.{sight_at_leaf}
use Rattle.core_store.specs.WriteEvents.{IsHeldFrom}
use Rattle.weave_core.specs.QueryLooks.{IsSeatedForLeaf, Looks, LooksAt, visit_told}
use Rattle.weave_core.specs.QueryTurns.{AnswersSo, IsAnswered, IsAsking, QueryWaits}
use Rattle.mon_topo.specs.Sights.{AreAlike, sight_of}
use Rattle.core_store.specs.Agreements.{store_of}
use Rattle.core_store.specs.WriteEvents.{ChangesLeaf}
use Rattle.core_store.specs.declared.leaves.LeafSeat.{LeafSeat}
use Rattle.weave_core.specs.declared.queries.Querying.{Querying}
use Rattle.mon_topo.specs.declared.sights.Sight.{Sight}
use Rattle.core_store.specs.declared.store.Store.{Store}
use Rattle.write_core.proofs.KeepsLemmas.{changed_same}
use Rattle.mon_topo.specs.Views.{View, joined_view, of_leaf}
use Rattle.write_core.specs.World.{World}
use Rattle.weave_core.proofs.AskingLemmas.{answered, asked_of, asks_then, from, not_mine, there_at, waits}
use Rattle.core_store.proofs.WriteTurnLemmas.{some_of}

module _ (config : Config) (core : Core (store_of config)) (k : ℕ) (store : Store) (querying : Querying) (sight : Sight)
    (asking : IsAsking config core k store querying sight) where
  abbrev reader : Reader (store_of config)
  reader = core.readers k

  abbrev world : World
  world = core.world

  abbrev query : Query
  query = query_now (store_of config) reader

  abbrev asked : QuerySetting
  asked = querying.machine.setting

  abbrev asks : Ask
  asks = ask_of querying.machine.setting querying.machine.stage

  module _ (leaf : Leaf) (e : asks ≡ ask.Visit leaf) where
    pub leaf_there : leaf.0 < length store.leaves.items
    leaf_there = omega (
      arith,
      there_at config core k store querying sight asking (ask.Visit leaf) e,
      asking.shared.leaves.count,
    )

    leaf_so : (seat : LeafSeat) → slice_get store.leaves.items leaf.0 ≡ Some seat → IsLeafSo config world leaf seat
    leaf_so seat was = asking.shared.leaves.each leaf.0 seat was

    own_slots : slots_of querying.machine.stage leaf ≡ slots_at query
    own_slots =
        slots_same asked querying.machine.stage leaf e
        ∙ ap (λ (one : Query). slots_at one) (sym asking.reader.now)

    readable : (seat : LeafSeat) → slice_get store.leaves.items leaf.0 ≡ Some seat → seat.holder ≡ None
        → CanBeRead (typed_of asked) seat.state.history (slots_of querying.machine.stage leaf)
    readable seat was free =
        let so = leaf_so seat was in
        let all = reader_reads (store_of config) world reader asking.woven.world (asking.woven.readers k)
        asking.reader.first (asked_of config core k store querying sight asking)
        (from config core k store querying sight asking) leaf
        (asks_then config core k store querying sight asking (ask.Visit leaf) e) (sym so.holder ∙ free) in
        subst (λ (slots : List RangeSlot). CanBeRead (typed_of asked) seat.state.history slots) (sym own_slots)
        (subst (λ (history : List Entry). CanBeRead (typed_of asked) history (slots_at query)) (sym so.history)
        (subst (λ (some : QuerySetting). CanBeRead (typed_of some) (of_leaf world.truth leaf) (slots_at query))
        asking.reader.setting all))

    pub leaf_seated : IsSeatedForLeaf querying leaf store.leaves.items sight
    leaf_seated seat was =
        let so = leaf_so seat was in
        let parts = parts_alike (store_of config) world reader.view (world.leaves leaf.0) (asking.woven.readers k).part
        (asking.woven.world.leaves leaf) in (
          subst (λ (s : Sight). AreAlike s seat.sight) (sym asking.reader.seen)
              (subst (λ (s : Sight). AreAlike (sight_of reader.view.seen) s) (sym so.sight) parts),
          omega (
            arith,
            there_at config core k store querying sight asking (ask.Visit leaf) e,
            ap (λ (s : Sight). length s.leaves) so.sight,
            length-map (world.leaves leaf.0).seen.leaves length,
            (asking.woven.world.leaves leaf).sound.held.all_leaves,
          ),
          readable seat was,
        )

    module _ (new : Store) (now : Sight) (seat left : LeafSeat) (was : slice_get store.leaves.items leaf.0 ≡ Some seat)
        (changes : ChangesLeaf leaf left store new) where
      so : IsLeafSo config world leaf seat
      so = leaf_so seat was

      limit_is : store.config.limit ≡ reader.setting.limit
      limit_is =
          ap (λ (c : Config). c.limit) asking.shared.config_is ∙ sym asking.planned.limit
          ∙ ap (λ (some : QuerySetting). some.limit) (sym asking.reader.setting)

      -- what is found at the leaf, of the world and of the query in the core
      abbrev Found : Visit → Type 0
      Found = IsVisit reader.setting.plan reader.moment reader.setting.limit (of_leaf world.truth leaf)
          (key_buckets config.buckets config.schemas) (slots_at query)

      found_there : (some : Visit) → IsVisit asked.plan querying.moment store.config.limit seat.state.history
          (key_buckets seat.state.buckets seat.state.schemas) (slots_of querying.machine.stage leaf) some → Found some
      found_there some found =
          let own_buckets = key_buckets config.buckets config.schemas in
          let slots = slots_of querying.machine.stage leaf in
          subst (λ (a : QuerySetting). IsVisit a.plan reader.moment reader.setting.limit (of_leaf world.truth leaf)
          own_buckets (slots_at query) some) (sym asking.reader.setting)
          (subst (λ (slots : List RangeSlot). IsVisit asked.plan reader.moment reader.setting.limit
          (of_leaf world.truth leaf) own_buckets slots some) own_slots
          (subst (λ (limit : ℕ). IsVisit asked.plan reader.moment limit (of_leaf world.truth leaf) own_buckets slots
          some) limit_is
          (subst (λ (moment : ℤ). IsVisit asked.plan moment store.config.limit (of_leaf world.truth leaf) own_buckets
          slots some) (sym asking.reader.moment)
          (subst (λ (history : List Entry). IsVisit asked.plan querying.moment store.config.limit history own_buckets
          slots some) so.history
          (subst (λ (held : SchemaLists). IsVisit asked.plan querying.moment store.config.limit seat.state.history
          (key_buckets config.buckets held) slots some) so.schemas
          (subst (λ (count : ℕ). IsVisit asked.plan querying.moment store.config.limit seat.state.history
          (key_buckets count seat.state.schemas) slots some) so.buckets found))))))

      looked_at : (down : Bool) (cut : ℕ) → world.leaf_holder leaf.0 ≡ None
          → IsFoundAt (of_leaf world.truth leaf) cut down → IsLookedAt world leaf cut down
      looked_at down cut free found = record { free = free; whole = found.whole; is = found.is }

      found_told : world.leaf_holder leaf.0 ≡ None → (some : Visit) → Found some
          → IsTold (store_of config) reader.setting reader.moment world reader.view query.avoided (slots_at query)
          (ask.Visit leaf) (visit_told some)
      found_told free (visit.Down cut) found = looked_at true cut free found
      found_told free (visit.Unread cut) found = (looked_at false cut free found.0, found.1)
      found_told free (visit.Read cut part) found = (looked_at false cut free found.0, found.1, found.2)
      found_told free (visit.Over load cut) found = (looked_at false cut free found.0, found.1, found.2)

      pub leaf_looked : (answer : Told) → Looks asked.plan querying.moment store.config.limit
          (slots_of querying.machine.stage leaf) leaf seat left sight now answer → IsAnswered config core k new now
          answer
      leaf_looked answer looks =
          let seen_then : now ≡ sight_of (joined_view reader.view (world.leaves leaf.0)).seen =
          looks.seen
          ∙ (λ i. sight_at_leaf leaf (so.history i) (asking.reader.seen i) (so.sight i))
          ∙ leaf_met (store_of config) world reader.view leaf asking.woven.world (asking.woven.readers k).part in
          answered config core k store querying sight asking (ask.Visit leaf) e new now answer (record {
            told = subst (λ (some : Told). IsTold (store_of config) reader.setting reader.moment world reader.view
                query.avoided (slots_at query) (ask.Visit leaf) some) (sym looks.told_so)
                (found_told (sym so.holder ∙ looks.free) looks.visit (found_there looks.visit looks.found));
            shared = shared_leaf config world _ leaf store new left (visited_same world leaf reader.view) asking.shared
                changes
                (record {
                  schemas = looks.stays.schemas ∙ so.schemas;
                  buckets = looks.stays.buckets ∙ so.buckets;
                  history = looks.history ∙ so.history;
                  promised = looks.stays.promised ∙ so.promised;
                  holder = looks.holder ∙ so.holder;
                  sight = looks.stays.sight_there ∙ seen_then
                      ∙ ap (λ (view : View). sight_of view.seen)
                      (sym (changed_same world.leaves leaf.0 (joined_view reader.view (world.leaves leaf.0))));
                  zone = looks.stays.zone ∙ so.zone;
                  place = looks.stays.place ∙ so.place;
                });
            sight_is = seen_then;
          })

      pub leaf_held : IsHeldFrom seat.holder seat left sight now → QueryWaits config core k new sight now
      leaf_held held =
          let other = some_of seat.holder held.held in
          waits config core k store querying sight asking (ask.Visit leaf) e new now other.0 (sym so.holder ∙ other.1)
          (not_mine config core k store querying sight asking (λ actor. HoldsLeaf leaf.0 actor) (λ stander h. h) other.0
          (asking.holders.leaf leaf.0 other.0 (sym so.holder ∙ other.1)))
          (shared_leaf config world world leaf store new left (same_world world _ _) asking.shared changes
          (subst (λ (some : LeafSeat). IsLeafSo config world leaf some) (sym held.seat) so)) held.seen

    pub leaf_answers : (new : Store) (now : Sight) (told_then : Option Told) → LooksAt querying leaf store new sight
        now told_then
        → AnswersSo config core k new sight now told_then
    leaf_answers new now (Some answer) done = leaf_looked new now done.before done.seat done.was done.changes answer
        done.looks
    leaf_answers new now None done = leaf_held new now done.before done.seat done.was done.changes done.looks
